-- Command lists as they stand among a client's lines (MPD protocol reference, Command lists; the limit is
-- this profile's).
use Rattle.std.specs.Prelude.{◌≡◌, ℕ, ◌+◌, List, [], ◌∷◌, ◌++◌, length, sum_by, Bool, false, true, nat_le, if◌then◌else◌, Option, Some, None}
use Rattle.command_lists.specs.declared.collector.Taken.{Taken}
use Rattle.command_lists.specs.declared.collector.Taken.TheVariants.{Alone, Begun, Collected, Ended, TooLarge}
use Rattle.command_lists.specs.declared.list.CommandList.{CommandList}
use Rattle.command_lists.specs.declared.list.ListLine.{ListLine}
use Rattle.command_lists.specs.declared.list.ListLine.TheVariants.{Text, NotText}
use Rattle.command_lists.specs.declared.word.ListForm.{ListForm}
use Rattle.command_lists.specs.declared.word.ListWord.{ListWord}
use Rattle.command_lists.specs.declared.word.ListWord.TheVariants.{Begin, End}
use Rattle.command_lists.specs.Words.{word_of}

-- a line as a client sends it: its text, or nothing where it is not UTF-8
abbrev pub LineData : Type 0
LineData = Option (List ℕ)

-- the word that a line is, if it is one
abbrev pub list_word : LineData → Option ListWord
list_word None = None
list_word (Some text) = word_of text

abbrev pub ends : Option ListWord → Bool
ends None = false
ends (Some (Begin form)) = false
ends (Some End) = true

-- a line as a list has it
abbrev pub kept : LineData → ListLine
kept None = NotText
kept (Some text) = Text text

-- the bytes of a line, with its newline
abbrev pub line_bytes : ListLine → ℕ
line_bytes (Text text) = length text + 1
line_bytes NotText = 1

abbrev pub list_bytes : List ListLine → ℕ
list_bytes lines = sum_by line_bytes lines

abbrev pub fits : CommandList → Bool
fits list = nat_le (list_bytes list.lines) 2097152

-- a list that has begun
abbrev pub begun : ListForm → CommandList
begun form = record { form = form; lines = [] }

abbrev pub with_line : CommandList → LineData → CommandList
with_line list line = record { form = list.form; lines = list.lines ++ kept line ∷ [] }

-- the list that is open after a line, and what the line was taken as
pub record Outcome : Type 0 where
  pub open_list : Option CommandList
  pub taken : Taken

abbrev pub is_too_large : Taken → Bool
is_too_large Alone = false
is_too_large Begun = false
is_too_large Collected = false
is_too_large (Ended list) = false
is_too_large TooLarge = true

-- where no list is open, a begin word begins one, and any other line is alone
abbrev pub outcome_outside : Option ListWord → Outcome
outcome_outside (Some (Begin form)) = record { open_list = Some (begun form); taken = Begun }
outcome_outside (Some End) = record { open_list = None; taken = Alone }
outcome_outside None = record { open_list = None; taken = Alone }

-- a line is collected, unless the list is too large with it
abbrev pub outcome_with : CommandList → Outcome
outcome_with list = if fits list then record { open_list = Some list; taken = Collected } else record { open_list = None; taken = TooLarge }

-- where a list is open, the end word ends it, and any other line is its next
abbrev pub outcome_inside : CommandList → LineData → Option ListWord → Outcome
outcome_inside list line (Some (Begin form)) = outcome_with (with_line list line)
outcome_inside list line (Some End) = record { open_list = None; taken = Ended list }
outcome_inside list line None = outcome_with (with_line list line)

abbrev pub outcome_of : Option CommandList → LineData → Outcome
outcome_of None line = outcome_outside (list_word line)
outcome_of (Some list) line = outcome_inside list line (list_word line)

-- a line is taken as this, and leaves this list open
abbrev pub TakesLine : Option CommandList → Option CommandList → LineData → Taken → Type 0
TakesLine old new line t = record { open_list = new; taken = t } ≡ outcome_of old line

-- the list that is open after some lines, and what each of them was taken as
pub record Outcomes : Type 0 where
  pub open_list : Option CommandList
  pub taken : List Taken

-- lines, one after the other
unfoldable pub outcomes_of : Option CommandList → List LineData → Outcomes
outcomes_of list [] = record { open_list = list; taken = [] }
outcomes_of list (line ∷ lines) = record {
  open_list = (outcomes_of (outcome_of list line).open_list lines).open_list;
  taken = (outcome_of list line).taken ∷ (outcomes_of (outcome_of list line).open_list lines).taken;
}

-- more lines after some
abbrev pub outcomes_then : Outcomes → List LineData → Outcomes
outcomes_then outcomes more = record { open_list = (outcomes_of outcomes.open_list more).open_list; taken = outcomes.taken ++ (outcomes_of outcomes.open_list more).taken }
