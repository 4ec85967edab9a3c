-- What a client's lines are, of whole lists of lines: lines alone, and command lists between their words (MPD
-- protocol reference, Command lists).
use Rattle.std.specs.Prelude.{◌≡◌, ℕ, ◌+◌, ◌<◌, ◌≤◌, ◌↔◌, List, [], ◌∷◌, ◌++◌, map, flat_map, Option, Some, None}
use Rattle.mpd_text.specs.Lines.Grammar.{AreBlanks}
use Rattle.command_lists.specs.declared.collector.Taken.{Taken}
use Rattle.command_lists.specs.declared.collector.Taken.TheVariants.{Alone, Begun, Collected, Ended, TooLarge}
use Rattle.command_lists.specs.declared.list.CommandList.{CommandList}
use Rattle.command_lists.specs.declared.word.ListForm.{ListForm}
use Rattle.command_lists.specs.declared.word.ListWord.{ListWord}
use Rattle.command_lists.specs.declared.word.ListWord.TheVariants.{Begin, End}
use Rattle.command_lists.specs.Words.{text_of}
use Rattle.command_lists.specs.Lists.{LineData, list_word, kept, line_bytes, list_bytes, outcomes_of, outcomes_then}

-- the line is this word alone, as it is written, with blanks before and after it
abbrev pub IsWord : LineData → ListWord → Type 0
IsWord None word = ⊥
IsWord (Some line) word = (front back : List ℕ) × (line ≡ front ++ (text_of word ++ back)) × AreBlanks front × AreBlanks back

abbrev pub BeginsNone : LineData → Type 0
BeginsNone line = (form : ListForm) → ¬ IsWord line (Begin form)

abbrev pub EndsNone : LineData → Type 0
EndsNone line = ¬ IsWord line End

-- none of the lines ends a list
abbrev pub NoneEnds : List LineData → Type 0
NoneEnds [] = Unit {0}
NoneEnds (line ∷ lines) = EndsNone line × NoneEnds lines

-- the first line begins this list, and the others are all its lines; none of them ends it, and they are not
-- too large together
abbrev pub Opens : LineData → List LineData → CommandList → Type 0
Opens first others list =
    IsWord first (Begin list.form) × (list.lines ≡ map kept others) × NoneEnds others × (list_bytes list.lines ≤ 2097152)

-- what lines can be together
pub data Part : Type 0 where
  -- a line that is in no list
  Single : Part
  -- a list, from the word that begins it to the one that ends it
  Whole : (list : CommandList) → Part
  -- a list that is dropped, since the line after these makes it too large
  Dropped : (list : CommandList) → Part

abbrev pub IsPart : List LineData → Part → Type 0
IsPart lines Single = (line : LineData) × (lines ≡ line ∷ []) × BeginsNone line
IsPart lines (Whole list) =
    (first : LineData) × (others : List LineData) × (last : LineData) × (lines ≡ first ∷ (others ++ last ∷ [])) × Opens first others list × IsWord last End
IsPart lines (Dropped list) =
    (first : LineData) × (others : List LineData) × (last : LineData) × (lines ≡ first ∷ (others ++ last ∷ [])) × Opens first others list × EndsNone last
    × (2097152 < list_bytes list.lines + line_bytes (kept last))

-- what is open at the end: no list, or one of which these lines have come
abbrev pub IsOpen : List LineData → Option CommandList → Type 0
IsOpen lines None = lines ≡ []
IsOpen lines (Some list) = (first : LineData) × (others : List LineData) × (lines ≡ first ∷ others) × Opens first others list

-- The lines are these parts, one after the other, and then what is open.
abbrev pub Spells : List LineData → List Part → Option CommandList → Type 0
Spells lines [] list = IsOpen lines list
Spells lines (part ∷ parts) list =
    (front back : List LineData) × (lines ≡ front ++ back) × IsPart front part × Spells back parts list

-- a list's lines are collected, from the word that begins it on
abbrev pub begun_with : CommandList → List Taken
begun_with list = Begun ∷ map (λ _. Collected) list.lines

-- what the lines of a part are taken as
abbrev pub taken_of : Part → List Taken
taken_of Single = Alone ∷ []
taken_of (Whole list) = begun_with list ++ Ended list ∷ []
taken_of (Dropped list) = begun_with list ++ TooLarge ∷ []

abbrev pub taken_open : Option CommandList → List Taken
taken_open None = []
taken_open (Some list) = begun_with list

-- a line is read as a list word exactly where it is that word alone
abbrev pub WordsAreAlone : Type 0
WordsAreAlone = (line : LineData) (word : ListWord) → (list_word line ≡ Some word) ↔ IsWord line word

-- where lines are cut does not matter
abbrev pub AnyCut : Type 0
AnyCut = (list : Option CommandList) (lines more : List LineData) → outcomes_of list (lines ++ more) ≡ outcomes_then (outcomes_of list lines) more

-- lines are taken as the parts that they are, so each whole list is handed out with exactly its lines
abbrev pub PartsAreTaken : Type 0
PartsAreTaken = (lines : List LineData) (parts : List Part) (list : Option CommandList) → Spells lines parts list
    → outcomes_of None lines ≡ record { open_list = list; taken = flat_map taken_of parts ++ taken_open list }

-- any lines are some parts, and then what is open
abbrev pub LinesAreParts : Type 0
LinesAreParts = (lines : List LineData) → (parts : List Part) × (list : Option CommandList) × Spells lines parts list
