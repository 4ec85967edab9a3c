-- A filter, read byte by byte: what comes before the next byte, and which parentheses are open. Where the
-- rules are not strict, any tag is known and any number of parentheses may be open: this is the grammar alone
-- (MPD protocol reference, Filters). Which bytes a word has, and what it names, is up to the vocabulary.
use Rattle.std.specs.Prelude.{◌≡◌, ◌<◌, ℕ, ◌+◌, List, [], ◌∷◌, ◌++◌, length, Bool, true, false, ◌&&◌, ◌||◌, ◌==◌, nat_le, nat_lt, codes, slice_index, Option, Some, None, option_map, Result, Ok, Err, if◌then◌else◌}
use Rattle.std.specs.Str.{IsAscii, IsUtf8}
use Rattle.filters.specs.declared.words.Vocabulary.{Vocabulary}
use Rattle.filters.specs.declared.expression.Field.{Field}
use Rattle.filters.specs.declared.expression.Field.TheVariants.{Any}
use Rattle.filters.specs.declared.expression.Test.TheVariants.{Equals, Differs, Contains as ContainsTest}
use Rattle.filters.specs.declared.state.Stop.{Stop}
use Rattle.filters.specs.declared.state.Stop.TheVariants.{Syntax, UnknownTag, TooDeep, NoMemory}
use Rattle.filters.specs.declared.state.Purpose.{Purpose}
use Rattle.filters.specs.declared.state.Purpose.TheVariants.{Whole, Negated, First, Next}
use Rattle.filters.specs.declared.state.Goal.{Goal}
use Rattle.filters.specs.declared.state.Goal.TheVariants.{Compared, Base as BaseGoal}
use Rattle.filters.specs.declared.state.Named.{Named}
use Rattle.filters.specs.declared.state.Named.TheVariants.{Field as NamedField, Base as NamedBase}
use Rattle.filters.specs.declared.state.State.{State}
use Rattle.filters.specs.declared.state.State.TheVariants.{Start, Opened, Bang, Word, AfterField, Sign, Contains, NeedsSpace, BeforeText, InText, Escaped, Done, Joined, AfterJoined, And, AfterAnd, Finished}
use Rattle.filters.specs.declared.reading.FilterFault.{FilterFault}
use Rattle.filters.specs.declared.reading.FilterFault.TheVariants.{Syntax as Err_Syntax, UnknownTag as Err_UnknownTag, TooDeep as Err_TooDeep, NoMemory as Err_NoMemory}
use Rattle.filters.specs.Expressions.{Expression, Compare, Under, Negation, Both}
use Rattle.filters.specs.Words.{is_word_byte, is_base, field_named}

abbrev pub or_any : Option Named → Option Named
or_any None = Some (NamedField Any)
or_any (Some name) = Some name

abbrev pub filter_for : Goal → List ℕ → Expression
filter_for (Compared field test) text = Compare field test text
filter_for BaseGoal text = Under text

-- one parenthesis more is open; the strict rules bound how many
abbrev pub opened : Bool → Purpose → List Purpose → Result (State × List Purpose) Stop
opened strict purpose purposes = if strict && nat_le 32 (length purposes) then Err TooDeep else Ok (Opened, purpose ∷ purposes)

-- the innermost parenthesis is closed after this expression
abbrev pub closed : Expression → List Purpose → Result (State × List Purpose) Stop
closed e [] = Err Syntax
closed e (Whole ∷ purposes) = Ok (Finished e, purposes)
closed e (Negated ∷ purposes) = Ok (Done (Negation e), purposes)
closed e (First ∷ purposes) = Ok (Joined e, purposes)
closed e (Next first ∷ purposes) = Ok (Joined (Both first e), purposes)

abbrev pub sign : Field → ℕ → Result State Stop
sign field b =
    if b == 32 then Ok (AfterField field)
    else (if b == 61 then Ok (Sign field Equals)
    else (if b == 33 then Ok (Sign field Differs)
    else (if b == 99 then Ok (Contains field 1) else Err Syntax)))

abbrev pub after_word : Option Named → List ℕ → ℕ → Result State Stop
after_word None word b = Err (UnknownTag word)
after_word (Some (NamedField field)) word b = sign field b
after_word (Some NamedBase) word b = if b == 32 then Ok (BeforeText BaseGoal) else Err Syntax

-- before a text in quotes: one more space, or the quote that it begins with
abbrev pub before_text : Goal → ℕ → Result State Stop
before_text goal b =
    if b == 32 then Ok (BeforeText goal)
    else (if (b == 34) || (b == 39) then Ok (InText goal b []) else Err Syntax)

-- between quotes: the quote that ends the text, a backslash, or one more byte of it
abbrev pub in_text : Goal → ℕ → List ℕ → ℕ → Result State Stop
in_text goal quote text b =
    if b == quote then Ok (Done (filter_for goal text))
    else (if b == 92 then Ok (Escaped goal quote text)
    else Ok (InText goal quote (text ++ b ∷ [])))

abbrev pub contains_letter : Field → ℕ → ℕ → Result State Stop
contains_letter field read b =
    if nat_lt read 7 && (b == slice_index (codes "contains") read) then Ok (Contains field (read + 1))
    else (if (read == 7) && (b == 115) then Ok (NeedsSpace (Compared field ContainsTest)) else Err Syntax)

abbrev pub and_letter : Expression → ℕ → ℕ → Result State Stop
and_letter e read b =
    if (read == 1) && (b == 78) then Ok (And e 2)
    else (if (read == 2) && (b == 68) then Ok (And e 3)
    else (if (read == 3) && (b == 32) then Ok (AfterAnd e) else Err Syntax))

-- a step that opens and closes nothing
abbrev pub alone : Result State Stop → List Purpose → Result (State × List Purpose) Stop
alone (Ok state) purposes = Ok (state, purposes)
alone (Err stop) purposes = Err stop

-- after what is alone in its parenthesis: one more space, or the parenthesis closes
abbrev pub done : Expression → List Purpose → ℕ → Result (State × List Purpose) Stop
done e purposes b = if b == 32 then Ok (Done e, purposes) else (if b == 41 then closed e purposes else Err Syntax)

-- right after the last of those that are to hold together
abbrev pub joined : Expression → List Purpose → ℕ → Result (State × List Purpose) Stop
joined e purposes b = if b == 32 then Ok (AfterJoined e, purposes) else (if b == 41 then closed e purposes else Err Syntax)

-- after them and spaces
abbrev pub after_joined : Expression → List Purpose → ℕ → Result (State × List Purpose) Stop
after_joined e purposes b =
    if b == 32 then Ok (AfterJoined e, purposes)
    else (if b == 65 then Ok (And e 1, purposes)
    else (if b == 41 then closed e purposes else Err Syntax))

-- after AND and spaces
abbrev pub after_and : Bool → Expression → List Purpose → ℕ → Result (State × List Purpose) Stop
after_and strict e purposes b = if b == 32 then Ok (AfterAnd e, purposes) else (if b == 40 then opened strict (Next e) purposes else Err Syntax)

-- what is given, with what is open then, is this, unless memory ran out
abbrev pub Steps : Result State Stop → List Purpose → Result (State × List Purpose) Stop → Type 0
Steps (Ok state) purposes exact = exact ≡ Ok (state, purposes)
Steps (Err NoMemory) purposes exact = Unit {0}
Steps (Err Syntax) purposes exact = exact ≡ Err Syntax
Steps (Err (UnknownTag word)) purposes exact = exact ≡ Err (UnknownTag word)
Steps (Err TooDeep) purposes exact = exact ≡ Err TooDeep

abbrev pub StepsAlone : Result State Stop → Result State Stop → Type 0
StepsAlone (Ok state) exact = exact ≡ Ok state
StepsAlone (Err NoMemory) exact = Unit {0}
StepsAlone (Err Syntax) exact = exact ≡ Err Syntax
StepsAlone (Err (UnknownTag word)) exact = exact ≡ Err (UnknownTag word)
StepsAlone (Err TooDeep) exact = exact ≡ Err TooDeep

abbrev pub fault_at : ℕ → Stop → FilterFault
fault_at n Syntax = Err_Syntax n
fault_at n (UnknownTag word) = Err_UnknownTag word
fault_at n TooDeep = Err_TooDeep
fault_at n NoMemory = Err_NoMemory

abbrev pub word_at_end : ℕ → Option Named → List ℕ → Result Expression FilterFault
word_at_end n None word = Err (Err_UnknownTag word)
word_at_end n (Some name) word = Err (Err_Syntax n)

abbrev pub goes_on : ℕ → Result (State × List Purpose) Stop → (State → List Purpose → Result Expression FilterFault) → Result Expression FilterFault
goes_on n (Ok next) more = more next.0 next.1
goes_on n (Err stop) more = Err (fault_at n stop)

abbrev pub Reads : Result Expression FilterFault → Result Expression FilterFault → Type 0
Reads (Ok e) exact = exact ≡ Ok e
Reads (Err Err_NoMemory) exact = Unit {0}
Reads (Err (Err_Syntax n)) exact = exact ≡ Err (Err_Syntax n)
Reads (Err (Err_UnknownTag word)) exact = exact ≡ Err (Err_UnknownTag word)
Reads (Err Err_TooDeep) exact = exact ≡ Err Err_TooDeep

-- what was read of a word or of a text in quotes, joined with the rest of the filter, is UTF-8
abbrev pub IsCut : State → List ℕ → Type 0
IsCut (Word word) rest = IsAscii word × IsUtf8 rest
IsCut (InText goal quote text) rest = (quote < 128) × IsUtf8 (text ++ rest)
IsCut (Escaped goal quote text) rest = (quote < 128) × IsUtf8 (text ++ rest)
IsCut _ rest = IsUtf8 rest

-- a word that ends here, and a text whose quote is closed here, are UTF-8
abbrev pub CanTake : State → ℕ → Type 0
CanTake (Word word) b = IsUtf8 word
CanTake (InText goal quote text) b = b ≡ quote → IsUtf8 text
CanTake _ b = Unit {0}

abbrev pub CanEnd : State → Type 0
CanEnd (Word word) = IsUtf8 word
CanEnd _ = Unit {0}

-- with this vocabulary
module _ (vocabulary : Vocabulary) where
  -- what a word before a text names
  unfoldable pub named_of : List ℕ → Option Named
  named_of word = if is_base word then Some NamedBase else option_map NamedField (field_named vocabulary word)

  -- what a word names; where the rules are not strict, any other word names a tag too
  abbrev pub names : Bool → List ℕ → Option Named
  names true word = named_of word
  names false word = or_any (named_of word)

  -- in a word: it goes on with one more byte of words, or another byte comes after it
  abbrev pub in_word : List ℕ → ℕ → Result State Stop
  in_word word b = if is_word_byte vocabulary b then Ok (Word (word ++ b ∷ [])) else after_word (named_of word) word b

  unfoldable pub step : Bool → State → List Purpose → ℕ → Result (State × List Purpose) Stop
  step strict Start purposes b = if b == 40 then opened strict Whole purposes else Err Syntax
  step strict Opened purposes b =
      if b == 32 then Ok (Opened, purposes)
      else (if b == 33 then Ok (Bang, purposes)
      else (if is_word_byte vocabulary b then Ok (Word (b ∷ []), purposes)
      else (if b == 40 then opened strict First purposes else Err Syntax)))
  step strict Bang purposes b = if b == 40 then opened strict Negated purposes else Err Syntax
  step strict (Word word) purposes b = if is_word_byte vocabulary b then Ok (Word (word ++ b ∷ []), purposes) else alone (after_word (names strict word) word b) purposes
  step strict (AfterField field) purposes b = alone (sign field b) purposes
  step strict (Sign field test) purposes b = if b == 61 then Ok (BeforeText (Compared field test), purposes) else Err Syntax
  step strict (Contains field read) purposes b = alone (contains_letter field read b) purposes
  step strict (NeedsSpace goal) purposes b = if b == 32 then Ok (BeforeText goal, purposes) else Err Syntax
  step strict (BeforeText goal) purposes b =
      if b == 32 then Ok (BeforeText goal, purposes)
      else (if (b == 34) || (b == 39) then Ok (InText goal b [], purposes) else Err Syntax)
  step strict (InText goal quote text) purposes b =
      if b == quote then Ok (Done (filter_for goal text), purposes)
      else (if b == 92 then Ok (Escaped goal quote text, purposes)
      else Ok (InText goal quote (text ++ b ∷ []), purposes))
  step strict (Escaped goal quote text) purposes b = Ok (InText goal quote (text ++ b ∷ []), purposes)
  step strict (Done e) purposes b = done e purposes b
  step strict (Joined e) purposes b = joined e purposes b
  step strict (AfterJoined e) purposes b = after_joined e purposes b
  step strict (And e read) purposes b = alone (and_letter e read b) purposes
  step strict (AfterAnd e) purposes b = after_and strict e purposes b
  step strict (Finished e) purposes b = Err Syntax

  -- what a filter is that ends here, at so many bytes
  abbrev pub ending : ℕ → State → Result Expression FilterFault
  ending n (Finished e) = Ok e
  ending n (Word word) = word_at_end n (named_of word) word
  ending n _ = Err (Err_Syntax n)

  -- what the rest of a filter gives after so many bytes
  unfoldable pub run : Bool → ℕ → State → List Purpose → List ℕ → Result Expression FilterFault
  run strict n state purposes [] = ending n state
  run strict n state purposes (b ∷ bs) = goes_on n (step strict state purposes b) (λ next more. run strict (n + 1) next more bs)

  -- the expression of a text, or its first fault from the left
  abbrev pub parsed : List ℕ → Result Expression FilterFault
  parsed text = run true 0 Start [] text
