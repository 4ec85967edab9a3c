-- What the words of a filter ask for, and those of a window after it (MPD protocol reference, Filters and The
-- music database; how many words there may be, and the texts of the faults, are this profile's).
use Rattle.std.specs.Prelude.{ℕ, ◌-◌, nat_le, Bool, ◌&&◌, List, [], ◌∷◌, ◌++◌, length, take, drop, slice_index_or, Option, Some, None, Result, Ok, Err, if◌then◌else◌, codes, decimal}
use Rattle.std.specs.Str.{bytes_eq}
use Rattle.filters.specs.Expressions.{Expression}
use Rattle.filters.specs.Machine.{parsed}
use Rattle.filters.specs.Pairs.{pairs_meaning}
use Rattle.filters.specs.declared.expression.Test.{Test}
use Rattle.filters.specs.declared.words.Vocabulary.{Vocabulary}
use Rattle.filters.specs.declared.pairs.Pair.{Pair}
use Rattle.filters.specs.declared.reading.FilterFault.{FilterFault}
use Rattle.filters.specs.declared.reading.FilterFault.TheVariants.{Syntax, UnknownTag, TooDeep, NoMemory}
use Rattle.command_arguments.specs.Forms.{first_is, window_of}
use Rattle.command_arguments.specs.Readers.{map_ok, argument_of, both, none_of}
use Rattle.command_arguments.specs.declared.forms.Window.{Window}
use Rattle.command_arguments.specs.declared.readers.Misread.{Misread}
use Rattle.command_arguments.specs.declared.readers.Misread.TheVariants.{WrongNumber, Bad}
use Rattle.command_arguments.specs.declared.criteria.Criteria.{Criteria}
use Rattle.command_arguments.specs.declared.criteria.Criteria.TheVariants.{Meeting, Refused}

-- why a filter cannot be read
abbrev pub fault_text : FilterFault → List ℕ
fault_text (Syntax offset) = codes "bad filter at byte " ++ decimal offset
fault_text (UnknownTag word) = codes "unknown tag \"" ++ (word ++ codes "\"")
fault_text TooDeep = codes "filter too deep"
fault_text NoMemory = []

-- the songs that a filter asks for, or why it cannot be read, which refuses the effect and not the words
abbrev pub asked : Result Expression FilterFault → Criteria
asked (Ok e) = Meeting e
asked (Err fault) = Refused (fault_text fault)

-- a word that begins with a parenthesis is a filter alone
abbrev pub is_alone : List ℕ → Bool
is_alone word = first_is 40 word

-- words by twos, TYPE and WHAT, where none is left over
abbrev pub pairs_of : List (List ℕ) → Result (List Pair) Misread
pairs_of [] = Ok []
pairs_of (name ∷ []) = Err WrongNumber
pairs_of (name ∷ text ∷ words) = map_ok (λ pairs. record { name = name; text = text } ∷ pairs) (pairs_of words)

-- what pairs ask for together
abbrev pub paired : Vocabulary → Test → List (List ℕ) → Result Criteria Misread
paired vocabulary test words = map_ok (λ pairs. asked (pairs_meaning vocabulary test pairs)) (pairs_of words)

-- FILTER: one word that is a filter alone, or at least one pair
abbrev pub filter_of : Vocabulary → Test → List (List ℕ) → Result Criteria Misread
filter_of vocabulary test [] = Err WrongNumber
filter_of vocabulary test (word ∷ words) =
    if is_alone word then none_of (asked (parsed vocabulary word)) words else paired vocabulary test (word ∷ words)

-- the last but one of at least four words is `window`
abbrev pub ends_in_window : List (List ℕ) → Bool
ends_in_window words = nat_le 4 (length words) && bytes_eq (slice_index_or words (length words - 2) []) (codes "window")

-- how many of the words are the filter's; those after them are a window's
abbrev pub filter_length : List (List ℕ) → ℕ
filter_length [] = 0
filter_length (word ∷ words) = if is_alone word then 1 else (if ends_in_window (word ∷ words) then length (word ∷ words) - 2 else length (word ∷ words))

-- WINDOW or nothing
abbrev pub perhaps_window_of : List (List ℕ) → Result (Option Window) Misread
perhaps_window_of [] = Ok None
perhaps_window_of (word ∷ positions ∷ []) = if bytes_eq word (codes "window") then map_ok Some (argument_of window_of positions) else Err (Bad word)
perhaps_window_of _ = Err WrongNumber

-- FILTER [WINDOW]
abbrev pub filter_window_of : Vocabulary → Test → List (List ℕ) → Result (Criteria × Option Window) Misread
filter_window_of vocabulary test words =
    both (filter_of vocabulary test (take (filter_length words) words)) (perhaps_window_of (drop (filter_length words) words))

-- FILTER or nothing
abbrev pub perhaps_filter_of : Vocabulary → Test → List (List ℕ) → Result (Option Criteria) Misread
perhaps_filter_of vocabulary test [] = Ok None
perhaps_filter_of vocabulary test (word ∷ words) = map_ok Some (filter_of vocabulary test (word ∷ words))

-- one argument, and perhaps FILTER after it, of which the number of words alone can be wrong: so it comes
-- before the argument's form
abbrev pub one_filter_of : {A : Type 0} → (List ℕ → Option A) → Vocabulary → Test → List (List ℕ) → Result (A × Option Criteria) Misread
one_filter_of read vocabulary test [] = Err WrongNumber
one_filter_of read vocabulary test (word ∷ words) = map_ok (λ p. (p.1, p.0)) (both (perhaps_filter_of vocabulary test words) (argument_of read word))
