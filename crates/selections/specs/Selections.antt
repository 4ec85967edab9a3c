-- SELECTION, and what comes before and after it (MPD protocol reference, The music database; that the options
-- are read from the right, and which fault is told first, are this profile's).
use Rattle.std.specs.Prelude.{◌≡◌, ℕ, Bool, true, false, List, [], ◌∷◌, ◌++◌, Option, Some, None, Result, Err, codes}
use Rattle.filters.specs.declared.expression.Test.{Test}
use Rattle.filters.specs.declared.words.Vocabulary.TheVariants.{Base, Known}
use Rattle.command_arguments.specs.Forms.{position_of, window_of}
use Rattle.command_arguments.specs.Readers.{map_ok, argument_of, both}
use Rattle.command_arguments.specs.Criteria.{filter_of, filter_window_of}
use Rattle.command_arguments.specs.declared.forms.Position.{Position}
use Rattle.command_arguments.specs.declared.forms.Window.{Window}
use Rattle.command_arguments.specs.declared.readers.Misread.{Misread}
use Rattle.command_arguments.specs.declared.readers.Misread.TheVariants.{WrongNumber}
use Rattle.command_arguments.specs.declared.criteria.Criteria.{Criteria}
use Rattle.selections.specs.Options.{sort_of, before, option_words, option_of}
use Rattle.selections.specs.declared.asked.Selection.{Selection}
use Rattle.selections.specs.declared.sort_by.SortBy.{SortBy}

-- FILTER [sort [-]TAG]
abbrev pub sorted_of : Test → List (List ℕ) → Result (Criteria × Option SortBy) Misread
sorted_of test words = both (filter_of Known test (before (codes "sort") 1 words)) (option_of sort_of (option_words (codes "sort") 1 words))

-- a filter with its order, and then a window
abbrev pub with_window : Result ((Criteria × Option SortBy) × Option Window) Misread → Result Selection Misread
with_window r = map_ok (λ p. record { criteria = p.0.0; sort = p.0.1; window = p.1 }) r

-- SELECTION: FILTER [sort [-]TAG] [window START:END]
abbrev pub windowed_of : Test → List (List ℕ) → Result Selection Misread
windowed_of test words = with_window (both (sorted_of test (before (codes "window") 1 words)) (option_of window_of (option_words (codes "window") 1 words)))

-- SELECTION [position POSITION]
abbrev pub known_placed_of : Test → List (List ℕ) → Result (Selection × Option Position) Misread
known_placed_of test words = both (windowed_of test (before (codes "position") 1 words)) (option_of position_of (option_words (codes "position") 1 words))

-- FILTER [WINDOW], as the base profile has it
abbrev pub base_selection_of : Test → List (List ℕ) → Result Selection Misread
base_selection_of test words = map_ok (λ p. record { criteria = p.0; sort = None; window = p.1 }) (filter_window_of Base test words)

-- FILTER, as the base profile has it
abbrev pub base_placed_of : Test → List (List ℕ) → Result (Selection × Option Position) Misread
base_placed_of test words = map_ok (λ criteria. (record { criteria = criteria; sort = None; window = None }, None)) (filter_of Base test words)

-- `find` and `search`: SELECTION in the everyday profile
unfoldable pub selection_of : Bool → Test → List (List ℕ) → Result Selection Misread
selection_of true test words = windowed_of test words
selection_of false test words = base_selection_of test words

-- `findadd` and `searchadd`: SELECTION [position POSITION] in the everyday profile
unfoldable pub placed_selection_of : Bool → Test → List (List ℕ) → Result (Selection × Option Position) Misread
placed_selection_of true test words = known_placed_of test words
placed_selection_of false test words = base_placed_of test words

-- `searchaddpl`: NAME SELECTION
unfoldable pub name_selection_of : Test → List (List ℕ) → Result (List ℕ × Selection) Misread
name_selection_of test [] = Err WrongNumber
name_selection_of test (name ∷ words) = map_ok (λ selection. (name, selection)) (windowed_of test words)

-- after at least one word, `window ARGUMENT` at the end is read from that argument, and the rest from the
-- words before it
abbrev pub WindowIsRead : Type 0
WindowIsRead = (test : Test) (word argument : List ℕ) (words : List (List ℕ))
    → selection_of true test (word ∷ words ++ codes "window" ∷ argument ∷ []) ≡ with_window (both (sorted_of test (word ∷ words)) (map_ok Some (argument_of window_of argument)))

-- and so is `sort ARGUMENT` at the end of a selection without a window
abbrev pub SortIsRead : Type 0
SortIsRead = (test : Test) (word argument : List ℕ) (words : List (List ℕ))
    → sorted_of test (word ∷ words ++ codes "sort" ∷ argument ∷ []) ≡ both (filter_of Known test (word ∷ words)) (map_ok Some (argument_of sort_of argument))

-- and `position ARGUMENT`, which comes after a selection
abbrev pub PositionIsRead : Type 0
PositionIsRead = (test : Test) (word argument : List ℕ) (words : List (List ℕ))
    → placed_selection_of true test (word ∷ words ++ codes "position" ∷ argument ∷ []) ≡ both (selection_of true test (word ∷ words)) (map_ok Some (argument_of position_of argument))
