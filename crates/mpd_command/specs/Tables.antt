-- Tables of commands: each row a name, and what the words after it are read as.
use Rattle.std.specs.Prelude.{ℕ, Bool, List, [], ◌∷◌, Option, Some, None, Result, Ok, Err, map, if◌then◌else◌}
use Rattle.std.specs.Str.{bytes_eq}
use Rattle.filters.specs.declared.expression.Test.{Test}
use Rattle.command_arguments.specs.Readers.{map_ok, none_of, one_of, perhaps_of, two_of, three_of, one_perhaps_of, one_many_of}
use Rattle.command_arguments.specs.declared.forms.Position.{Position}
use Rattle.command_arguments.specs.declared.readers.Misread.{Misread}
use Rattle.command_arguments.specs.Criteria.{filter_of}
use Rattle.command_arguments.specs.declared.criteria.Criteria.{Criteria}
use Rattle.filters.specs.declared.words.Vocabulary.TheVariants.{Known}
use Rattle.selections.specs.Groupings.{counting_of, grouping_of}
use Rattle.selections.specs.Selections.{name_selection_of, placed_selection_of, selection_of}
use Rattle.selections.specs.declared.asked.Counting.{Counting}
use Rattle.selections.specs.declared.asked.Grouping.{Grouping}
use Rattle.selections.specs.declared.asked.Selection.{Selection}

-- what the words after a name are read as
abbrev pub Arguments : Type 0 → Type 0
Arguments A = List (List ℕ) → Result A Misread

abbrev pub Row : Type 0 → Type 0
Row A = List ℕ × Arguments A

-- what the words after a name are read as in the first row of that name; nothing where no row has it
abbrev pub found : {A : Type 0} → List (Row A) → List ℕ → List (List ℕ) → Result (Option A) Misread
found [] word words = Ok None
found (row ∷ rows) word words = if bytes_eq word row.0 then map_ok Some (row.1 words) else found rows word words

-- what the first table says, or the other where it says nothing
abbrev pub or_else : {A : Type 0} → Result (Option A) Misread → Result (Option A) Misread → Result (Option A) Misread
or_else (Ok None) other = other
or_else (Ok (Some a)) other = Ok (Some a)
or_else (Err misread) other = Err misread

-- a group's commands as commands
abbrev pub under : {A B : Type 0} → (A → B) → Result (Option A) Misread → Result (Option B) Misread
under f (Ok None) = Ok None
under f (Ok (Some a)) = Ok (Some (f a))
under f (Err misread) = Err misread

abbrev pub names_of : {A : Type 0} → List (Row A) → List (List ℕ)
names_of rows = map (λ row. row.0) rows

-- no argument
abbrev pub none : {A : Type 0} → A → Arguments A
none a words = none_of a words

-- one argument of this form
abbrev pub one : {A B : Type 0} → (List ℕ → Option A) → (A → B) → Arguments B
one form f words = map_ok f (one_of form words)

-- one argument of this form, or none
abbrev pub perhaps : {A B : Type 0} → (List ℕ → Option A) → (Option A → B) → Arguments B
perhaps form f words = map_ok f (perhaps_of form words)

-- two arguments of these forms
abbrev pub two : {A B C : Type 0} → (List ℕ → Option A) → (List ℕ → Option B) → (A → B → C) → Arguments C
two first second f words = map_ok (λ p. f p.0 p.1) (two_of first second words)

-- three arguments of these forms
abbrev pub three : {A B C D : Type 0} → (List ℕ → Option A) → (List ℕ → Option B) → (List ℕ → Option C) → (A → B → C → D) → Arguments D
three first second third f words = map_ok (λ p. f p.0 p.1 p.2) (three_of first second third words)

-- one argument, and perhaps one of the second form after it
abbrev pub one_perhaps : {A B C : Type 0} → (List ℕ → Option A) → (List ℕ → Option B) → (A → Option B → C) → Arguments C
one_perhaps first second f words = map_ok (λ p. f p.0 p.1) (one_perhaps_of first second words)

-- one argument, and at least one of the second form after it
abbrev pub one_many : {A B C : Type 0} → (List ℕ → Option A) → (List ℕ → Option B) → (A → List B → C) → Arguments C
one_many first second f words = map_ok (λ p. f p.0 p.1) (one_many_of first second words)

-- a filter of all tags that clients know, whose pairs ask by this test
abbrev pub filter : {A : Type 0} → Test → (Criteria → A) → Arguments A
filter test f words = map_ok f (filter_of Known test words)

-- a filter, an order and a window
abbrev pub selection : {A : Type 0} → Bool → Test → (Selection → A) → Arguments A
selection everyday test f words = map_ok f (selection_of everyday test words)

-- the same, and where the songs go
abbrev pub placed_selection : {A : Type 0} → Bool → Test → (Selection → Option Position → A) → Arguments A
placed_selection everyday test f words = map_ok (λ p. f p.0 p.1) (placed_selection_of everyday test words)

-- a name, and then a filter, an order and a window
abbrev pub name_selection : {A : Type 0} → Test → (List ℕ → Selection → A) → Arguments A
name_selection test f words = map_ok (λ p. f p.0 p.1) (name_selection_of test words)

-- a tag, a filter, and other tags
abbrev pub grouping : {A : Type 0} → Bool → (Grouping → A) → Arguments A
grouping everyday f words = map_ok f (grouping_of everyday words)

-- a filter and a tag, or one of them
abbrev pub counting : {A : Type 0} → Bool → (Counting → A) → Arguments A
counting everyday f words = map_ok f (counting_of everyday words)
