-- What a query by a whole key shows: the one row with the key, if there is one.
use Rattle.std.proofs.Common.{◌≡◌, ℕ, List, [], ◌∷◌, map, find, length, slice_get, Bool, false, Some, None, Option, option_map, is_some, refl, ap, subst, ◌∙◌, arith}
use Rattle.std.specs.Option.{option_to_list}
use Rattle.std.specs.List.{list_all}
use Rattle.std.proofs.lemmas.List.Sorted.{length_permutation}
use Rattle.sqlite.specs.declared.types.Value.TheVariants.{Text}
use Rattle.sqlite.specs.Order.{Row, column, bytes}
use Rattle.sqlite.specs.Term.{Term, col, holds}
use Rattle.sqlite.specs.Query.{IsAnswer, Output}
use Rattle.sqlite.specs.Program.{overlay}
use Rattle.sqlite.specs.Effect.{Database}
use Rattle.sqlite.proofs.Callers.{one_permutation}
use Rattle.shelf_database.specs.Asks.{IsFirst}
use Rattle.shelf.specs.declared.kinds.StickerKind.{StickerKind}
use Rattle.shelf_database.specs.Tables.{has_text, has_key, kind_text, IsShelf}
use Rattle.shelf_database.proofs.Statements.{over, equals, key_terms}
use Rattle.shelf_database.proofs.ReadLemmas.{IsRead, answer_is, shows}
use Rattle.shelf_database.proofs.TextLemmas.{one_test, key_test}
use Rattle.shelf_database.proofs.OnceLemmas.{found_once, once_list, once_note}

abbrev pub shown_of : ℕ → Option Row → List Row
shown_of at o = option_to_list (option_map (λ r. column r at ∷ []) o)

module _ (params : Row) (tree at : ℕ) (terms : List Term) (test : Row → Bool) (tests : (row : Row) → list_all (holds (params ∷ row ∷ [])) terms ≡ test row) where
  one_shown : (o : Option Row) (rows : List Row) → IsRead params tree terms (col 1 at ∷ []) [] test tests (option_to_list o) rows → rows ≡ shown_of at o
  one_shown None rows read = at_none read.sorted read.shown (length_permutation _ _ read.same)
    where
      at_none : (sorted : List Output) → rows ≡ map (λ (o : Output). o.1) sorted → length sorted ≡ 0 → rows ≡ []
      at_none [] shown none = shown
      at_none (o ∷ more) shown none = absurd (omega (arith, none))
  one_shown (Some r) rows read = read.shown ∙ ap (map (λ (o : Output). o.1)) (one_permutation (shows params tree terms (col 1 at ∷ []) [] test tests r) read.sorted read.same)

pub list_shown : (at : ℕ) (name : List ℕ) (db : Database) (rows : List Row) → IsShelf db → IsAnswer (over 1 (equals 1 0 ∷ []) (col 1 at ∷ []) []) (overlay db.trees []) (Text name ∷ []) rows
    → rows ≡ shown_of at (find (has_text 1 name) (db.trees 1))
list_shown at name db rows is answer =
    let read = answer_is (Text name ∷ []) 1 (equals 1 0 ∷ []) (col 1 at ∷ []) [] (has_text 1 name) (one_test 1 name) (overlay db.trees []) rows answer in
    let once = found_once (has_text 1 name) (db.trees 1) is.lists.rise (once_list name db is) in
    one_shown (Text name ∷ []) 1 at (equals 1 0 ∷ []) (has_text 1 name) (one_test 1 name) (find (has_text 1 name) (db.trees 1)) rows
    (subst (λ found. IsRead (Text name ∷ []) 1 (equals 1 0 ∷ []) (col 1 at ∷ []) [] (has_text 1 name) (one_test 1 name) found rows) once read)

pub note_shown : (kind : StickerKind) (target name : List ℕ) (db : Database) (rows : List Row) → IsShelf db → IsAnswer (over 5 key_terms (col 1 4 ∷ []) []) (overlay db.trees []) (Text (kind_text kind) ∷ Text target ∷ Text name ∷ []) rows
    → rows ≡ shown_of 4 (find (has_key kind target name) (db.trees 5))
note_shown kind target name db rows is answer =
    let params : Row = Text (kind_text kind) ∷ Text target ∷ Text name ∷ [] in
    let test : Row → Bool = has_key kind target name in
    let read = answer_is params 5 key_terms (col 1 4 ∷ []) [] test (key_test kind target name) (overlay db.trees []) rows answer in
    let once = found_once test (db.trees 5) is.notes.rise (once_note kind target name db is) in
    one_shown params 5 4 key_terms test (key_test kind target name) (find test (db.trees 5)) rows
    (subst (λ found. IsRead params 5 key_terms (col 1 4 ∷ []) [] test (key_test kind target name) found rows) once read)

-- the text of the first row is what was found
first_text : (at : ℕ) (o : Option Row) (rows : List Row) (row : Row) (text : List ℕ) → rows ≡ shown_of at o → slice_get rows 0 ≡ Some row → column row 0 ≡ Text text → option_map (λ r. bytes (column r at)) o ≡ Some text
first_text at None rows row text is first read = absurd (let f = rw is at first in cc)
first_text at (Some r) rows row text is first read =
    let f : Some (column r at ∷ []) ≡ Some row = rw is at first in
    let same : (column r at ∷ []) ≡ row = cc in
    let text_is : column r at ≡ Text text = ap (λ x. column x 0) same ∙ read in
    ap Some (ap bytes text_is)

none_found : (at : ℕ) (o : Option Row) (rows : List Row) → rows ≡ shown_of at o → slice_get rows 0 ≡ None → is_some o ≡ false
none_found at None rows is first = refl
none_found at (Some r) rows is first = absurd (let f = rw is at first in cc)

pub mapped_some : {X Y : Type 0} (f : X → Y) (o : Option X) → is_some (option_map f o) ≡ is_some o
mapped_some f None = refl
mapped_some f (Some x) = refl

none_from : {X : Type 0} (o : Option X) → is_some o ≡ false → o ≡ None
none_from None none = refl
none_from (Some x) none = absurd (cc)

-- there is a first row where something was found
pub first_found : (at : ℕ) (o : Option Row) (rows : List Row) → rows ≡ shown_of at o → is_some (slice_get rows 0) ≡ is_some o
first_found at None rows is = rw is refl
first_found at (Some r) rows is = rw is refl

-- the text of the first row is what was found
pub first_is : (at : ℕ) (o : Option Row) (rows : List Row) (text : Option (List ℕ)) → rows ≡ shown_of at o → IsFirst rows text → option_map (λ r. bytes (column r at)) o ≡ text
first_is at o rows None is none = none_mapped (none_found at o rows is none)
  where
    none_mapped : is_some o ≡ false → option_map (λ r. bytes (column r at)) o ≡ None
    none_mapped none = none_from (option_map (λ r. bytes (column r at)) o) (mapped_some (λ r. bytes (column r at)) o ∙ none)
first_is at o rows (Some text) is first = first_text at o rows first.0 text is first.1 first.2
