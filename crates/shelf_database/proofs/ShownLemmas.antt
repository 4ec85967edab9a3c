-- What the three queries of many rows list.
use Rattle.std.proofs.Common.{false, ◌≡◌, ℕ, List, [], ◌∷◌, map, filter, find, Bool, true, ◌&&◌, Result, Ok, Err, IfOk, option_map, refl, sym, ap, subst, ◌∙◌, Ordering}
use Rattle.std.proofs.Math.Bool.{and_comm}
use Rattle.std.specs.List.{list_all}
use Rattle.std.specs.List.Sorted.{IsPermutation, IsSorted}
use Rattle.std.proofs.lemmas.Simd.{map-map}
use Rattle.sqlite.specs.declared.types.Value.TheVariants.{Text}
use Rattle.sqlite.specs.Order.{Row, column, bytes, value_cmp}
use Rattle.sqlite.specs.Term.{Term, col, holds, eval_all}
use Rattle.sqlite.specs.Query.{IsAnswer, Output, output_cmp}
use Rattle.sqlite.specs.Program.{overlay}
use Rattle.sqlite.specs.Effect.{Database}
use Rattle.sqlite_value.proofs.OrderLemmas.{then-Equal}
use Rattle.shelf.specs.Lines.{lines_of}
use Rattle.shelf.specs.declared.kinds.StickerKind.{StickerKind}
use Rattle.shelf.specs.Maps.{AreKeys, AreEntries}
use Rattle.shelf_database.specs.Tables.{has_text, has_key, of_target, kind_text, text_where, note_maps, IsShelf}
use Rattle.shelf_database.proofs.Statements.{over, rising, target_terms, name_terms}
use Rattle.shelf_database.proofs.ReadLemmas.{IsRead, answer_is, shows}
use Rattle.shelf_database.proofs.MovedLemmas.{moved_back}
use Rattle.shelf_database.proofs.OnceLemmas.{Once, once_list, once_note}
use Rattle.shelf_database.proofs.TextLemmas.{two_tests, target_test}
use Rattle.shelf_database.proofs.FoundLemmas.{mapped_some}
use Rattle.shelf_database.proofs.ListedLemmas.{images_sorted, keys_rise, key_listed, entries_rise, entry_found}

pub IfOk-both : {X Y : Type 0} (r : Result X Y) (P Q R : X → Type 0) → ((x : X) → P x → Q x → R x) → IfOk r P → IfOk r Q → IfOk r R
IfOk-both (Ok x) P Q R f p q = f x p q
IfOk-both (Err e) P Q R f p q = tt

-- rows that are found, in the order of a column
abbrev InOrder : ℕ → List Row → List Row → Type 0
InOrder at found moved = IsPermutation found moved × IsSorted (λ a b. value_cmp (column a at) (column b at)) moved

module _ (params : Row) (tree at : ℕ) (terms project : List Term) (test : Row → Bool) (tests : (row : Row) → list_all (holds (params ∷ row ∷ [])) terms ≡ test row) where
  abbrev by_output : Row → Row → Ordering
  by_output a b = output_cmp (over tree terms project (rising at)) (shows params tree terms project (rising at) test tests a) (shows params tree terms project (rising at) test tests b)

  abbrev by_column : Row → Row → Ordering
  by_column a b = value_cmp (column a at) (column b at)

  same_order : by_output ≡ by_column
  same_order = λ i. λ a b. then-Equal (by_column a b) i

  in_order : (found rows : List Row) → IsRead params tree terms project (rising at) test tests found rows
      → (moved : List Row) × InOrder at found moved × (rows ≡ map (λ r. eval_all project (params ∷ r ∷ [])) moved)
  in_order found rows read =
      let images = moved_back (shows params tree terms project (rising at) test tests) found read.sorted read.same in
      let rise = images_sorted (shows params tree terms project (rising at) test tests) (output_cmp (over tree terms project (rising at))) images.0 (subst (IsSorted (output_cmp (over tree terms project (rising at)))) images.2 read.rises) in
      let order : InOrder at found images.0 = (images.1, subst (λ (R : Row → Row → Ordering). IsSorted R images.0) same_order rise) in
      (images.0, order, read.shown ∙ ap (map (λ (o : Output). o.1)) images.2 ∙ map-map (λ (o : Output). o.1) (shows params tree terms project (rising at) test tests) images.0)

pub lists_shown : (db : Database) (rows : List Row) (names : List (List ℕ)) → IsShelf db → IsAnswer (over 1 [] (col 1 1 ∷ []) (rising 1)) (overlay db.trees []) [] rows
    → map (λ row. column row 0) rows ≡ map Text names → AreKeys (note_maps db.trees).lists names
lists_shown db rows names is answer texts =
    let all : Row → Bool = λ r. true in
    let read = answer_is [] 1 [] (col 1 1 ∷ []) (rising 1) all (λ r. refl) (overlay db.trees []) rows answer in
    let o = in_order [] 1 1 [] (col 1 1 ∷ []) all (λ r. refl) (filter all (db.trees 1)) rows read in
    let shown : map (λ r. column r 1) o.0 ≡ map Text names = sym (ap (map (λ row. column row 0)) o.2 ∙ map-map (λ row. column row 0) (λ r. eval_all (col 1 1 ∷ []) ([] ∷ r ∷ [])) o.0) ∙ texts in
    record {
      rising = keys_rise 1 all (has_text 1) (λ key r. refl) (db.trees 1) is.lists.rise (λ name. once_list name db is) o.0 o.1.0 names shown o.1.1;
      whole = λ key. key_listed 1 all (has_text 1) (λ name r. refl) (db.trees 1) is.lists.rise (λ name. once_list name db is) o.0 o.1.0 names shown key
          ∙ sym (mapped_some (λ row. bytes (column row 2)) (find (has_text 1 key) (db.trees 1))) ∙ sym (mapped_some lines_of (option_map (λ row. bytes (column row 2)) (find (has_text 1 key) (db.trees 1))));
    }

module _ (db : Database) (is : IsShelf db) (params : Row) (at : ℕ) (terms : List Term) (test : Row → Bool) (tests : (row : Row) → list_all (holds (params ∷ row ∷ [])) terms ≡ test row)
    (both : List ℕ → Row → Bool) (same : (key : List ℕ) (r : Row) → both key r ≡ (test r && has_text at key r)) (once : (key : List ℕ) → Once (both key) (db.trees 5)) where
  -- the stickers that pass a test, by the texts of a column
  notes_shown : (rows : List Row) (entries : List (List ℕ × List ℕ)) → IsAnswer (over 5 terms (col 1 at ∷ col 1 4 ∷ []) (rising at)) (overlay db.trees []) params rows
      → map (λ row. column row 0) rows ≡ map (λ e. Text e.0) entries → map (λ row. column row 1) rows ≡ map (λ e. Text e.1) entries → AreEntries (λ key. text_where 4 (both key) (db.trees 5)) entries
  notes_shown rows entries answer keys values =
      let project : List Term = col 1 at ∷ col 1 4 ∷ [] in
      let read = answer_is params 5 terms project (rising at) test tests (overlay db.trees []) rows answer in
      let o = in_order params 5 at terms project test tests (filter test (db.trees 5)) rows read in
      let shown = λ (index : ℕ). ap (map (λ row. column row index)) o.2 ∙ map-map (λ row. column row index) (λ r. eval_all project (params ∷ r ∷ [])) o.0 in
      record {
        rising = entries_rise at test both same (db.trees 5) is.notes.rise once o.0 o.1.0 entries 4 (sym (shown 0) ∙ keys) (sym (shown 1) ∙ values) o.1.1;
        whole = entry_found at test both same (db.trees 5) is.notes.rise once o.0 o.1.0 entries 4 (sym (shown 0) ∙ keys) (sym (shown 1) ∙ values);
      }

grouped : (a b c : Bool) → (a && (b && c)) ≡ ((a && b) && c)
grouped true b c = refl
grouped false b c = refl

turned : (a b c : Bool) → (a && (b && c)) ≡ ((a && c) && b)
turned true b c = and_comm b c
turned false b c = refl

-- the entries of one target, and of one name
module _ (kind : StickerKind) (text : List ℕ) (db : Database) (is : IsShelf db) (rows : List Row) (entries : List (List ℕ × List ℕ))
    (keys : map (λ row. column row 0) rows ≡ map (λ e. Text e.0) entries) (values : map (λ row. column row 1) rows ≡ map (λ e. Text e.1) entries) where
  abbrev asked_by : Row
  asked_by = Text (kind_text kind) ∷ Text text ∷ []

  pub of_target_shown : IsAnswer (over 5 target_terms (col 1 3 ∷ col 1 4 ∷ []) (rising 3)) (overlay db.trees []) asked_by rows → AreEntries ((note_maps db.trees).stickers kind text) entries
  of_target_shown answer =
      notes_shown db is asked_by 3 target_terms (of_target kind text) (target_test kind text) (λ name. has_key kind text name) (λ name r. grouped (has_text 1 (kind_text kind) r) (has_text 2 text r) (has_text 3 name r)) (λ name. once_note kind text name db is) rows entries answer keys values

  pub of_name_shown : IsAnswer (over 5 name_terms (col 1 2 ∷ col 1 4 ∷ []) (rising 2)) (overlay db.trees []) asked_by rows → AreEntries (λ target. (note_maps db.trees).stickers kind target text) entries
  of_name_shown answer =
      notes_shown db is asked_by 2 name_terms (λ r. has_text 1 (kind_text kind) r && has_text 3 text r) (two_tests 1 3 (kind_text kind) text) (λ target. has_key kind target text) (λ target r. turned (has_text 1 (kind_text kind) r) (has_text 2 target r) (has_text 3 text r))
      (λ target. once_note kind target text db is) rows entries answer keys values
