-- Where a row that a query shows has no text, the row of the table that it comes from has none.
use Rattle.std.proofs.Common.{◌≡◌, ℕ, List, [], ◌∷◌, filter, slice_get, Bool, true, ◌&&◌, Some, refl, ap, subst, ◌∙◌, inl, inr}
use Rattle.std.specs.List.{list_all}
use Rattle.sqlite.specs.declared.types.Value.TheVariants.{Text}
use Rattle.sqlite.specs.Order.{Row, column}
use Rattle.sqlite.specs.Tree.{Trees}
use Rattle.sqlite.specs.Term.{Term, col, holds, eval_all}
use Rattle.sqlite.specs.Query.{IsAnswer}
use Rattle.sqlite.specs.Program.{overlay}
use Rattle.sqlite_value.specs.declared.keys.Key.{Key}
use Rattle.sqlite_rules.specs.Lists.{Has}
use Rattle.sqlite_rules.proofs.ListLemmas.{has_filtered, has_got}
use Rattle.shelf.specs.declared.kinds.StickerKind.{StickerKind}
use Rattle.shelf_database.specs.Tables.{has_text, has_key, of_target, kind_text}
use Rattle.shelf_database.specs.Faults.{IsNoText, LacksText}
use Rattle.shelf_database.proofs.Statements.{over, equals, rising, key_terms, target_terms, name_terms}
use Rattle.shelf_database.proofs.ReadLemmas.{answer_is}
use Rattle.shelf_database.proofs.AnyRowLemmas.{shown_from}
use Rattle.shelf_database.proofs.TextLemmas.{one_test, two_tests, target_test, key_test}

-- the first row is one of them
pub first_lacks : (rows : List Row) (row : Row) → slice_get rows 0 ≡ Some row → IsNoText (column row 0) → LacksText (0 ∷ []) (λ _. true) rows
first_lacks rows row first lacks = (row, has_got rows 0 row first, refl, 0, inl refl, lacks)

-- each of these columns shows one of those of the table
abbrev Moves : Row → List Term → List ℕ → List ℕ → Type 0
Moves params project columns sources = (row : Row) (at : ℕ) → Has columns at → (index : ℕ) × Has sources index × (column (eval_all project (params ∷ row ∷ [])) at ≡ column row index)

first_moves : (params : Row) (index : ℕ) → Moves params (col 1 index ∷ []) (0 ∷ []) (index ∷ [])
first_moves params index row at (inl is) = (index, inl refl, ap (column (eval_all (col 1 index ∷ []) (params ∷ row ∷ []))) is)
first_moves params index row at (inr never) = absurd never

both_move : (params : Row) (a b : ℕ) → Moves params (col 1 a ∷ col 1 b ∷ []) (0 ∷ 1 ∷ []) (a ∷ b ∷ [])
both_move params a b row at (inl is) = (a, inl refl, ap (column (eval_all (col 1 a ∷ col 1 b ∷ []) (params ∷ row ∷ []))) is)
both_move params a b row at (inr (inl is)) = (b, inr (inl refl), ap (column (eval_all (col 1 a ∷ col 1 b ∷ []) (params ∷ row ∷ []))) is)
both_move params a b row at (inr (inr never)) = absurd never

module _ (params : Row) (tree : ℕ) (terms project : List Term) (order : List (Term × Key)) (test : Row → Bool) (tests : (row : Row) → list_all (holds (params ∷ row ∷ [])) terms ≡ test row) where
  lacks_below : (columns sources : List ℕ) → Moves params project columns sources → (db : Trees) (rows : List Row) → IsAnswer (over tree terms project order) db params rows
      → LacksText columns (λ _. true) rows → LacksText sources test (db tree)
  lacks_below columns sources moves db rows answer lacks =
      let read = answer_is params tree terms project order test tests db rows answer in
      let from = shown_from params tree terms project order test tests (filter test (db tree)) rows read lacks.0 lacks.1 in
      let was = has_filtered test (db tree) from.0 from.1 in
      let moved = moves from.0 lacks.3 lacks.4 in
      let same : column lacks.0 lacks.3 ≡ column from.0 moved.0 = ap (λ r. column r lacks.3) from.2 ∙ moved.2 in
      (from.0, was.0, was.1, moved.0, moved.1, subst IsNoText same lacks.5)

-- ---- the queries

module _ (db : Trees) (rows : List Row) where
  pub uris_lack : (name : List ℕ) → IsAnswer (over 1 (equals 1 0 ∷ []) (col 1 2 ∷ []) []) (overlay db []) (Text name ∷ []) rows → LacksText (0 ∷ []) (λ _. true) rows → LacksText (2 ∷ []) (has_text 1 name) (db 1)
  uris_lack name = lacks_below (Text name ∷ []) 1 (equals 1 0 ∷ []) (col 1 2 ∷ []) [] (has_text 1 name) (one_test 1 name) (0 ∷ []) (2 ∷ []) (first_moves (Text name ∷ []) 2) (overlay db []) rows

  pub names_lack : IsAnswer (over 1 [] (col 1 1 ∷ []) (rising 1)) (overlay db []) [] rows → LacksText (0 ∷ []) (λ _. true) rows → LacksText (1 ∷ []) (λ _. true) (db 1)
  names_lack = lacks_below [] 1 [] (col 1 1 ∷ []) (rising 1) (λ _. true) (λ _. refl) (0 ∷ []) (1 ∷ []) (first_moves [] 1) (overlay db []) rows

  pub value_lacks : (kind : StickerKind) (target name : List ℕ) → IsAnswer (over 5 key_terms (col 1 4 ∷ []) []) (overlay db []) (Text (kind_text kind) ∷ Text target ∷ Text name ∷ []) rows
      → LacksText (0 ∷ []) (λ _. true) rows → LacksText (4 ∷ []) (has_key kind target name) (db 5)
  value_lacks kind target name =
      lacks_below (Text (kind_text kind) ∷ Text target ∷ Text name ∷ []) 5 key_terms (col 1 4 ∷ []) [] (has_key kind target name) (key_test kind target name)
      (0 ∷ []) (4 ∷ []) (first_moves (Text (kind_text kind) ∷ Text target ∷ Text name ∷ []) 4) (overlay db []) rows

  pub of_target_lack : (kind : StickerKind) (target : List ℕ) → IsAnswer (over 5 target_terms (col 1 3 ∷ col 1 4 ∷ []) (rising 3)) (overlay db []) (Text (kind_text kind) ∷ Text target ∷ []) rows
      → LacksText (0 ∷ 1 ∷ []) (λ _. true) rows → LacksText (3 ∷ 4 ∷ []) (of_target kind target) (db 5)
  of_target_lack kind target =
      lacks_below (Text (kind_text kind) ∷ Text target ∷ []) 5 target_terms (col 1 3 ∷ col 1 4 ∷ []) (rising 3) (of_target kind target) (target_test kind target)
      (0 ∷ 1 ∷ []) (3 ∷ 4 ∷ []) (both_move (Text (kind_text kind) ∷ Text target ∷ []) 3 4) (overlay db []) rows

  pub names_of_target_lack : (kind : StickerKind) (target : List ℕ) → IsAnswer (over 5 target_terms (col 1 3 ∷ []) (rising 3)) (overlay db []) (Text (kind_text kind) ∷ Text target ∷ []) rows
      → LacksText (0 ∷ []) (λ _. true) rows → LacksText (3 ∷ []) (of_target kind target) (db 5)
  names_of_target_lack kind target =
      lacks_below (Text (kind_text kind) ∷ Text target ∷ []) 5 target_terms (col 1 3 ∷ []) (rising 3) (of_target kind target) (target_test kind target)
      (0 ∷ []) (3 ∷ []) (first_moves (Text (kind_text kind) ∷ Text target ∷ []) 3) (overlay db []) rows

  pub of_name_lack : (kind : StickerKind) (name : List ℕ) → IsAnswer (over 5 name_terms (col 1 2 ∷ col 1 4 ∷ []) (rising 2)) (overlay db []) (Text (kind_text kind) ∷ Text name ∷ []) rows
      → LacksText (0 ∷ 1 ∷ []) (λ _. true) rows → LacksText (2 ∷ 4 ∷ []) (λ row. has_text 1 (kind_text kind) row && has_text 3 name row) (db 5)
  of_name_lack kind name =
      lacks_below (Text (kind_text kind) ∷ Text name ∷ []) 5 name_terms (col 1 2 ∷ col 1 4 ∷ []) (rising 2) (λ row. has_text 1 (kind_text kind) row && has_text 3 name row) (two_tests 1 3 (kind_text kind) name)
      (0 ∷ 1 ∷ []) (2 ∷ 4 ∷ []) (both_move (Text (kind_text kind) ∷ Text name ∷ []) 2 4) (overlay db []) rows
