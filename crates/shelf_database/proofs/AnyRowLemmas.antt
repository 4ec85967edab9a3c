-- Where a query shows a row, one passes, and where it shows none, none passes.
use Rattle.std.proofs.Common.{◌≡◌, inl, inr, ℕ, List, [], ◌∷◌, filter, find, length, slice_get, Bool, true, ◌&&◌, Some, None, option_map, is_some, IsSome, refl, sym, ap, subst, ◌∙◌, arith, Option, false}
use Rattle.std.proofs.lemmas.List.{length-map}
use Rattle.std.specs.List.{list_all}
use Rattle.std.proofs.lemmas.Bool.{cases_Bool, and_parts, and_from, true≢false}
use Rattle.std.proofs.lemmas.Slice.Eq.{bytes_eq-Decides}
use Rattle.std.proofs.lemmas.List.Sorted.{length_permutation}
use Rattle.sqlite.specs.declared.types.Value.TheVariants.{Text}
use Rattle.sqlite.specs.Order.{Row, column, bytes}
use Rattle.sqlite.specs.Term.{Term, col, holds}
use Rattle.sqlite.specs.Query.{IsAnswer, Output}
use Rattle.sqlite.specs.Program.{overlay}
use Rattle.sqlite.specs.Effect.{Database}
use Rattle.sqlite_value.specs.declared.keys.Key.{Key}
use Rattle.sqlite_rules.specs.Lists.{Has}
use Rattle.sqlite_rules.proofs.ListLemmas.{has_filtered, has_got}
use Rattle.shelf.specs.declared.kinds.StickerKind.{StickerKind}
use Rattle.shelf_database.specs.Tables.{has_text, has_key, of_target, kind_text, note_maps}
use Rattle.shelf_database.specs.Asks.{IsFirst}
use Rattle.shelf_database.proofs.Statements.{over, target_terms, rising}
use Rattle.shelf_database.proofs.ReadLemmas.{IsRead, answer_is, shows}
use Rattle.shelf_database.proofs.DeleteLemmas.{map_has, has_permuted, filtered_has}
use Rattle.shelf_database.proofs.FindLemmas.{find_none}
use Rattle.shelf_database.proofs.FoundLemmas.{mapped_some}
use Rattle.shelf_database.proofs.TextLemmas.{target_test, same_bytes}

no_items : {X : Type 0} (xs : List X) → length xs ≡ 0 → xs ≡ []
no_items [] none = refl
no_items (x ∷ xs) none = absurd (omega (arith, none))

none_first : {X : Type 0} (xs : List X) → slice_get xs 0 ≡ None → length xs ≡ 0
none_first [] none = refl
none_first (x ∷ xs) none = absurd (cc)

module _ (params : Row) (tree : ℕ) (terms project : List Term) (order : List (Term × Key)) (test : Row → Bool) (tests : (row : Row) → list_all (holds (params ∷ row ∷ [])) terms ≡ test row)
    (found rows : List Row) (read : IsRead params tree terms project order test tests found rows) where
  pub shown_from : (row : Row) → Has rows row → (r : Row) × Has found r × (row ≡ (shows params tree terms project order test tests r).1)
  shown_from row h =
      let out = map_has (λ (o : Output). o.1) read.sorted row (subst (λ xs. Has xs row) read.shown h) in
      let from = map_has (shows params tree terms project order test tests) found out.0 (has_permuted _ read.sorted out.0 read.same out.1) in
      (from.0, from.1, out.2 ∙ ap (λ (o : Output). o.1) from.2)

  pub none_shown : slice_get rows 0 ≡ None → found ≡ []
  none_shown none =
      let shown : length rows ≡ length read.sorted = ap length read.shown ∙ length-map read.sorted (λ (o : Output). o.1) in
      let same : length read.sorted ≡ length found = length_permutation _ _ read.same ∙ length-map found (shows params tree terms project order test tests) in
      no_items found (omega (arith, shown, same, none_first rows none))

pub some_passes : (p : Row → Bool) (rows : List Row) (row : Row) → Has rows row → p row ≡ true → is_some (find p rows) ≡ true
some_passes p [] row h is = absurd h
some_passes p (r ∷ rows) row h is = elim (cases_Bool (p r)) [
  | inl here ↦ rw here refl
  | inr other ↦ elim h [
    | inl same ↦ absurd (true≢false (sym is ∙ ap p same ∙ other))
    | inr later ↦ rw other (some_passes p rows row later is)
  ]
]

none_passes : (p q : Row → Bool) (rows : List Row) → filter q rows ≡ [] → ((r : Row) → p r ≡ true → q r ≡ true) → find p rows ≡ None
none_passes p q rows none within = find_none p rows (λ r h. elim (cases_Bool (p r)) [
  | inl is ↦ absurd (subst (λ xs. Has xs r) none (filtered_has q rows r h (within r is)))
  | inr other ↦ other
])

module _ (kind : StickerKind) (target : List ℕ) (db : Database) (rows : List Row) (answer : IsAnswer (over 5 target_terms (col 1 3 ∷ []) (rising 3)) (overlay db.trees []) (Text (kind_text kind) ∷ Text target ∷ []) rows) where
  abbrev params_of : Row
  params_of = Text (kind_text kind) ∷ Text target ∷ []

  abbrev names_of_target : IsRead params_of 5 target_terms (col 1 3 ∷ []) (rising 3) (of_target kind target) (target_test kind target) (filter (of_target kind target) (db.trees 5)) rows
  names_of_target = answer_is params_of 5 target_terms (col 1 3 ∷ []) (rising 3) (of_target kind target) (target_test kind target) (overlay db.trees []) rows answer

  pub note_there : (row : Row) (name : List ℕ) → slice_get rows 0 ≡ Some row → column row 0 ≡ Text name → IsSome ((note_maps db.trees).stickers kind target name)
  note_there row name first read =
      let from = shown_from params_of 5 target_terms (col 1 3 ∷ []) (rising 3) (of_target kind target) (target_test kind target) (filter (of_target kind target) (db.trees 5)) rows names_of_target row (has_got rows 0 row first) in
      let was = has_filtered (of_target kind target) (db.trees 5) from.0 from.1 in
      let both = and_parts _ _ was.1 in
      let name_is : column from.0 3 ≡ Text name = sym (ap (λ r. column r 0) from.2) ∙ read in
      let named : has_text 3 name from.0 ≡ true = rw name_is (same_bytes name name ∙ (bytes_eq-Decides name name).1 refl) in
      mapped_some (λ r. bytes (column r 4)) (find (has_key kind target name) (db.trees 5))
      ∙ some_passes (has_key kind target name) (db.trees 5) from.0 was.0 (and_from _ _ both.0 (and_from _ _ both.1 named))

  of_its_target : (name : List ℕ) (r : Row) → has_key kind target name r ≡ true → of_target kind target r ≡ true
  of_its_target name r is =
      let first = and_parts (has_text 1 (kind_text kind) r) (has_text 2 target r && has_text 3 name r) is in
      and_from (has_text 1 (kind_text kind) r) (has_text 2 target r) first.0 (and_parts (has_text 2 target r) (has_text 3 name r) first.1).0

  pub no_note_there : slice_get rows 0 ≡ None → (name : List ℕ) → (note_maps db.trees).stickers kind target name ≡ None
  no_note_there first name =
      let none = none_shown params_of 5 target_terms (col 1 3 ∷ []) (rising 3) (of_target kind target) (target_test kind target) (filter (of_target kind target) (db.trees 5)) rows names_of_target first in
      ap (option_map (λ r. bytes (column r 4))) (none_passes (has_key kind target name) (of_target kind target) (db.trees 5) none (λ r is. of_its_target name r is))

  -- the text of the first row is the name of one
  pub any_there : (name : Option (List ℕ)) → IsFirst rows name → is_some name ≡ true → (name : List ℕ) × IsSome ((note_maps db.trees).stickers kind target name)
  any_there None first some = absurd (cc)
  any_there (Some name) first some = (name, note_there first.0 name first.1 first.2)

  pub none_there : (name : Option (List ℕ)) → IsFirst rows name → is_some name ≡ false → (other : List ℕ) → (note_maps db.trees).stickers kind target other ≡ None
  none_there None first none = no_note_there first
  none_there (Some name) first none = absurd (cc)
