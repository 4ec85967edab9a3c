-- Why the edit of a rename is stopped: the row with the new name is not stored.
use Rattle.std.proofs.Common.{◌≡◌, inl, inr, ℕ, ◌+◌, ◌^◌, ◌≤◌, pos, negsuc, List, [], ◌∷◌, length, drop, find, sum_by, Bool, true, false, not, ◌&&◌, Some, None, Option, Err, refl, sym, ap, subst, ◌∙◌, arith}
use Rattle.std.specs.Float.{Float, NotNan}
use Rattle.std.specs.Float.Ieee
use Rattle.std.specs.Ordering.{is_eq}
use Rattle.std.proofs.Math.Bool.{and-true}
use Rattle.std.proofs.lemmas.Bool.{cases_Bool, true≢false, both_ways, false_from_ne_true, not-true, and_parts}
use Rattle.sqlite.specs.declared.error.Error.{Error}
use Rattle.sqlite.specs.declared.types.Value.{Value}
use Rattle.sqlite.specs.declared.types.Value.TheVariants.{Null, Int, Real, Text, Blob}
use Rattle.sqlite.specs.Order.{Row, column, number, bytes, value_cmp}
use Rattle.sqlite.specs.Tree.{Trees, rowid}
use Rattle.sqlite.specs.Kind.TheVariants as kind
use Rattle.sqlite.specs.View.{is_int}
use Rattle.sqlite.specs.Ops.{fits_i64, is_null}
use Rattle.sqlite.specs.Edit.{Edit, id_in, is_taken, without_all, edited, left_by, taken_by}
use Rattle.sqlite.specs.Rows.{Edited}
use Rattle.sqlite.specs.Effect.{Database}
use Rattle.sqlite.specs.State.{State}
use Rattle.sqlite_value.specs.Keys.{first_key}
use Rattle.sqlite_trees.specs.Tree.{with_tree}
use Rattle.sqlite_trees.specs.View.{IsStorable}
use Rattle.sqlite_sql.specs.Catalog.{entry_of}
use Rattle.sqlite_schema.specs.declared.schema.Keys.TheVariants.{Enforced}
use Rattle.sqlite_schema.specs.declared.schema.Constraint.TheVariants.{Datatype, NotNull, Check, PrimaryKey, Unique, ForeignKey}
use Rattle.sqlite_schema.specs.declared.schema.Index.{Index}
use Rattle.sqlite_schema.specs.Rules.{Keeps, are_typed, are_present, has_affinity, agree, clashes, differ, table_reals, index_reals}
use Rattle.sqlite_rules.specs.declared.error.Refusal.{Refusal}
use Rattle.sqlite_rules.specs.declared.error.Refusal.TheVariants.{Violates, Mismatch, NoRowid, BadReference, TooDeep}
use Rattle.sqlite_rules.specs.Edit.{IsRefused, IsOversized, are_fresh}
use Rattle.sqlite_rules.specs.Lists.{Has}
use Rattle.sqlite_rules.proofs.EditLemmas.{turns}
use Rattle.sqlite_rules.proofs.ListLemmas.{all_has, some_has, has_filtered, has_found}
use Rattle.sqlite_rules.proofs.PlaceLemmas.{tied_same}
use Rattle.sqlite_rules.proofs.RuleLemmas.{unique_kept}
use Rattle.sqlite_rules.proofs.TableLemmas.{put_has, without_all_has}
use Rattle.shelf_database.specs.Tables.{shelf_schema, placed_list, has_text, IsShelf}
use Rattle.shelf_database.specs.Faults.{IsUnstorable}
use Rattle.shelf_database.proofs.DeleteLemmas.{tie_of}
use Rattle.shelf_database.proofs.EditBlame.{differs_never, stored, by_length}
use Rattle.shelf_database.proofs.RefusalLemmas.{trees_apart, edit_stops, unique_in}
use Rattle.shelf_database.proofs.RenameLemmas.{renamed, left_by_name}
use Rattle.shelf_database.proofs.TextLemmas.{equal_text}

-- ---- what the row with the old name keeps, so the row with the new one does

typed_uris : (row : Row) → are_typed None 0 placed_list.columns (drop 1 row) ≡ true → has_affinity kind.Text (column row 2) ≡ true
typed_uris [] h = refl
typed_uris (id ∷ []) h = refl
typed_uris (id ∷ name ∷ []) h = refl
typed_uris (id ∷ name ∷ uris ∷ more) h = (and_parts _ _ (and_parts _ _ h).1).0

uris_typed : (db : Database) (row : Row) → IsShelf db → Has (db.trees 1) row → has_affinity kind.Text (column row 2) ≡ true
uris_typed db row is h =
    let rules : Keeps Datatype shelf_schema db.trees = subst (λ s. Keeps Datatype s db.trees) is.schema (is.sound.obeys.rules Datatype) in
    let passed : (are_typed None 0 placed_list.columns (drop 1 row) && true) ≡ true = all_has _ (db.trees 1) row rules.1.0 h in
    typed_uris row (and_parts _ _ passed).0

uris_present : (db : Database) (row : Row) → IsShelf db → Has (db.trees 1) row → not (is_null (column row 2)) ≡ true
uris_present db row is h =
    let rules : Keeps NotNull shelf_schema db.trees = subst (λ s. Keeps NotNull s db.trees) is.schema (is.sound.obeys.rules NotNull) in
    let passed : are_present None 0 placed_list.columns row ≡ true = all_has _ (db.trees 1) row rules.1.0 h in
    (and_parts _ _ (and_parts _ _ passed).1).0

-- the number of a value is one, but where a REAL has another
pub never_nan : (v : Value) → ((x : Float) → v ≡ Real x → ⊥) → NotNan (number v)
unfolding Ieee.is_nan
never_nan Null h = tt
never_nan (Int (pos n)) h = tt
never_nan (Int (negsuc n)) h = tt
never_nan (Real x) h = absurd (h x refl)
never_nan (Text t) h = tt
never_nan (Blob b) h = tt

pub none_found : (p : Row → Bool) (rows : List Row) (r : Row) → find p rows ≡ None → Has rows r → p r ≡ true → ⊥
none_found p [] r none h is = h
none_found p (x ∷ rows) r none h is = elim (cases_Bool (p x)) [
  | inl here ↦ let e = rw here at none in cc
  | inr other ↦ elim h [
    | inl same ↦ both_ways _ other (ap p (sym same) ∙ is)
    | inr later ↦ none_found p rows r (rw other at none) later is
  ]
]

-- ---- the edit: the row goes, and comes with the new name

abbrev pub edit_for : Row → Row → Edit
edit_for row put = record { table = placed_list; gone = id_in (rowid row) ∷ []; news = put ∷ [] }

module _ (s : State) (name new : List ℕ) (is : IsShelf s.now) (row : Row) (found : find (has_text 1 name) (s.now.trees 1) ≡ Some row) (free : find (has_text 1 new) (s.now.trees 1) ≡ None) where
  abbrev db : Trees
  db = s.now.trees

  abbrev left : List Row
  left = without_all (db 1) (id_in (rowid row) ∷ [])

  abbrev put : Row
  put = renamed new row

  abbrev edit : Edit
  edit = edit_for row put

  abbrev reason : Type 0
  reason = IsUnstorable put

  here : Has (db 1) row × (has_text 1 name row ≡ true)
  here = has_found (has_text 1 name) (db 1) row found

  keyed : is_int (rowid row) ≡ true
  keyed = all_has _ (db 1) row is.lists.keyed here.0

  left_free : is_taken left put ≡ false
  left_free = false_from_ne_true _ (λ taken.
      let x = some_has (λ r. is_eq (value_cmp (rowid r) (rowid row))) left taken in
      let was = has_filtered (λ r. not (has_text 1 name r)) (db 1) x.0 (subst (λ rows. Has rows x.0) (left_by_name s name new row is found) x.1) in
      let same = tied_same (db 1) x.0 row is.lists.rise was.0 here.0 (tie_of _ x.2) in
      both_ways _ (not-true _ was.1) (ap (has_text 1 name) same ∙ here.1))

  fresh : are_fresh (left_by db edit) edit.news ≡ true
  fresh = rw left_free refl

  abbrev next : Trees
  next = with_tree db 1 (edited db edit)

  one_name : clashes (record { digits = 0 }) (1 ∷ []) (next 1) put ≡ false
  unfolding first_key
  one_name = false_from_ne_true _ (λ clash.
      let x = some_has (λ other. agree (record { digits = 0 }) (1 ∷ []) other (1 ∷ []) put && differ (rowid other) (rowid put)) (next 1) clash in
      let both = and_parts _ _ x.2 in
      elim (put_has put left x.0 x.1) [
        | inl same ↦ both_ways _ (differs_never (rowid row) keyed) (subst (λ r. differ (rowid r) (rowid row) ≡ true) same both.1)
        | inr was ↦ none_found (has_text 1 new) (db 1) x.0 free (without_all_has (id_in (rowid row) ∷ []) (db 1) x.0 was) (sym (equal_text (column x.0 1) new) ∙ (and_parts _ _ both.0).0)
      ])

  unique : Keeps Unique shelf_schema next
  unique =
      let turn = turns shelf_schema db next edit trees_apart (inr (inl refl)) is.lists.rise fresh refl (λ e. refl, (λ e. absurd (e refl), (λ e. refl, (λ e. refl, tt)))) in
      unique_kept shelf_schema db next placed_list left (taken_by db edit) (put ∷ []) turn (rw one_name refl) (unique_in s.now is)

  edit_refused : (why : Refusal) → IsRefused shelf_schema Enforced db edit why → reason
  edit_refused (Violates Datatype) h = absurd (let typed = uris_typed s.now row is here.0 in let e = rw typed at h in cc)
  edit_refused (Violates NotNull) h = absurd (let there = uris_present s.now row is here.0 in let e = rw there at h in cc)
  edit_refused (Violates Check) h = absurd (true≢false h)
  edit_refused (Violates PrimaryKey) h = absurd (both_ways _ h fresh)
  edit_refused (Violates Unique) h = absurd (h unique)
  edit_refused (Violates ForeignKey) h = absurd h
  edit_refused Mismatch h = absurd (let e = rw keyed at h in cc)
  edit_refused NoRowid h = inl (sym (and-true (fits_i64 (id_in (rowid row)))) ∙ h)
  edit_refused BadReference h = absurd (true≢false h)
  edit_refused TooDeep h = absurd h

  id_number : NotNan (number (rowid row))
  id_number = never_nan (rowid row) (λ x is. true≢false (sym (subst (λ v. is_int v ≡ true) is keyed)))

  uris_number : NotNan (number (column row 2))
  uris_number = never_nan (column row 2) (λ x real. true≢false (sym (subst (λ v. has_affinity kind.Text v ≡ true) real (uris_typed s.now row is here.0))))

  never_big : sum_by (λ v. 18 + length (bytes v)) put ≤ 10 ^ 9 → IsOversized shelf_schema placed_list put → ⊥
  unfolding Ieee.is_nan
  never_big short (inl big) = big (stored put (id_number, (tt, (uris_number, tt))) (omega arith) (omega arith) short, omega arith)
  never_big short (inr (i, inl same, of, big)) = big (subst (λ (i : Index). IsStorable (index_reals (table_reals placed_list) i.columns) (entry_of i.columns put)) (sym same) (stored (entry_of (1 ∷ []) put) (tt, (id_number, tt)) (omega arith) (omega arith) (omega (arith, short))))
  never_big short (inr (i, inr (inl same), of, big)) = let e = rw same at of in omega (arith, e)
  never_big short (inr (i, inr (inr (inl same)), of, big)) = let e = rw same at of in omega (arith, e)
  never_big short (inr (i, inr (inr (inr none)), of, big)) = none

  too_big : (r : Row) → Has (put ∷ []) r → IsOversized shelf_schema placed_list r → reason
  too_big r (inl same) big = inr (by_length put (λ short. never_big short (subst (IsOversized shelf_schema placed_list) same big)))
  too_big r (inr none) big = absurd none

  pub edit_stopped : (stop : Option Error) → Edited shelf_schema Enforced db edit (Err stop) → reason
  edit_stopped stop h = elim (edit_stops db edit stop h) [ inl refused ↦ edit_refused refused.0 refused.1 | inr big ↦ too_big big.0 big.1 big.2 ]
