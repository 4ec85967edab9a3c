-- What INSERT OR REPLACE leaves of a table: the row with this key is replaced, or put at a free rowid.
use Rattle.std.proofs.Common.{◌≡◌, ◌≢◌, inl, inr, ℕ, ℤ, List, [], ◌∷◌, filter, Bool, true, false, not, ◌&&◌, ◌||◌, Some, None, Option, Ok, refl, sym, ap, subst, ◌∙◌, IsTrue}
use Rattle.std.specs.List.{AllByRecursion}
use Rattle.std.specs.Ordering.{is_eq}
use Rattle.std.proofs.lemmas.Bool.{cases_Bool, true≢false, not-true, and_parts}
use Rattle.sqlite.specs.declared.types.Value.{Value}
use Rattle.sqlite.specs.declared.types.Value.TheVariants.{Null, Int, Real, Text, Blob}
use Rattle.sqlite.specs.Collation.TheVariants.{Binary}
use Rattle.sqlite.specs.Order.{Row, value_cmp}
use Rattle.sqlite.specs.Tree.{Trees, rowid, put_row, has_rowid, without_rowid}
use Rattle.sqlite.specs.Table.{Table}
use Rattle.sqlite.specs.Ops.{binary, is_true, from_truth}
use Rattle.sqlite.specs.View.{is_int}
use Rattle.sqlite.specs.Cast.{cast_row}
use Rattle.sqlite.specs.Rows.{Written, Puts as PutsRow, Clears, Tries, Task}
use Rattle.sqlite.specs.Edit.{edit_of, is_taken, without_all, id_in, taken_by}
use Rattle.sqlite.specs.Rowids.TheVariants.{Given}
use Rattle.sqlite_schema.specs.declared.command.Conflict.TheVariants.{Replace}
use Rattle.sqlite_schema.specs.declared.schema.Keys.TheVariants.{Enforced}
use Rattle.sqlite_schema.specs.Rules.{Keeps, equal}
use Rattle.sqlite_trees.proofs.TreeLemmas.{IsShaped-put_row, IsShaped-filter}
use Rattle.sqlite_trees.specs.declared.store.Shape.TheVariants as shape
use Rattle.sqlite_schema.specs.declared.schema.Constraint.TheVariants.{Unique}
use Rattle.sqlite_rules.specs.Action.{works}
use Rattle.sqlite_rules.specs.Calls.{ids_of}
use Rattle.sqlite_rules.specs.Keys.{AreConflicts, conflicts}
use Rattle.sqlite_rules.specs.Lists.{Has}
use Rattle.sqlite_rules.proofs.ListLemmas.{all_has, some_from, has_filtered}
use Rattle.sqlite.proofs.Callers.{one_step}
use Rattle.shelf_database.specs.Tables.{shelf_schema, AreRows}
use Rattle.shelf_database.proofs.DeleteLemmas.{went, same_value, left_are, filtered_has, has_map, map_has}

pub left_rows : (rows : List Row) (gone : List ℤ) → AreRows rows → AreRows (without_all rows gone)
left_rows rows [] are = are
left_rows rows (id ∷ gone) are =
    let shaped = IsShaped-filter shape.Table (λ r. not (has_rowid id r)) rows (are.rise, are.keyed) in left_rows (without_rowid id rows) gone (record { rise = shaped.0; keyed = shaped.1 })

truth_back : (b : Bool) → is_true (from_truth (Some b)) ≡ b
truth_back true = refl
truth_back false = refl

pub equal_id : (v : Value) (id : ℤ) → is_int v ≡ true → equal Binary v (Int id) ≡ is_eq (value_cmp v (Int id))
unfolding binary
equal_id Null id h = absurd (true≢false (sym h))
equal_id (Int n) id h = truth_back _
equal_id (Real x) id h = absurd (true≢false (sym h))
equal_id (Text t) id h = absurd (true≢false (sym h))
equal_id (Blob b) id h = absurd (true≢false (sym h))

pub others_then : (n : ℕ) (ts : List Table) (old mid now : Trees) → AllByRecursion (λ t. t.tree ≢ n → mid t.tree ≡ old t.tree) ts → AllByRecursion (λ t. t.tree ≢ n → now t.tree ≡ mid t.tree) ts → AllByRecursion (λ t. t.tree ≢ n → now t.tree ≡ old t.tree) ts
others_then n [] old mid now a b = tt
others_then n (t ∷ ts) old mid now a b = (λ apart. b.0 apart ∙ a.0 apart, others_then n ts old mid now a.1 b.1)

module _ (table : Table) (quiet : (olds news : List Row) → works shelf_schema Enforced 0 table.tree olds news ≡ []) (limit : Option ℕ) (params new : Row) (cast_new : cast_row table new ≡ new) (numbered_row : IsTrue (is_int (rowid new))) where
  abbrev pub task : Task
  task = record { limit = limit; keys = Enforced; schema = shelf_schema; table = table; params = params }

  abbrev pub Others : Trees → Trees → Type 0
  Others old now = AllByRecursion (λ t. t.tree ≢ table.tree → now t.tree ≡ old t.tree) shelf_schema.tables

  pub record IsPut (old now : Trees) (left : List Row) : Type 0 where
    pub are : AreRows (now table.tree)
    pub rows : now table.tree ≡ put_row new left
    pub fresh : is_taken left new ≡ false
    pub others : Others old now
    pub unique : Keeps Unique shelf_schema now

  put_there : (db : Trees) (one : Written) → AreRows (db table.tree) → PutsRow task new db (Ok one) → IsPut db one.trees (db table.tree)
  put_there db one are h =
      let step = went h in
      let edit = edit_of db table [] Given 0 (new ∷ []) in
      let applies = one_step shelf_schema Enforced db step.0 edit (quiet (taken_by db edit) edit.news) step.1 in
      let trees : one.trees ≡ step.0 = ap (λ (it : Written). it.trees) (same_value step.2) in
      let rows : one.trees table.tree ≡ put_row (cast_row table new) (db table.tree) = ap (λ (t : Trees). t table.tree) trees ∙ applies.rows in
      let is = rows ∙ ap (λ r. put_row r (db table.tree)) cast_new in
      let fresh : (not (is_taken (db table.tree) (cast_row table new)) && true) ≡ true = applies.fresh in
      let free = not-true _ (and_parts _ _ (subst (λ r. (not (is_taken (db table.tree) r) && true) ≡ true) cast_new fresh)).0 in
      let shaped = IsShaped-put_row new (db table.tree) numbered_row (are.rise, are.keyed) in
      record {
        are = subst AreRows (sym is) (record { rise = shaped.0; keyed = shaped.1 });
        rows = is;
        fresh = free;
        others = subst (λ (trees : Trees). AllByRecursion (λ t. t.tree ≢ table.tree → trees t.tree ≡ db t.tree) shelf_schema.tables) (sym trees) applies.tables;
        unique = subst (Keeps Unique shelf_schema) (sym trees) (applies.fits.rules Unique (λ e. cc));
      }

  clears : (db : Trees) (one : Written) (found : List Row) → AreRows (db table.tree) → Clears task Replace new db found (Ok one) → IsPut db one.trees (without_all (db table.tree) (ids_of found))
  clears db one [] are h = put_there db one are h
  clears db one (x ∷ more) are h =
      let out = went h in
      let edit = edit_of db table (ids_of (x ∷ more)) Given 0 [] in
      let applies = one_step shelf_schema Enforced db out.0 edit (quiet (taken_by db edit) []) out.1 in
      let left : out.0 table.tree ≡ without_all (db table.tree) (ids_of (x ∷ more)) = applies.rows in
      let put = put_there out.0 one (subst AreRows (sym left) (left_rows (db table.tree) (ids_of (x ∷ more)) are)) out.2 in
      record {
        are = put.are;
        rows = put.rows ∙ ap (put_row new) left;
        fresh = subst (λ rows. is_taken rows new ≡ false) left put.fresh;
        others = others_then table.tree shelf_schema.tables db out.0 one.trees applies.tables put.others;
        unique = put.unique;
      }

  module _ (key : Row → Bool) (conflict_is : (row : Row) → IsTrue (is_int (rowid row)) → conflicts None shelf_schema.indexes table new row ≡ (is_eq (value_cmp (rowid row) (rowid new)) || key row))
      (rows : List Row) (are : AreRows rows) (free : is_taken rows new ≡ false) (found : List Row) (conflict : AreConflicts None shelf_schema.indexes table rows new found) where
    untaken : (r : Row) → Has rows r → is_eq (value_cmp (rowid r) (rowid new)) ≡ false
    untaken r h = elim (cases_Bool (is_eq (value_cmp (rowid r) (rowid new)))) [
      | inl tie ↦ absurd (true≢false (sym (some_from (λ y. is_eq (value_cmp (rowid y) (rowid new))) rows r h tie) ∙ free))
      | inr apart ↦ apart
    ]

    meets : (r : Row) → Has rows r → conflicts None shelf_schema.indexes table new r ≡ key r
    meets r h = conflict_is r (all_has _ rows r are.keyed h) ∙ rw (untaken r h) refl

    sound : (id : ℤ) → Has (ids_of found) id → (r : Row) × Has (filter key rows) r × (id ≡ id_in (rowid r))
    sound id h =
        let x = map_has (λ r. id_in (rowid r)) found id h in
        let y = conflict.sound x.0 x.1 in
        (y.0, filtered_has key rows y.0 y.1 (sym (meets y.0 y.1) ∙ y.2), x.2 ∙ ap (λ (r : Row). id_in (rowid r)) y.3)

    complete : (r : Row) → Has (filter key rows) r → Has (ids_of found) (id_in (rowid r))
    complete r h =
        let was = has_filtered key rows r h in
        has_map (λ x. id_in (rowid x)) found (rowid r ∷ []) (conflict.complete r was.0 (meets r was.0 ∙ was.1))

    pub left_by_key : without_all rows (ids_of found) ≡ filter (λ r. not (key r)) rows
    left_by_key = left_are rows are key (ids_of found) sound complete

  pub tried : (key : Row → Bool) (conflict_is : (row : Row) → IsTrue (is_int (rowid row)) → conflicts None shelf_schema.indexes table new row ≡ (is_eq (value_cmp (rowid row) (rowid new)) || key row))
      → (db : Trees) (one : Written) → AreRows (db table.tree) → is_taken (db table.tree) new ≡ false → Tries task Replace [] new db (Ok one) → IsPut db one.trees (filter (λ r. not (key r)) (db table.tree))
  tried key conflict_is db one are free (inl stopped) = absurd (let e = stopped.1 in cc)
  tried key conflict_is db one are free (inr (None, judged, up)) =
      let out = clears db one up.0 are up.2 in
      subst (IsPut db one.trees) (left_by_key key conflict_is (db table.tree) are free up.0 up.1) out
  tried key conflict_is db one are free (inr (Some why, judged, up)) = absurd (let e = up in cc)
