-- Why a step of a statement may be stopped on a table of a shelf, where no table refers to another.
use Rattle.std.proofs.Common.{◌≡◌, ◌≢◌, inl, inr, ℕ, ◌+◌, ◌^◌, ◌<◌, ◌≤◌, sum_by, ltb, ℤ, pos, negsuc, List, [], ◌∷◌, length, true, false, not, ◌&&◌, None, Option, Err, refl, sym, subst, arith}
use Rattle.std.specs.List.{AllByRecursion, list_any, list_all}
use Rattle.std.specs.Float.{NotNan}
use Rattle.std.proofs.lemmas.Bool.{true≢false, both_ways, not_from_false, false_from_ne_true, and_parts, and_from, or_cases, or_right, eq-eqb, ne_eqb, ltb-true, ltb-false, cases_Bool}
use Rattle.std.proofs.lemmas.Cmp.{tied_itself}
use Rattle.std.proofs.lemmas.List.Elements.{All-from_recursion}
use lib.Ieee.{is_nan}
use Rattle.sqlite.specs.declared.error.Error.{Error}
use Rattle.sqlite.specs.declared.types.Value.{Value}
use Rattle.sqlite.specs.declared.types.Value.TheVariants.{Int}
use Rattle.sqlite.specs.Order.{Row, number, bytes}
use Rattle.sqlite.specs.Tree.{Trees, IsTable, rowid, put_row, with_tree}
use Rattle.sqlite.specs.Table.{Table}
use Rattle.sqlite.specs.View.{is_int, IsStorable}
use Rattle.sqlite.specs.Ops.{fits_i64, binary}
use Rattle.sqlite.specs.Rows.{Edited}
use Rattle.sqlite.specs.Edit.{id_in, left_by, edited, are_fresh, have_rowids, taken_by}
use Rattle.sqlite_schema.specs.declared.schema.Keys.TheVariants.{Enforced}
use Rattle.sqlite_schema.specs.declared.schema.Constraint.TheVariants.{Datatype, NotNull, Check, PrimaryKey, Unique, ForeignKey}
use Rattle.sqlite_schema.specs.declared.schema.Index.{Index}
use Rattle.sqlite_schema.specs.Rules.{Keeps, agree, clashes, differ, guards}
use Rattle.sqlite_rules.specs.declared.error.Refusal.{Refusal}
use Rattle.sqlite_rules.specs.declared.error.Refusal.TheVariants.{Violates, Mismatch, NoRowid, BadReference, TooDeep}
use Rattle.sqlite_rules.specs.Edit.{Edit, IsRefused, IsOversized}
use Rattle.sqlite_rules.specs.Keys.{are_unique, conflicts, shares}
use Rattle.sqlite_rules.specs.Steps.{PassAlone}
use Rattle.sqlite_rules.specs.Lists.{Has}
use Rattle.sqlite_value.proofs.OrderLemmas.{value_cmp_total}
use Rattle.sqlite_rules.proofs.ListLemmas.{all_from, test_from, some_has, some_from}
use Rattle.sqlite_rules.proofs.RuleLemmas.{unique_kept}
use Rattle.sqlite_rules.proofs.EditLemmas.{turns}
use Rattle.sqlite_rules.proofs.TableLemmas.{int_is, put_has}
use Rattle.shelf_database.specs.Tables.{shelf_schema}
use Rattle.shelf_database.proofs.RefusalLemmas.{trees_apart, always_referred, edit_stops}

-- the trees after the edit
abbrev pub after_edit : Trees → Edit → Trees
after_edit db edit = with_tree db edit.table.tree (edited db edit)

-- no rule is against the new rows
pub record AreWelcome (db : Trees) (edit : Edit) : Type 0 where
  pub pass : PassAlone edit.table edit.news
  pub keyed : have_rowids edit.news ≡ true
  pub fit : list_all (λ r. fits_i64 (id_in (rowid r))) edit.news ≡ true
  pub fresh : are_fresh (left_by db edit) edit.news ≡ true
  pub unique : are_unique shelf_schema.indexes (after_edit db edit) edit.table edit.news ≡ true

none_clashes : (indexes : List Index) (db : Trees) (table : Table) → are_unique indexes db table [] ≡ true
none_clashes [] db table = refl
none_clashes (i ∷ indexes) db table = elim (guards i table) as (λ b. (not (b && false) && are_unique indexes db table []) ≡ true) [ true ↦ none_clashes indexes db table | false ↦ none_clashes indexes db table ]

at_same : (db : Trees) (tree : ℕ) (rows : List Row) → with_tree db tree rows tree ≡ rows
at_same db tree rows = rw (eq-eqb tree tree refl) refl

at_other : (db : Trees) (tree : ℕ) (rows : List Row) (t : ℕ) → t ≢ tree → with_tree db tree rows t ≡ db t
at_other db tree rows t other = rw (ne_eqb t tree other) refl

-- each key is there once after an edit that is fresh and has keys of its own
pub still_unique : (db : Trees) (edit : Edit) → Has shelf_schema.tables edit.table → IsTable (db edit.table.tree) → Keeps Unique shelf_schema db → are_fresh (left_by db edit) edit.news ≡ true
    → are_unique shelf_schema.indexes (after_edit db edit) edit.table edit.news ≡ true → Keeps Unique shelf_schema (after_edit db edit)
still_unique db edit listed ordered unique fresh apart =
    let turn = turns shelf_schema db (after_edit db edit) edit trees_apart listed ordered fresh (at_same db edit.table.tree (edited db edit))
    (all_from (λ t. t.tree ≢ edit.table.tree → after_edit db edit t.tree ≡ db t.tree) shelf_schema.tables (λ t known other. at_other db edit.table.tree (edited db edit) t.tree other)) in
    unique_kept shelf_schema db (after_edit db edit) edit.table (left_by db edit) (taken_by db edit) edit.news turn apart unique

-- where there are no new rows, no rule is against them
pub no_rows_welcome : (db : Trees) (table : Table) (gone : List ℤ) → AreWelcome db (record { table = table; gone = gone; news = [] })
no_rows_welcome db table gone = record { pass = record { typed = refl; present = refl; checked = refl }; keyed = refl; fit = refl; fresh = refl; unique = none_clashes shelf_schema.indexes (after_edit db (record { table = table; gone = gone; news = [] })) table }

-- no rule refuses such an edit
pub never_refused : (db : Trees) (edit : Edit) → Has shelf_schema.tables edit.table → IsTable (db edit.table.tree) → Keeps Unique shelf_schema db → AreWelcome db edit → (rule : Refusal) → IsRefused shelf_schema Enforced db edit rule → ⊥
never_refused db edit listed ordered unique welcome Mismatch h = both_ways _ h welcome.keyed
never_refused db edit listed ordered unique welcome NoRowid h = both_ways _ h welcome.fit
never_refused db edit listed ordered unique welcome BadReference h = both_ways _ h (always_referred edit listed)
never_refused db edit listed ordered unique welcome TooDeep h = h
never_refused db edit listed ordered unique welcome (Violates Datatype) h = both_ways _ h welcome.pass.typed
never_refused db edit listed ordered unique welcome (Violates NotNull) h = both_ways _ h welcome.pass.present
never_refused db edit listed ordered unique welcome (Violates Check) h = both_ways _ h welcome.pass.checked
never_refused db edit listed ordered unique welcome (Violates PrimaryKey) h = both_ways _ h welcome.fresh
never_refused db edit listed ordered unique welcome (Violates Unique) h = h (still_unique db edit listed ordered unique welcome.fresh welcome.unique)
never_refused db edit listed ordered unique welcome (Violates ForeignKey) h = h

-- so only a row that is too long stops it
pub stopped_long : (db : Trees) (edit : Edit) (stop : Option Error) → Has shelf_schema.tables edit.table → IsTable (db edit.table.tree) → Keeps Unique shelf_schema db → AreWelcome db edit
    → Edited shelf_schema Enforced db edit (Err stop) → (row : Row) × Has edit.news row × IsOversized shelf_schema edit.table row
stopped_long db edit stop listed ordered unique welcome h = elim (edit_stops db edit stop h) [
  | inl refused ↦ absurd (never_refused db edit listed ordered unique welcome refused.0 refused.1)
  | inr long ↦ long
]

-- and nothing stops one that only takes rows out
pub taking_done : (db : Trees) (table : Table) (gone : List ℤ) (stop : Option Error) → Has shelf_schema.tables table → IsTable (db table.tree) → Keeps Unique shelf_schema db
    → Edited shelf_schema Enforced db (record { table = table; gone = gone; news = [] }) (Err stop) → ⊥
taking_done db table gone stop listed ordered unique h = (stopped_long db (record { table = table; gone = gone; news = [] }) stop listed ordered unique (no_rows_welcome db table gone) h).1

-- ---- a row that is put where no other has its number or its key

pub differs_never : (v : Value) → is_int v ≡ true → differ v v ≡ false
unfolding binary
differs_never v keyed = rw (int_is v keyed, tied_itself value_cmp_total (Int (id_in v))) refl

module _ (db : Trees) (table : Table) (new : Row) (keyed : is_int (rowid new) ≡ true) (apart : (r : Row) → Has (db table.tree) r → conflicts None shelf_schema.indexes table new r ≡ false) where
  abbrev pub putting : Edit
  putting = record { table = table; gone = []; news = new ∷ [] }

  no_clash : (i : Index) → Has shelf_schema.indexes i → guards i table ≡ true → clashes i.order i.columns (after_edit db putting table.tree) new ≡ true → ⊥
  no_clash i known guarding clash =
      let other = some_has (λ r. agree i.order i.columns r i.columns new && differ (rowid r) (rowid new)) (after_edit db putting table.tree) clash in
      let meet = and_parts (agree i.order i.columns other.0 i.columns new) (differ (rowid other.0) (rowid new)) other.2 in
      elim (put_has new (db table.tree) other.0 (subst (λ rows. Has rows other.0) (at_same db table.tree (put_row new (db table.tree))) other.1)) [
        | inl same ↦ both_ways _ (subst (λ r. differ (rowid r) (rowid new) ≡ false) (sym same) (differs_never (rowid new) keyed)) meet.1
        | inr there ↦
            let share : shares None table new other.0 i ≡ true = and_from _ _ (and_from _ _ guarding refl) meet.0 in both_ways _ (apart other.0 there) (or_right _ _ (some_from (shares None table new other.0) shelf_schema.indexes i known share))
      ]

  -- then no index has its key
  pub none_meets : are_unique shelf_schema.indexes (after_edit db putting) table (new ∷ []) ≡ true
  none_meets = test_from _ shelf_schema.indexes (λ i known. not_from_false _ (false_from_ne_true _ (λ both.
      let parts = and_parts (guards i table) (list_any (clashes i.order i.columns (after_edit db putting table.tree)) (new ∷ [])) both in
      elim (or_cases _ _ parts.1) [ inl clash ↦ no_clash i known parts.0 clash | inr never ↦ true≢false (sym never) ])))

-- ---- a row that is too long

-- a row of a table without REAL columns is stored unless it is too long
pub stored : (row : Row) → AllByRecursion (λ v. NotNan (number v)) row → 0 < length row → length row ≤ 2001 → sum_by (λ v. 18 + length (bytes v)) row ≤ 10 ^ 9 → IsStorable 0 row
stored row numbers some few short = record { typed = λ c h. absurd (grind arith); columns = (some, few); numbers = All-from_recursion (λ v. NotNan (number v)) row numbers; short = short }

pub whole_number : (n : ℤ) → NotNan (number (Int n))
unfolding is_nan
whole_number (pos n) = tt
whole_number (negsuc n) = tt

-- a row is longer than a billion bytes where it cannot be shorter
pub by_length : (row : Row) → (sum_by (λ v. 18 + length (bytes v)) row ≤ 10 ^ 9 → ⊥) → 10 ^ 9 < sum_by (λ v. 18 + length (bytes v)) row
by_length row never = elim (cases_Bool (ltb (10 ^ 9) (sum_by (λ v. 18 + length (bytes v)) row))) [ inl more ↦ ltb-true _ _ more | inr less ↦ absurd (never (ltb-false _ _ less)) ]
