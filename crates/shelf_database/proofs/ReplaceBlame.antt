-- Why a row that is put in place of those that it conflicts with may be refused: it is not stored.
use Rattle.std.proofs.Common.{◌≡◌, ◌⊎◌, inl, inr, ℕ, ◌+◌, ◌^◌, ◌<◌, ℤ, List, [], ◌∷◌, length, sum_by, true, false, not, Some, None, Option, Err, refl, sym, ap, subst, ◌∙◌, IsTrue, IsSome, ◌/◌, MatchBool, if◌then◌else◌}
use Rattle.std.specs.Ordering.{is_eq, is_lt, int_cmp}
use Rattle.std.proofs.lemmas.Bool.{cases_Bool, both_ways, false_from_ne_true, and_from, not-true}
use Rattle.std.proofs.lemmas.Cmp.{tied_itself}
use Rattle.sqlite.specs.declared.error.Error.{Error}
use Rattle.sqlite.specs.Order.{Row, value_cmp, bytes}
use Rattle.sqlite.specs.Tree.{Trees, rowid, has_rowid, without_rowid}
use Rattle.sqlite.specs.Table.{Table}
use Rattle.sqlite.specs.Ops.{fits_i64}
use Rattle.sqlite.specs.View.{is_int}
use Rattle.sqlite.specs.Cast.{cast_row}
use Rattle.sqlite.specs.Term.{Term}
use Rattle.sqlite.specs.Effect.{value_rows}
use Rattle.sqlite.specs.Source.TheVariants.{Values}
use Rattle.sqlite.specs.Rows.{Edited, Gives, Puts as PutsRow, Clears, Tries, TriesEach, InsertsOr, Task, CounterIn, CountsIn, count_of, mended, nothing, rowids_for, sequence, stamped}
use Rattle.sqlite.specs.Edit.{edit_of, id_in, is_taken, with_rowid, without_all, taken_by}
use Rattle.sqlite.specs.Rowids.TheVariants.{Given}
use Rattle.sqlite_typing.specs.Types.{accepts_terms}
use Rattle.sqlite_schema.specs.declared.command.Conflict.TheVariants.{Replace}
use Rattle.sqlite_schema.specs.declared.schema.Keys.TheVariants.{Enforced}
use Rattle.sqlite_schema.specs.declared.schema.Constraint.TheVariants.{Datatype, NotNull, Check, PrimaryKey, Unique, ForeignKey}
use Rattle.sqlite_schema.specs.Rules.{Keeps}
use Rattle.sqlite_rules.specs.declared.error.Refusal.{Refusal}
use Rattle.sqlite_rules.specs.declared.error.Refusal.TheVariants.{Violates, Mismatch, NoRowid, BadReference, TooDeep}
use Rattle.sqlite_rules.specs.Action.{works}
use Rattle.sqlite_rules.specs.Calls.{ids_of}
use Rattle.sqlite_rules.specs.Edit.{Edit, IsOversized}
use Rattle.sqlite_rules.specs.Keys.{AreConflicts, conflicts}
use Rattle.sqlite_rules.specs.Lists.{Has}
use Rattle.sqlite_rules.specs.Steps.{IsJudged}
use Rattle.sqlite_value.proofs.OrderLemmas.{value_cmp_total}
use Rattle.sqlite_rules.proofs.ListLemmas.{all_has, some_has, some_from, has_filtered}
use Rattle.sqlite_rules.proofs.TableLemmas.{int_is, without_all_has}
use Rattle.sqlite.proofs.Callers.{one_step}
use Rattle.shelf_database.specs.Tables.{shelf_schema, AreRows}
use Rattle.shelf_database.specs.Faults.{IsUnstorable}
use Rattle.shelf_database.proofs.DeleteLemmas.{has_map}
use Rattle.shelf_database.proofs.PutLemmas.{task, left_rows}
use Rattle.shelf_database.proofs.EditBlame.{AreWelcome, stopped_long, taking_done, none_meets}

-- a part that gives a value stops nothing
pub given_on : {A : Type 0} (a : A) (stop : Option Error) → Gives a (Err stop) → ⊥
given_on a stop e = cc

-- a row that is left has none of the numbers that were taken out
left_unnamed : (rows : List Row) (gone : List ℤ) (id : ℤ) (r : Row) → Has (without_all rows gone) r → Has gone id → has_rowid id r ≡ false
left_unnamed rows [] id r h named = absurd named
left_unnamed rows (x ∷ gone) id r h (inl same) =
    let kept = has_filtered (λ row. not (has_rowid x row)) rows r (without_all_has gone (without_rowid x rows) r h) in subst (λ n. has_rowid n r ≡ false) (sym same) (not-true _ kept.1)
left_unnamed rows (x ∷ gone) id r h (inr later) = left_unnamed (without_rowid x rows) gone id r h later

-- and no number that was free is taken there
left_free : (rows : List Row) (gone : List ℤ) (new : Row) → is_taken rows new ≡ false → is_taken (without_all rows gone) new ≡ false
left_free rows gone new free = false_from_ne_true _ (λ taken.
    let r = some_has (λ y. is_eq (value_cmp (rowid y) (rowid new))) (without_all rows gone) taken in
    both_ways _ free (some_from (λ y. is_eq (value_cmp (rowid y) (rowid new))) rows r.0 (without_all_has gone rows r.0 r.1) r.2))

module _ (table : Table) (listed : Has shelf_schema.tables table) (quiet : (olds news : List Row) → works shelf_schema Enforced 0 table.tree olds news ≡ []) (limit : Option ℕ) (params new : Row) (cast_new : cast_row table new ≡ new)
    (judged : IsJudged table new None) (long : IsOversized shelf_schema table new → 10 ^ 9 < sum_by (λ v. 18 + length (bytes v)) new) where
  abbrev its_task : Task
  its_task = task table quiet limit params new cast_new judged.0

  -- no row has the number or the key of the new one
  abbrev Apart : List Row → Type 0
  Apart rows = (r : Row) → Has rows r → conflicts None shelf_schema.indexes table new r ≡ false

  -- the row is put in where nothing conflicts with it, unless it is not stored
  put_stopped : (db : Trees) (stop : Option Error) → AreRows (db table.tree) → Keeps Unique shelf_schema db → is_taken (db table.tree) new ≡ false → Apart (db table.tree) → PutsRow its_task new db (Err stop) → IsUnstorable new
  put_stopped db stop are unique free apart (inr wrote) = absurd (let e = wrote.2 in cc)
  put_stopped db stop are unique free apart (inl h) = elim (cases_Bool (fits_i64 (id_in (rowid new)))) [
    | inr unfit ↦ inl unfit
    | inl fits ↦
        let edit : Edit = record { table = table; gone = []; news = new ∷ [] } in
        let same : edit_of db table [] Given 0 (new ∷ []) ≡ edit = ap (λ (r : Row). let it : Edit = record { table = table; gone = []; news = r ∷ [] } in it) cast_new in
        let stops = subst (λ (e : Edit). Edited shelf_schema Enforced db e (Err h.0)) same h.1 in
        let welcome : AreWelcome db edit = record {
          pass = record { typed = and_from _ _ judged.1 refl; present = and_from _ _ judged.2 refl; checked = and_from _ _ judged.3 refl };
          keyed = and_from _ _ judged.0 refl;
          fit = and_from _ _ fits refl;
          fresh = rw free refl;
          unique = none_meets db table new judged.0 apart;
        } in
        let it = stopped_long db edit h.0 listed are.rise unique welcome stops in
        inr (long (elim it.1 [ inl is ↦ subst (IsOversized shelf_schema table) is it.2 | inr never ↦ absurd never ]))
  ]

  -- so it is where the rows that conflict with it are taken out first
  clears_stopped : (db : Trees) (stop : Option Error) (found : List Row) → AreRows (db table.tree) → Keeps Unique shelf_schema db → is_taken (without_all (db table.tree) (ids_of found)) new ≡ false → Apart (without_all (db table.tree) (ids_of found))
      → Clears its_task Replace new db found (Err stop) → IsUnstorable new
  clears_stopped db stop [] are unique free apart h = put_stopped db stop are unique free apart h
  clears_stopped db stop (x ∷ more) are unique free apart (inl h) =
      absurd (taking_done db table (ids_of (x ∷ more)) h.0 listed are.rise unique h.1)
  clears_stopped db stop (x ∷ more) are unique free apart (inr (next, wrote, puts)) =
      let ids = ids_of (x ∷ more) in
      let edit = edit_of db table ids Given 0 [] in
      let applies = one_step shelf_schema Enforced db next edit (quiet (taken_by db edit) []) wrote in
      let left : next table.tree ≡ without_all (db table.tree) ids = applies.rows in
      put_stopped next stop (subst AreRows (sym left) (left_rows (db table.tree) ids are)) (applies.fits.rules Unique (λ e. cc)) (subst (λ rows. is_taken rows new ≡ false) (sym left) free) (subst Apart (sym left) apart) puts

  -- no rule is against the row alone
  never_judged : (why : Refusal) → IsJudged table new (Some why) → ⊥
  never_judged Mismatch h = both_ways _ h judged.0
  never_judged NoRowid h = h
  never_judged BadReference h = h
  never_judged TooDeep h = h
  never_judged (Violates Datatype) h = both_ways _ h judged.1
  never_judged (Violates NotNull) h = both_ways _ h judged.2
  never_judged (Violates Check) h = both_ways _ h judged.3
  never_judged (Violates PrimaryKey) h = h
  never_judged (Violates Unique) h = h
  never_judged (Violates ForeignKey) h = h

  -- what is left conflicts no more
  left_apart : (rows found : List Row) → AreRows rows → AreConflicts None shelf_schema.indexes table rows new found → Apart (without_all rows (ids_of found))
  left_apart rows found are conflict r h = false_from_ne_true _ (λ meets.
      let was = without_all_has (ids_of found) rows r h in
      let named = has_map (λ x. id_in (rowid x)) found (rowid r ∷ []) (conflict.complete r was meets) in
      let key = int_is (rowid r) (all_has (λ x. IsTrue (is_int (rowid x))) rows r are.keyed was) in
      let itself : has_rowid (id_in (rowid r)) r ≡ true = subst (λ v. is_eq (value_cmp (rowid r) v) ≡ true) key (rw (tied_itself value_cmp_total (rowid r)) refl) in
      both_ways _ (left_unnamed rows (ids_of found) (id_in (rowid r)) r h named) itself)

  -- the row is put in place of those that it conflicts with, unless it is not stored
  pub tries_stopped : (db : Trees) (stop : Option Error) → AreRows (db table.tree) → Keeps Unique shelf_schema db → is_taken (db table.tree) new ≡ false → Tries its_task Replace [] new db (Err stop) → IsUnstorable new
  tries_stopped db stop are unique free (inl unfit) = inl unfit.0
  tries_stopped db stop are unique free (inr (Some why, against, up)) = absurd (never_judged why against)
  tries_stopped db stop are unique free (inr (None, alone, up)) = clears_stopped db stop up.0 are unique (left_free (db table.tree) (ids_of up.0) new free) (left_apart (db table.tree) up.0 are up.1) up.2

  -- so is the one row of the statement, where its values have their types
  pub inserts_stopped : (db : Trees) (terms : List Term) (width : ℕ) (source : Row) → AreRows (db table.tree) → Keeps Unique shelf_schema db → is_taken (db table.tree) new ≡ false → table.is_counted ≡ false → accepts_terms terms (stamped table params) ≡ true
      → value_rows (stamped table params) width (length terms / width) terms ≡ source ∷ [] → ((top : ℤ) → with_rowid (rowids_for table top) (db table.tree) (cast_row table (mended Replace table source)) ≡ new) → (stop : Option Error)
      → InsertsOr its_task Replace [] (Values terms width) db (Err stop) → IsSome limit ⊎ IsUnstorable new
  inserts_stopped db terms width source are unique free uncounted typed only placed stop (inl (None, never, is)) = absurd never
  inserts_stopped db terms width source are unique free uncounted typed only placed stop (inl (Some e, inl mistyped, is)) = absurd (both_ways _ mistyped.1 typed)
  inserts_stopped db terms width source are unique free uncounted typed only placed stop (inl (Some e, inr limited, is)) = inl limited.1
  inserts_stopped db terms width source are unique free uncounted typed only placed stop (inr (rows, given, inl counts)) =
      absurd (given_on {A = Option Row} None counts.0 (subst (λ b. MatchBool b (CounterIn its_task db (sequence shelf_schema) (Err counts.0)) (Gives {A = Option Row} None (Err counts.0))) uncounted counts.1))
  inserts_stopped db terms width source are unique free uncounted typed only placed stop (inr (rows, given, inr (counter, got, inl tries))) =
      let each = subst (λ rows. TriesEach its_task Replace [] rows (count_of counter) (nothing db) (Err tries.0)) (given.1 ∙ only) tries.1 in
      elim each [
        | inl one ↦ inr (tries_stopped db one.0 are unique free (subst (λ row. Tries its_task Replace [] row db (Err one.0)) (placed (count_of counter)) one.1))
        | inr done ↦ absurd (let e = done.2 in cc)
      ]
  inserts_stopped db terms width source are unique free uncounted typed only placed stop (inr (rows, given, inr (counter, got, inr (done, each, inl counts)))) =
      absurd (given_on done.0.trees counts.0 (subst (λ b. MatchBool (if b then is_lt (int_cmp (count_of counter) done.1) else false) (CountsIn its_task done.0.trees counter done.1 (sequence shelf_schema) (Err counts.0)) (Gives done.0.trees (Err counts.0))) uncounted counts.1))
  inserts_stopped db terms width source are unique free uncounted typed only placed stop (inr (rows, given, inr (counter, got, inr (done, each, inr (next, counts, is))))) = absurd (cc)
