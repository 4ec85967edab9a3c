-- What DELETE leaves of a table: the rows that do not pass.
use Rattle.std.proofs.Common.{◌≡◌, ◌≢◌, ◌⊎◌, inl, inr, ℕ, ℤ, List, [], ◌∷◌, map, filter, slice_get, Bool, true, not, ◌||◌, Some, None, Option, Ok, Err, Result, refl, sym, ap, subst, ◌∙◌, Ordering, Less, Equal, Greater}
use Rattle.std.specs.List.{AllByRecursion, list_all, list_any}
use Rattle.std.specs.List.Sorted.{IsPermutation}
use Rattle.std.specs.Ordering.{is_eq}
use Rattle.std.proofs.lemmas.Bool.{cases_Bool, true≢false}
use Rattle.std.proofs.lemmas.Cmp.{tied_itself}
use Rattle.std.proofs.lemmas.List.Sorted.{IsPermutation-sym}
use Rattle.sqlite.specs.declared.types.Value.TheVariants.{Null, Int}
use Rattle.sqlite.specs.Order.{Row, column, value_cmp}
use Rattle.sqlite.specs.Tree.{Trees, rowid, has_rowid, without_rowid}
use Rattle.sqlite.specs.Table.{Table}
use Rattle.sqlite.specs.Term.{Term, col, holds}
use Rattle.sqlite.specs.Query.{Output}
use Rattle.sqlite.specs.Program.{overlay}
use Rattle.sqlite.specs.Command.{Command}
use Rattle.sqlite.specs.Command.TheVariants.{Delete}
use Rattle.sqlite.specs.Rows.{Written}
use Rattle.sqlite.specs.Does.{Tally, Does}
use Rattle.sqlite.specs.Edit.{edit_of, id_in, without_all, taken_by}
use Rattle.sqlite.specs.Rowids.TheVariants.{Given}
use Rattle.sqlite.specs.Effect.{Database}
use Rattle.sqlite.specs.State.{State, mode_of}
use Rattle.sqlite_schema.specs.declared.schema.Keys.TheVariants.{Enforced}
use Rattle.sqlite_value.proofs.OrderLemmas.{value_cmp_total}
use Rattle.sqlite_rules.specs.Action.{works}
use Rattle.sqlite_rules.specs.Calls.{ids_of}
use Rattle.sqlite_rules.specs.Lists.{Has}
use Rattle.sqlite_rules.proofs.ListLemmas.{all_has, some_has, some_from, has_filtered, all_from}
use Rattle.sqlite_trees.proofs.ListLemmas.{all-permutation}
use Rattle.sqlite_rules.proofs.PlaceLemmas.{tied_same}
use Rattle.sqlite_rules.proofs.TableLemmas.{int_is}
use Rattle.sqlite.proofs.Callers.{one_step}
use Rattle.shelf_database.specs.Tables.{shelf_schema, AreRows}
use Rattle.shelf_database.proofs.Statements.{over}
use Rattle.shelf_database.proofs.ReadLemmas.{IsRead, answer_is, shows}

pub went : {B E R : Type 0} {b : B} {Stops : E → Type 0} → ((stop : E) × Stops stop × (Ok b ≡ Err stop)) ⊎ R → R
went (inl stopped) = absurd (let e = stopped.2 in cc)
went (inr on) = on

pub same_value : {B E : Type 0} {a b : B} → ◌≡◌ {A = Result B E} (Ok a) (Ok b) → a ≡ b
same_value e = cc

is_one_of : List ℤ → Row → Bool
is_one_of ids row = list_any (λ id. has_rowid id row) ids

filter_both : (p q : Row → Bool) (rows : List Row) → filter (λ r. not (q r)) (filter (λ r. not (p r)) rows) ≡ filter (λ r. not (p r || q r)) rows
filter_both p q [] = refl
filter_both p q (r ∷ rows) = elim (cases_Bool (p r)) [
  | inl is ↦ rw is (filter_both p q rows)
  | inr other ↦ elim (cases_Bool (q r)) [
    | inl also ↦ rw (other, also) (filter_both p q rows)
    | inr neither ↦ rw (other, neither) (ap (λ xs. r ∷ xs) (filter_both p q rows))
  ]
]

filter_none : (rows : List Row) → filter (λ r. true) rows ≡ rows
filter_none [] = refl
filter_none (r ∷ rows) = ap (λ xs. r ∷ xs) (filter_none rows)

-- the rows without some rowids
without_is : (ids : List ℤ) (rows : List Row) → without_all rows ids ≡ filter (λ r. not (list_any (λ id. has_rowid id r) ids)) rows
without_is [] rows = sym (filter_none rows)
without_is (id ∷ ids) rows = without_is ids (without_rowid id rows) ∙ filter_both (has_rowid id) (λ r. list_any (λ i. has_rowid i r) ids) rows

filter_alike : (p q : Row → Bool) (rows : List Row) → ((r : Row) → Has rows r → p r ≡ q r) → filter p rows ≡ filter q rows
filter_alike p q [] same = refl
filter_alike p q (r ∷ rows) same = elim (cases_Bool (q r)) [
  | inl is ↦ rw (same r (inl refl) ∙ is, is) (ap (λ xs. r ∷ xs) (filter_alike p q rows (λ x h. same x (inr h))))
  | inr other ↦ rw (same r (inl refl) ∙ other, other) (filter_alike p q rows (λ x h. same x (inr h)))
]

pub has_map : {A B : Type 0} (f : A → B) (xs : List A) (x : A) → Has xs x → Has (map f xs) (f x)
has_map f [] x h = absurd h
has_map f (y ∷ xs) x (inl same) = inl (ap f same)
has_map f (y ∷ xs) x (inr later) = inr (has_map f xs x later)

pub map_has : {A B : Type 0} (f : A → B) (xs : List A) (y : B) → Has (map f xs) y → (x : A) × Has xs x × (y ≡ f x)
map_has f [] y h = absurd h
map_has f (x ∷ xs) y (inl same) = (x, inl refl, same)
map_has f (x ∷ xs) y (inr later) = let it = map_has f xs y later in (it.0, inr it.1, it.2)

pub filtered_has : (p : Row → Bool) (rows : List Row) (r : Row) → Has rows r → p r ≡ true → Has (filter p rows) r
filtered_has p [] r h is = absurd h
filtered_has p (x ∷ rows) r (inl same) is = let here : p x ≡ true = sym (ap p same) ∙ is in rw here (inl same)
filtered_has p (x ∷ rows) r (inr later) is = elim (cases_Bool (p x)) [
  | inl here ↦ rw here (inr (filtered_has p rows r later is))
  | inr other ↦ rw other (filtered_has p rows r later is)
]

pub tie_of : (o : Ordering) → is_eq o ≡ true → o ≡ Equal
tie_of Less h = absurd (true≢false (sym h))
tie_of Equal h = refl
tie_of Greater h = absurd (true≢false (sym h))

module _ (rows : List Row) (are : AreRows rows) (test : Row → Bool) (ids : List ℤ)
    (sound : (id : ℤ) → Has ids id → (r : Row) × Has (filter test rows) r × (id ≡ id_in (rowid r)))
    (complete : (r : Row) → Has (filter test rows) r → Has ids (id_in (rowid r))) where
  itself : (r : Row) → Has rows r → has_rowid (id_in (rowid r)) r ≡ true
  itself r h =
      let key = int_is (rowid r) (all_has _ rows r are.keyed h) in
      subst (λ v. is_eq (value_cmp (rowid r) v) ≡ true) key (rw (tied_itself value_cmp_total (rowid r)) refl)

  goes : (r : Row) → Has rows r → list_any (λ id. has_rowid id r) ids ≡ test r
  goes r h = elim (cases_Bool (test r)) [
    | inl is ↦ some_from (λ id. has_rowid id r) ids (id_in (rowid r)) (complete r (filtered_has test rows r h is)) (itself r h) ∙ sym is
    | inr other ↦ elim (cases_Bool (list_any (λ id. has_rowid id r) ids)) [
      | inl some ↦
          let it = some_has (λ id. has_rowid id r) ids some in
          let from = sound it.0 it.1 in
          let was = has_filtered test rows from.0 from.1 in
          let key = int_is (rowid from.0) (all_has _ rows from.0 are.keyed was.0) in
          let tie : value_cmp (rowid r) (rowid from.0) ≡ Equal = subst (λ v. value_cmp (rowid r) v ≡ Equal) (ap Int from.2 ∙ sym key) (tie_of _ it.2) in
          let same = tied_same rows r from.0 are.rise h was.0 tie in
          absurd (true≢false (sym was.1 ∙ ap test (sym same) ∙ other))
      | inr none ↦ none ∙ sym other
    ]
  ]

  pub left_are : without_all rows ids ≡ filter (λ r. not (test r)) rows
  left_are = without_is ids rows ∙ filter_alike (λ r. not (list_any (λ id. has_rowid id r) ids)) (λ r. not (test r)) rows (λ r h. ap not (goes r h))

pub has_permuted : {X : Type 0} (xs ys : List X) (x : X) → IsPermutation xs ys → Has ys x → Has xs x
has_permuted xs ys x same = all_has (Has xs) ys x (all-permutation (Has xs) xs ys same (all_from (Has xs) xs (λ e h. h)))

module _ (params : Row) (tree : ℕ) (terms : List Term) (test : Row → Bool) (tests : (row : Row) → list_all (holds (params ∷ row ∷ [])) terms ≡ test row) where
  module _ (found rows : List Row) (read : IsRead params tree terms (col 1 0 ∷ []) [] test tests found rows) where
    id_from : (id : ℤ) → Has (ids_of rows) id → (r : Row) × Has found r × (id ≡ id_in (rowid r))
    id_from id h =
        let row = map_has (λ r. id_in (rowid r)) rows id h in
        let out = map_has (λ (o : Output). o.1) read.sorted row.0 (subst (λ xs. Has xs row.0) read.shown row.1) in
        let from = map_has (shows params tree terms (col 1 0 ∷ []) [] test tests) found out.0 (has_permuted _ read.sorted out.0 read.same out.1) in
        (from.0, from.1, row.2 ∙ ap (λ r. id_in (rowid r)) out.2 ∙ ap (λ (o : Output). id_in (rowid o.1)) from.2)

    id_to : (r : Row) → Has found r → Has (ids_of rows) (id_in (rowid r))
    id_to r h =
        let shown = has_map (shows params tree terms (col 1 0 ∷ []) [] test tests) found r h in
        let out = has_permuted read.sorted _ (shows params tree terms (col 1 0 ∷ []) [] test tests r) (IsPermutation-sym _ _ read.same) shown in
        let row = has_map (λ (o : Output). o.1) read.sorted _ out in
        has_map (λ x. id_in (rowid x)) rows (column r 0 ∷ []) (subst (λ xs. Has xs (column r 0 ∷ [])) (sym read.shown) row)

  abbrev pub deletion : ℕ → Command
  deletion at = Delete at (record { lets = []; body = over tree terms (col 1 0 ∷ []) [] })

  -- the table has the rows that do not pass, and the other tables are as they were
  pub record Deletes (before after : Database) : Type 0 where
    pub schema : after.schema ≡ shelf_schema
    pub rows : after.trees tree ≡ filter (λ r. not (test r)) (before.trees tree)
    pub others : AllByRecursion (λ t. t.tree ≢ tree → after.trees t.tree ≡ before.trees t.tree) shelf_schema.tables

  pub deletes : (at : ℕ) (table : Table) → slice_get shelf_schema.tables at ≡ Some table → table.tree ≡ tree → ((olds : List Row) → works shelf_schema Enforced 0 table.tree olds [] ≡ [])
      → ((db : Trees) → overlay db [] tree ≡ db tree)
      → (s : State) (limit : Option ℕ) (before after : Database) (text : List ℕ) (tally : Tally) → before.schema ≡ shelf_schema → AreRows (before.trees tree)
      → Does limit (mode_of s) params before text None (deletion at) (Ok (tally, after)) → Deletes before after
  deletes at table placed treed quiet bare s limit before after text tally is are h =
      let here = subst (λ schema. Does limit (mode_of s) params (record before { schema = schema }) text None (deletion at) (Ok (tally, after))) is h in
      let on = rw placed at here in
      let done = went on in
      let now = ap (λ (p : Tally × Database). p.1) (same_value (went (went done.2).2).2) in
      let given = went done.1 in
      let read = answer_is params tree terms (col 1 0 ∷ []) [] test tests (overlay before.trees []) given.0 (given.1.answer Null) in
      let found : filter test (overlay before.trees [] tree) ≡ filter test (before.trees tree) = ap (filter test) (bare before.trees) in
      let reads = subst (λ xs. IsRead params tree terms (col 1 0 ∷ []) [] test tests xs given.0) found read in
      let step = went given.2 in
      let edit = edit_of before.trees table (ids_of given.0) Given 0 [] in
      let applies = one_step shelf_schema Enforced before.trees step.0 edit (quiet (taken_by before.trees edit)) step.1 in
      let last : after.trees ≡ step.0 = ap (λ (d : Database). d.trees) now ∙ ap (λ (w : Written). w.trees) (same_value step.2) in
      let left = left_are (before.trees tree) are test (ids_of given.0) (id_from (filter test (before.trees tree)) given.0 reads) (id_to (filter test (before.trees tree)) given.0 reads) in
      record {
        schema = ap (λ (d : Database). d.schema) now;
        rows = ap (λ (t : Trees). t tree) last ∙ subst (λ n. step.0 n ≡ without_all (before.trees n) (ids_of given.0)) treed applies.rows ∙ left;
        others = subst (λ (trees : Trees). AllByRecursion (λ t. t.tree ≢ tree → trees t.tree ≡ before.trees t.tree) shelf_schema.tables) (sym last)
            (subst (λ n. AllByRecursion (λ t. t.tree ≢ n → step.0 t.tree ≡ before.trees t.tree) shelf_schema.tables) treed applies.tables);
      }
