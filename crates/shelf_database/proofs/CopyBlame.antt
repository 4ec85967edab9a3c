-- Why the stickers of a list are not given to another name: a copy is not stored.
use Rattle.std.specs.Prelude.{◌+ℤ◌, ◌<ℤ◌}
use Rattle.std.proofs.Common.{◌≡◌, ◌⊎◌, ◌<◌, ◌≤◌, ◌+◌, ◌++◌, ◌^◌, inl, inr, ℕ, ℤ, pos, List, [], ◌∷◌, length, map, filter, fold, sum_by, Bool, true, not, Some, None, Option, Ok, Err, Less, refl, sym, ap, subst, ◌∙◌, IsTrue, IsSome, arith}
use Rattle.std.specs.Ordering.{int_cmp}
use Rattle.std.specs.List.{AllByRecursion}
use Rattle.std.proofs.lemmas.Int.{ints}
use Rattle.std.proofs.lemmas.Bool.Decides.{nat_tests}
use Rattle.std.proofs.lemmas.Bool.{cases_Bool, and_parts}
use Rattle.std.proofs.lemmas.List.Sorted.{length_permutation}
use Rattle.std.specs.List.Sorted.{IsPermutation}
use Rattle.sqlite.specs.declared.error.Error.{Error}
use Rattle.sqlite.specs.declared.types.Value.TheVariants.{Int, Text}
use Rattle.sqlite.specs.Order.{Row, column, bytes, value_cmp}
use Rattle.sqlite.specs.Tree.{Trees, IsTable, rowid, put_row}
use Rattle.sqlite.specs.View.{is_int}
use Rattle.sqlite.specs.Edit.{id_in, next_rowid}
use Rattle.sqlite_value.proofs.OrderLemmas.{value_cmp-Int}
use Rattle.sqlite_rules.specs.Lists.{Has}
use Rattle.sqlite_rules.proofs.ListLemmas.{all_has, has_filtered}
use Rattle.sqlite_rules.proofs.TableLemmas.{int_is, next_after}
use Rattle.shelf_database.specs.Tables.{AreRows}
use Rattle.std.specs.Float.{NotNan}
use Rattle.std.specs.Float.Ieee
use Rattle.std.proofs.lemmas.Bool.{true≢false}
use Rattle.sqlite.specs.declared.types.Value.TheVariants.{Null}
use Rattle.sqlite.specs.Kind.TheVariants as kind
use Rattle.sqlite.specs.View.{IsStorable}
use Rattle.sqlite.specs.Order.{number}
use Rattle.sqlite.specs.Ops.{is_null}
use Rattle.sqlite.specs.Effect.{Database}
use Rattle.sqlite.specs.Query.{Output}
use Rattle.sqlite.specs.Program.{overlay}
use Rattle.sqlite.specs.Does.{Does}
use Rattle.sqlite.specs.State.{State, mode_of}
use Rattle.sqlite.specs.Listing.{understood}
use Rattle.sqlite.specs.Edit.{with_rowid, IsOversized}
use Rattle.sqlite.specs.Rowids.TheVariants.{Chosen}
use Rattle.sqlite.specs.Source.TheVariants.{Query as Asked}
use Rattle.sqlite.specs.Rows.{Task, Written, Tries, TriesEach, Queried, InsertsOr, count_of, nothing, joined, higher}
use Rattle.sqlite.proofs.Callers.{statement_of}
use Rattle.sqlite_tied.specs.Compute.{everything}
use Rattle.sqlite_typing.specs.Types.{accepts_program}
use Rattle.sqlite_sql.specs.Catalog.{entry_of}
use Rattle.sqlite_schema.specs.declared.command.Conflict.TheVariants.{Replace}
use Rattle.sqlite_schema.specs.declared.schema.Constraint.TheVariants.{Unique, NotNull}
use Rattle.sqlite_schema.specs.declared.schema.Keys.TheVariants.{Enforced}
use Rattle.sqlite_schema.specs.declared.schema.Index.{Index}
use Rattle.sqlite_schema.specs.Rules.{Keeps, are_present, has_affinity, table_reals, index_reals}
use Rattle.sqlite_rules.specs.Steps.{IsJudged}
use Rattle.sqlite_rules.proofs.PlaceLemmas.{next_is_free}
use Rattle.std.proofs.lemmas.Simd.{map-map}
use Rattle.shelf.specs.declared.kinds.StickerKind.TheVariants.{Playlist}
use Rattle.shelf_database.specs.Tables.{shelf_schema, placed_note, kind_text, of_target}
use Rattle.shelf_database.specs.Faults.{IsUnstorable, CannotCopy}
use Rattle.shelf_database.specs.Moves.{LacksNotes, KeepsASticker}
use Rattle.shelf_database.proofs.BlameLemmas.{IsWhole}
use Rattle.shelf_database.proofs.CopyLemmas.{Copies, source, copied, kept, apart, once, note_typed, copied_next, none_copied, conflict_is, same_key, copying}
use Rattle.shelf_database.proofs.DeleteLemmas.{has_permuted}
use Rattle.shelf_database.proofs.EditBlame.{stored, by_length, whole_number}
use Rattle.shelf_database.proofs.MovedLemmas.{moved_back}
use Rattle.shelf_database.proofs.PutLemmas.{tried}
use Rattle.shelf_database.proofs.ReadLemmas.{answer_is, plain_answer, shows}
use Rattle.shelf_database.proofs.RefusalLemmas.{unique_in, concludes_done}
use Rattle.shelf_database.proofs.RenameEdit.{never_nan}
use Rattle.shelf_database.proofs.ReplaceBlame.{tries_stopped, given_on}
use Rattle.shelf_database.proofs.Statements.{over_by, five_columns, target_terms, copy_terms, copy_program, copy_text}
use Rattle.shelf_database.proofs.TextLemmas.{target_test_more}
use Rattle.shelf_database.proofs.WriteBlame.{RefusedFor}

abbrev step_rowid : ℤ → Row → ℤ
step_rowid n r = id_in (rowid r) +ℤ pos 1

lower_than : (a b c : ℤ) → int_cmp a b ≡ Less → b <ℤ c → a <ℤ c
lower_than a b c p q = grind (arith, ints, nat_tests)

-- each number is below the next
below_next : (x : Row) (rows : List Row) → IsTable (x ∷ rows) → AllByRecursion (λ r. IsTrue (is_int (rowid r))) (x ∷ rows) → AllByRecursion (λ r. id_in (rowid r) <ℤ fold step_rowid (step_rowid (pos 1) x) rows) (x ∷ rows)
below_next x [] up keyed = (omega (arith, ints), tt)
below_next x (y ∷ rows) up keyed =
    let later = below_next y rows up.1 keyed.1 in
    let lower = rw (int_is (rowid x) keyed.0, int_is (rowid y) keyed.1.0, value_cmp-Int (id_in (rowid x)) (id_in (rowid y))) at up.0.0 in
    let first = later.0 in
    (lower_than (id_in (rowid x)) (id_in (rowid y)) _ lower first, later)

all_below : (rows : List Row) → AreRows rows → (x : Row) → Has rows x → value_cmp (rowid x) (Int (next_rowid rows)) ≡ Less
all_below [] are x h = absurd h
all_below (y ∷ rows) are x h =
    let low = all_has (λ r. id_in (rowid r) <ℤ fold step_rowid (step_rowid (pos 1) y) rows) (y ∷ rows) x (below_next y rows are.rise are.keyed) h in
    let less : value_cmp (Int (id_in (rowid x))) (Int (next_rowid (y ∷ rows))) ≡ Less = value_cmp-Int _ _ ∙ grind (arith, ints, nat_tests) in
    subst (λ v. value_cmp v (Int (next_rowid (y ∷ rows))) ≡ Less) (sym (int_is (rowid x) (all_has (λ r. IsTrue (is_int (rowid r))) (y ∷ rows) x are.keyed h))) less

put_last : (new : Row) (rows : List Row) → ((x : Row) → Has rows x → value_cmp (rowid x) (rowid new) ≡ Less) → put_row new rows ≡ rows ++ new ∷ []
put_last new [] all = refl
put_last new (r ∷ rows) all = rw (all r (inl refl)) (ap (λ xs. r ∷ xs) (put_last new rows (λ x h. all x (inr h))))

-- after a row with the next number, in place of some, the next is one more
pub next_more : (rows : List Row) (p : Row → Bool) (rest : Row) → AreRows rows → next_rowid (put_row (Int (next_rowid rows) ∷ rest) (filter p rows)) ≡ next_rowid rows +ℤ pos 1
next_more rows p rest are = ap next_rowid (put_last (Int (next_rowid rows) ∷ rest) (filter p rows) (λ x h. all_below rows are x (has_filtered p rows x h).0)) ∙ next_after (filter p rows) (Int (next_rowid rows) ∷ rest)

-- there are no more rows that pass than rows
pub fewer : (p : Row → Bool) (rows : List Row) → length (filter p rows) ≤ length rows
fewer p [] = omega arith
fewer p (r ∷ rows) = let low = fewer p rows in elim (cases_Bool (p r)) [ inl is ↦ rw is (omega (arith, low)) | inr other ↦ rw other (omega (arith, low)) ]

present_note : (row : Row) → are_present None 0 placed_note.columns row ≡ true → (not (is_null (column row 3)) ≡ true) × (not (is_null (column row 4)) ≡ true)
present_note row h =
    let third = and_parts _ _ (and_parts _ _ (and_parts _ _ h).1).1 in (third.0, (and_parts _ _ third.1).0)

-- such a query is stopped by the limit alone
query_stopped : (limit : Option ℕ) (db : Database) (params : Row) (stop : Option Error) → accepts_program db.schema [] (over_by five_columns 5 target_terms copy_terms []) params ≡ true
    → Queried limit db copy_program params (Err stop) → IsSome limit
query_stopped limit db params None typed h = absurd h
query_stopped limit db params (Some e) typed h = elim h [
  | inl mistyped ↦ absurd (true≢false (sym typed ∙ mistyped.1))
  | inr (inl sum) ↦ absurd (elim sum.1 [ inl never ↦ never | inr some ↦ some.4 ])
  | inr (inr stopped) ↦ stopped.1
]

module _ (s : State) (name other : List ℕ) (lacks : LacksNotes other s.now) where
  abbrev word : List ℕ
  word = kind_text Playlist

  abbrev params : Row
  params = Text word ∷ Text name ∷ Text other ∷ []

  abbrev db : Trees
  db = s.now.trees

  abbrev found : List Row
  found = filter (of_target Playlist name) (db 5)

  abbrev copy_of : ℤ → Row → Row
  copy_of id r = Int id ∷ Text word ∷ Text other ∷ column r 3 ∷ column r 4 ∷ []

  abbrev task : Task
  task = record { limit = s.step_limit; keys = Enforced; schema = shelf_schema; table = placed_note; params = params }

  note_present : (r : Row) → Has found r → (not (is_null (column r 3)) ≡ true) × (not (is_null (column r 4)) ≡ true)
  note_present r h =
      let rules : Keeps NotNull shelf_schema db = subst (λ schema. Keeps NotNull schema db) lacks.shelf.schema (lacks.shelf.sound.obeys.rules NotNull) in
      let passed : are_present None 0 placed_note.columns r ≡ true = all_has _ (db 5) r rules.1.1.1.0 (has_filtered (of_target Playlist name) (db 5) r h).0 in
      present_note r passed

  judged : (id : ℤ) (r : Row) → Has found r → IsJudged placed_note (copy_of id r) None
  judged id r h =
      let typed = note_typed s name other lacks r h in
      let there = note_present r h in
      (refl, rw (typed.0, typed.1) refl, rw (there.0, there.1) refl, refl)

  number_there : (r : Row) → Has found r → NotNan (number (column r 3)) × NotNan (number (column r 4))
  number_there r h =
      let typed = note_typed s name other lacks r h in (
        never_nan (column r 3) (λ x real. true≢false (sym (subst (λ v. has_affinity kind.Text v ≡ true) real typed.0))),
        never_nan (column r 4) (λ x real. true≢false (sym (subst (λ v. has_affinity kind.Text v ≡ true) real typed.1))),
      )

  long : (id : ℤ) (r : Row) → Has found r → IsOversized shelf_schema placed_note (copy_of id r) → 10 ^ 9 < sum_by (λ v. 18 + length (bytes v)) (copy_of id r)
  unfolding Ieee.is_nan
  long id r h big = by_length (copy_of id r) (λ short. let numbers = number_there r h in elim big [
    | inl row ↦ row (stored (copy_of id r) (whole_number id, (tt, (tt, (numbers.0, (numbers.1, tt))))) (omega arith) (omega arith) short, omega arith)
    | inr (i, inl is, of, entry) ↦ let no : 1 ≡ 5 = subst (λ (x : Index). x.table ≡ 5) is of in omega (arith, no)
    | inr (i, inr (inl is), of, entry) ↦ let no : 3 ≡ 5 = subst (λ (x : Index). x.table ≡ 5) is of in omega (arith, no)
    | inr (i, inr (inr (inl is)), of, entry) ↦ subst (λ (x : Index). IsStorable (index_reals (table_reals placed_note) x.columns) (entry_of x.columns (copy_of id r)) → ⊥) is entry
        (stored (Text word ∷ Text other ∷ column r 3 ∷ Int id ∷ []) (tt, (tt, (numbers.0, (whole_number id, tt)))) (omega arith) (omega arith) (omega (arith, short)))
    | inr (i, inr (inr (inr none)), of, entry) ↦ none
  ])

  each_stopped : (rs : List Row) → ((r : Row) → Has rs r → Has found r) → (done : List Row) (w : Written) (top : ℤ) (stop : Option Error) → Copies s name other lacks done (w.trees 5) → Keeps Unique shelf_schema w.trees
      → next_rowid (w.trees 5) ≡ next_rowid (db 5) +ℤ pos (length done) → length done + length rs ≤ length (db 5)
      → TriesEach task Replace [] (map (source s name other lacks) rs) top w (Err stop) → CannotCopy (db 5) name other
  each_stopped [] among done w top stop so_far unique next few h = absurd (let e = h in cc)
  each_stopped (r ∷ rs) among done w top stop so_far unique next few (inl one) =
      let here = among r (inl refl) in
      let was = has_filtered (of_target Playlist name) (db 5) r here in
      let n : ℤ = next_rowid (w.trees 5) in
      let free = next_is_free Chosen (w.trees 5) (Text word ∷ Text other ∷ column r 3 ∷ column r 4 ∷ []) so_far.rise.rise so_far.rise.keyed in
      let try = subst (λ row. Tries task Replace [] (with_rowid Chosen (w.trees 5) row) w.trees (Err one.0)) (copied s name other lacks r here) one.1 in
      let why = tries_stopped placed_note (inr (inr (inr (inl refl)))) (λ olds news. refl) s.step_limit params (copy_of n r) (kept s name other lacks n r here) (judged n r here) (long n r here) w.trees one.0 so_far.rise unique free try in
      (r, was.0, was.1, length done, omega (arith, few), subst (λ id. IsUnstorable (copy_of id r)) next why)
  each_stopped (r ∷ rs) among done w top stop so_far unique next few (inr one) =
      let here = among r (inl refl) in
      let n : ℤ = next_rowid (w.trees 5) in
      let free = next_is_free Chosen (w.trees 5) (Text word ∷ Text other ∷ column r 3 ∷ column r 4 ∷ []) so_far.rise.rise so_far.rise.keyed in
      let try = subst (λ row. Tries task Replace [] (with_rowid Chosen (w.trees 5) row) w.trees (Ok one.0)) (copied s name other lacks r here) one.1 in
      let put = tried placed_note (λ olds news. refl) s.step_limit params (copy_of n r) (kept s name other lacks n r here) refl (same_key (Text word) (Text other) (column r 3)) (conflict_is n (Text word) (Text other) (column r 3) (column r 4)) w.trees one.0 so_far.rise free try in
      let step = copied_next s.step_limit params db lacks.shelf.notes found (λ r. Text word) (λ r. Text other) (λ r. column r 3) (λ r. column r 4) (source s name other lacks) (copied s name other lacks) (kept s name other lacks) (apart s name other lacks) (once s name other lacks)
      done (w.trees 5) so_far r here (one.0.trees 5) put.fresh put.rows put.are in
      let more : next_rowid (one.0.trees 5) ≡ next_rowid (db 5) +ℤ pos (length (r ∷ done)) =
      ap next_rowid put.rows ∙ next_more (w.trees 5) (λ x. not (same_key (Text word) (Text other) (column r 3) x)) (Text word ∷ Text other ∷ column r 3 ∷ column r 4 ∷ []) so_far.rise ∙ (let e = next in omega (arith, ints, e)) in
      each_stopped rs (λ x later. among x (inr later)) (r ∷ done) (joined w one.0) (higher top (copy_of n r)) stop step put.unique more (omega (arith, few))
      (subst (λ row. TriesEach task Replace [] (map (source s name other lacks) rs) (higher top (with_rowid Chosen (w.trees 5) row)) (joined w one.0) (Err stop)) (copied s name other lacks r here) one.2)

  -- the rows that are copied are those of the list, in some order
  moved_rows : (rows : List Row) → Queried s.step_limit (record { schema = shelf_schema; trees = db }) copy_program params (Ok rows)
      → (moved : List Row) × IsPermutation found moved × (rows ≡ map (source s name other lacks) moved)
  moved_rows rows answers =
      let answer = plain_answer five_columns 5 target_terms copy_terms [] (overlay db []) params rows (answers.answer Null) in
      let read = answer_is params 5 target_terms copy_terms [] (of_target Playlist name) (target_test_more Playlist name other) (overlay db []) rows answer in
      let images = moved_back (shows params 5 target_terms copy_terms [] (of_target Playlist name) (target_test_more Playlist name other)) found read.sorted read.same in
      (images.0, images.1, read.shown ∙ ap (map (λ (o : Output). o.1)) images.2 ∙ map-map (λ (o : Output). o.1) (shows params 5 target_terms copy_terms [] (of_target Playlist name) (target_test_more Playlist name other)) images.0)

  inserts_stopped : (stop : Option Error) → InsertsOr task Replace [] (Asked copy_program) db (Err stop) → IsSome s.step_limit ⊎ CannotCopy (db 5) name other
  inserts_stopped stop (inl asked) = inl (query_stopped s.step_limit (record { schema = shelf_schema; trees = db }) params asked.0 refl asked.1)
  inserts_stopped stop (inr (rows, given, inl counts)) = absurd (given_on {A = Option Row} None counts.0 counts.1)
  inserts_stopped stop (inr (rows, given, inr (counter, got, inl tries))) =
      let moved = moved_rows rows given in
      let long_enough : length moved.0 ≡ length found = length_permutation _ _ moved.1 in
      let most = fewer (of_target Playlist name) (db 5) in
      inr (each_stopped moved.0 (λ r more. has_permuted found moved.0 r moved.1 more) [] (nothing db) (count_of counter) tries.0
      (none_copied s.step_limit params db lacks.shelf.notes found (λ r. Text word) (λ r. Text other) (λ r. column r 3) (λ r. column r 4) (source s name other lacks) (copied s name other lacks) (kept s name other lacks) (apart s name other lacks) (once s name other lacks))
      (unique_in s.now lacks.shelf) (omega (arith, ints)) (omega (arith, long_enough, most)) (subst (λ rs. TriesEach task Replace [] rs (count_of counter) (nothing db) (Err tries.0)) moved.2 tries.1))
  inserts_stopped stop (inr (rows, given, inr (counter, got, inr (done, each, inl counts)))) = absurd (given_on done.0.trees counts.0 counts.1)
  inserts_stopped stop (inr (rows, given, inr (counter, got, inr (done, each, inr (next, counts, is))))) = absurd (cc)

  pub copy_refused : RefusedFor s copy_text params copying (KeepsASticker name other s.now)
  copy_refused stop h =
      let run : List ℕ = statement_of copy_text (understood shelf_schema copy_text) in
      elim (subst (λ schema. Does s.step_limit (mode_of s) params (record s.now { schema = schema }) run None copying (Err stop)) lacks.shelf.schema h) [
        | inl wrote ↦ inserts_stopped wrote.0 wrote.1
        | inr (w, wrote, ends) ↦ absurd (concludes_done s.step_limit placed_note params (mode_of s) w stop ends)
      ]

pub copy_whole : (name other : List ℕ) → IsWhole copy_text (Text (kind_text Playlist) ∷ Text name ∷ Text other ∷ [])
unfolding understood everything
copy_whole name other = (refl, refl)
