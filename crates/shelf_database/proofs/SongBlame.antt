-- Why the stickers of profile 1 are not copied into note: a copy is not stored.
use Rattle.std.proofs.Common.{◌≡◌, ◌⊎◌, ◌<◌, ◌≤◌, ◌+◌, ◌^◌, inl, inr, ℕ, ℤ, pos, List, [], ◌∷◌, length, map, sum_by, true, not, Some, None, Option, Ok, Err, refl, sym, ap, subst, ◌∙◌, IsSome, arith}
use Rattle.std.specs.Prelude.{◌+ℤ◌}
use Rattle.std.specs.Float.{NotNan}
use Rattle.std.specs.Float.Ieee
use Rattle.std.proofs.lemmas.Int.{ints}
use Rattle.std.proofs.lemmas.Bool.{true≢false, and_parts}
use Rattle.std.proofs.lemmas.List.Sorted.{length_permutation}
use Rattle.sqlite.specs.declared.error.Error.{Error}
use Rattle.sqlite.specs.declared.types.Value.TheVariants.{Int, Text}
use Rattle.sqlite.specs.Kind.TheVariants as kind
use Rattle.sqlite.specs.Order.{Row, column, bytes, number}
use Rattle.sqlite.specs.Tree.{Trees}
use Rattle.sqlite.specs.View.{IsStorable}
use Rattle.sqlite.specs.Ops.{is_null}
use Rattle.sqlite.specs.Edit.{next_rowid, with_rowid, IsOversized}
use Rattle.sqlite.specs.Rowids.TheVariants.{Chosen}
use Rattle.sqlite.specs.Effect.{Database}
use Rattle.sqlite.specs.Source.TheVariants.{Query as Asked}
use Rattle.sqlite.specs.Rows.{Task, Written, Tries, TriesEach, Queried, InsertsOr, count_of, nothing, joined, higher}
use Rattle.sqlite.specs.Does.{Does}
use Rattle.sqlite.specs.State.{State, mode_of}
use Rattle.sqlite.specs.Listing.{understood}
use Rattle.sqlite.proofs.Callers.{statement_of}
use Rattle.sqlite_tied.specs.Compute.{everything}
use Rattle.sqlite_typing.specs.Types.{accepts_program}
use Rattle.sqlite_sql.specs.Catalog.{entry_of}
use Rattle.sqlite_schema.specs.declared.command.Conflict.TheVariants.{Replace}
use Rattle.sqlite_schema.specs.declared.schema.Constraint.TheVariants.{Unique, NotNull}
use Rattle.sqlite_schema.specs.declared.schema.Keys.TheVariants.{Enforced}
use Rattle.sqlite_schema.specs.declared.schema.Index.{Index}
use Rattle.sqlite_schema.specs.Rules.{Keeps, are_present, has_affinity, table_reals, index_reals}
use Rattle.sqlite_rules.specs.Steps.{IsJudged}
use Rattle.sqlite_rules.specs.Lists.{Has}
use Rattle.sqlite_rules.proofs.ListLemmas.{all_has, has_filtered}
use Rattle.sqlite_rules.proofs.PlaceLemmas.{next_is_free}
use Rattle.shelf.specs.declared.kinds.StickerKind.TheVariants.{Song}
use Rattle.shelf_database.specs.Tables.{shelf_schema, placed_sticker, placed_note, kind_text}
use Rattle.shelf_database.specs.Faults.{IsUnstorable}
use Rattle.shelf_database.specs.Opens.{HasNoNotes, KeepsOne}
use Rattle.shelf_database.proofs.BlameLemmas.{IsWhole}
use Rattle.shelf_database.proofs.CopyBlame.{next_more, fewer}
use Rattle.shelf_database.proofs.CopyLemmas.{copied_next, conflict_is, same_key}
use Rattle.shelf_database.proofs.DeleteLemmas.{has_permuted}
use Rattle.shelf_database.proofs.EditBlame.{stored, by_length, whole_number}
use Rattle.shelf_database.proofs.MakingBlame.{IsSureFor}
use Rattle.shelf_database.proofs.PutLemmas.{tried}
use Rattle.shelf_database.proofs.RefusalLemmas.{concludes_done}
use Rattle.shelf_database.proofs.RenameEdit.{never_nan}
use Rattle.shelf_database.proofs.ReplaceBlame.{tries_stopped, given_on}
use Rattle.shelf_database.proofs.SongCopies.{Copies, found, source, bare, copied, kept, apart, once, none_yet, sticker_typed, moved_rows, song_copying}
use Rattle.shelf_database.proofs.Statements.{over_by, five_columns, move_terms, move_program, move_text}

present_sticker : (row : Row) → are_present None 0 placed_sticker.columns row ≡ true → (not (is_null (column row 1)) ≡ true) × (not (is_null (column row 2)) ≡ true) × (not (is_null (column row 3)) ≡ true)
present_sticker row h = let first = and_parts _ _ h in let second = and_parts _ _ first.1 in (first.0, second.0, (and_parts _ _ second.1).0)

-- such a query is stopped by the limit alone
query_stopped : (limit : Option ℕ) (db : Database) (stop : Option Error) → accepts_program db.schema [] (over_by five_columns 3 [] move_terms []) [] ≡ true → Queried limit db move_program [] (Err stop) → IsSome limit
query_stopped limit db None typed h = absurd h
query_stopped limit db (Some e) typed h = elim h [
  | inl mistyped ↦ absurd (true≢false (sym typed ∙ mistyped.1))
  | inr (inl sum) ↦ absurd (elim sum.1 [ inl never ↦ never | inr some ↦ some.4 ])
  | inr (inr stopped) ↦ stopped.1
]

module _ (s : State) (has : HasNoNotes s.now) where
  abbrev word : List ℕ
  word = kind_text Song

  abbrev db : Trees
  db = s.now.trees

  abbrev rows_there : List Row
  rows_there = found s has

  abbrev copy_of : ℤ → Row → Row
  copy_of id r = Int id ∷ Text word ∷ column r 1 ∷ column r 2 ∷ column r 3 ∷ []

  abbrev task : Task
  task = record { limit = s.step_limit; keys = Enforced; schema = shelf_schema; table = placed_note; params = [] }

  sticker_present : (r : Row) → Has rows_there r → (not (is_null (column r 1)) ≡ true) × (not (is_null (column r 2)) ≡ true) × (not (is_null (column r 3)) ≡ true)
  sticker_present r h =
      let rules : Keeps NotNull shelf_schema db = subst (λ schema. Keeps NotNull schema db) has.schema (has.sound.obeys.rules NotNull) in
      let passed : are_present None 0 placed_sticker.columns r ≡ true = all_has _ (db 3) r rules.1.1.0 (has_filtered (λ _. true) (db 3) r h).0 in
      present_sticker r passed

  judged : (id : ℤ) (r : Row) → Has rows_there r → IsJudged placed_note (copy_of id r) None
  judged id r h =
      let typed = sticker_typed s has r h in
      let there = sticker_present r h in
      (refl, rw (typed.0, typed.1, typed.2) refl, rw (there.0, there.1, there.2) refl, refl)

  no_number : (r : Row) (at : ℕ) → has_affinity kind.Text (column r at) ≡ true → NotNan (number (column r at))
  no_number r at typed = never_nan (column r at) (λ x real. true≢false (sym (subst (λ v. has_affinity kind.Text v ≡ true) real typed)))

  long : (id : ℤ) (r : Row) → Has rows_there r → IsOversized shelf_schema placed_note (copy_of id r) → 10 ^ 9 < sum_by (λ v. 18 + length (bytes v)) (copy_of id r)
  unfolding Ieee.is_nan
  long id r h big =
      let typed = sticker_typed s has r h in
      let a = no_number r 1 typed.0 in
      let b = no_number r 2 typed.1 in
      let c = no_number r 3 typed.2 in
      by_length (copy_of id r) (λ short. elim big [
        | inl row ↦ row (stored (copy_of id r) (whole_number id, (tt, (a, (b, (c, tt))))) (omega arith) (omega arith) short, omega arith)
        | inr (i, inl is, of, entry) ↦ let no : 1 ≡ 5 = subst (λ (x : Index). x.table ≡ 5) is of in omega (arith, no)
        | inr (i, inr (inl is), of, entry) ↦ let no : 3 ≡ 5 = subst (λ (x : Index). x.table ≡ 5) is of in omega (arith, no)
        | inr (i, inr (inr (inl is)), of, entry) ↦ subst (λ (x : Index). IsStorable (index_reals (table_reals placed_note) x.columns) (entry_of x.columns (copy_of id r)) → ⊥) is entry
            (stored (Text word ∷ column r 1 ∷ column r 2 ∷ Int id ∷ []) (tt, (a, (b, (whole_number id, tt)))) (omega arith) (omega arith) (omega (arith, short)))
        | inr (i, inr (inr (inr none)), of, entry) ↦ none
      ])

  each_stopped : (rs : List Row) → ((r : Row) → Has rs r → Has rows_there r) → (done : List Row) (w : Written) (top : ℤ) (stop : Option Error) → Copies s has done (w.trees 5) → Keeps Unique shelf_schema w.trees
      → next_rowid (w.trees 5) ≡ next_rowid [] +ℤ pos (length done) → length done + length rs ≤ length (db 3) → TriesEach task Replace [] (map (source s has) rs) top w (Err stop) → KeepsOne s.now
  each_stopped [] among done w top stop so_far unique next few h = absurd (let e = h in cc)
  each_stopped (r ∷ rs) among done w top stop so_far unique next few (inl one) =
      let here = among r (inl refl) in
      let n : ℤ = next_rowid (w.trees 5) in
      let free = next_is_free Chosen (w.trees 5) (Text word ∷ column r 1 ∷ column r 2 ∷ column r 3 ∷ []) so_far.rise.rise so_far.rise.keyed in
      let try = subst (λ row. Tries task Replace [] (with_rowid Chosen (w.trees 5) row) w.trees (Err one.0)) (copied s has r here) one.1 in
      let why = tries_stopped placed_note (inr (inr (inr (inl refl)))) (λ olds news. refl) s.step_limit [] (copy_of n r) (kept s has n r here) (judged n r here) (long n r here) w.trees one.0 so_far.rise unique free try in
      (r, (has_filtered (λ _. true) (db 3) r here).0, length done, omega (arith, few), subst (λ id. IsUnstorable (copy_of id r)) next why)
  each_stopped (r ∷ rs) among done w top stop so_far unique next few (inr one) =
      let here = among r (inl refl) in
      let n : ℤ = next_rowid (w.trees 5) in
      let free = next_is_free Chosen (w.trees 5) (Text word ∷ column r 1 ∷ column r 2 ∷ column r 3 ∷ []) so_far.rise.rise so_far.rise.keyed in
      let try = subst (λ row. Tries task Replace [] (with_rowid Chosen (w.trees 5) row) w.trees (Ok one.0)) (copied s has r here) one.1 in
      let put = tried placed_note (λ olds news. refl) s.step_limit [] (copy_of n r) (kept s has n r here) refl (same_key (Text word) (column r 1) (column r 2)) (conflict_is n (Text word) (column r 1) (column r 2) (column r 3)) w.trees one.0 so_far.rise free try in
      let step = copied_next s.step_limit [] db (bare s has) rows_there (λ r. Text word) (λ r. column r 1) (λ r. column r 2) (λ r. column r 3) (source s has) (copied s has) (kept s has) (apart s has) (once s has)
      done (w.trees 5) so_far r here (one.0.trees 5) put.fresh put.rows put.are in
      let more : next_rowid (one.0.trees 5) ≡ next_rowid [] +ℤ pos (length (r ∷ done)) =
      ap next_rowid put.rows ∙ next_more (w.trees 5) (λ x. not (same_key (Text word) (column r 1) (column r 2) x)) (Text word ∷ column r 1 ∷ column r 2 ∷ column r 3 ∷ []) so_far.rise ∙ (let e = next in omega (arith, ints, e)) in
      each_stopped rs (λ x later. among x (inr later)) (r ∷ done) (joined w one.0) (higher top (copy_of n r)) stop step put.unique more (omega (arith, few))
      (subst (λ row. TriesEach task Replace [] (map (source s has) rs) (higher top (with_rowid Chosen (w.trees 5) row)) (joined w one.0) (Err stop)) (copied s has r here) one.2)

  inserts_stopped : (stop : Option Error) → InsertsOr task Replace [] (Asked move_program) db (Err stop) → IsSome s.step_limit ⊎ KeepsOne s.now
  inserts_stopped stop (inl asked) = inl (query_stopped s.step_limit (record { schema = shelf_schema; trees = db }) asked.0 refl asked.1)
  inserts_stopped stop (inr (rows, given, inl counts)) = absurd (given_on {A = Option Row} None counts.0 counts.1)
  inserts_stopped stop (inr (rows, given, inr (counter, got, inl tries))) =
      let moved = moved_rows s has rows given in
      let long_enough : length moved.0 ≡ length rows_there = length_permutation _ _ moved.1 in
      let most = fewer (λ _. true) (db 3) in
      let unique = subst (λ schema. Keeps Unique schema db) has.schema (has.sound.obeys.rules Unique) in
      inr (each_stopped moved.0 (λ r more. has_permuted rows_there moved.0 r moved.1 more) [] (nothing db) (count_of counter) tries.0 (none_yet s has)
      unique (ap next_rowid has.notes) (omega (arith, long_enough, most)) (subst (λ rs. TriesEach task Replace [] rs (count_of counter) (nothing db) (Err tries.0)) moved.2 tries.1))
  inserts_stopped stop (inr (rows, given, inr (counter, got, inr (done, each, inl counts)))) = absurd (given_on done.0.trees counts.0 counts.1)
  inserts_stopped stop (inr (rows, given, inr (counter, got, inr (done, each, inr (next, counts, is))))) = absurd (cc)

pub move_sure : IsSureFor HasNoNotes KeepsOne (statement_of move_text (understood shelf_schema move_text)) [] song_copying
move_sure s stop has h =
    let run : List ℕ = statement_of move_text (understood shelf_schema move_text) in
    elim (subst (λ schema. Does s.step_limit (mode_of s) [] (record s.now { schema = schema }) run None song_copying (Err stop)) has.schema h) [
      | inl wrote ↦ inserts_stopped s has wrote.0 wrote.1
      | inr (w, wrote, ends) ↦ absurd (concludes_done s.step_limit placed_note [] (mode_of s) w stop ends)
    ]

pub move_whole : IsWhole move_text []
unfolding understood everything
move_whole = (refl, refl)
