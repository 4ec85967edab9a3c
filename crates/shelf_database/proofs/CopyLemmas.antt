-- What it makes of the stickers to give those of a list to another name too.
use Rattle.std.specs.Prelude.{if◌then◌else◌}
use Rattle.std.proofs.Common.{◌≡◌, ◌≢◌, ◌⊎◌, inl, inr, ℕ, ℤ, List, [], ◌∷◌, map, filter, drop, Bool, true, false, not, ◌&&◌, ◌||◌, None, Option, Ok, refl, sym, ap, subst, ◌∙◌, IsTrue, arith}
use Rattle.std.specs.List.{AllByRecursion}
use Rattle.std.specs.Ordering.{is_eq}
use Rattle.std.proofs.lemmas.Bool.{cases_Bool, not-true, and_parts, not_from_false}
use Rattle.std.proofs.lemmas.List.Sorted.{IsPermutation-sym}
use Rattle.std.proofs.lemmas.Simd.{map-map}
use Rattle.sqlite.specs.declared.types.Value.{Value}
use Rattle.sqlite.specs.declared.types.Value.TheVariants.{Null, Int, Real, Text, Blob}
use Rattle.sqlite.specs.Collation.TheVariants.{Binary}
use Rattle.sqlite.specs.Order.{Row, column, value_cmp}
use Rattle.sqlite.specs.Tree.{Trees, rowid, put_row}
use Rattle.sqlite.specs.Kind.TheVariants as kind
use Rattle.sqlite.specs.View.{is_int}
use Rattle.sqlite.specs.Cast.{cast_row}
use Rattle.sqlite.specs.Ops.{is_null}
use Rattle.sqlite.specs.Query.{Output}
use Rattle.sqlite.specs.Program.{overlay}
use Rattle.sqlite.specs.Term.{eval_all}
use Rattle.sqlite.specs.Source.TheVariants.{Query as Asked}
use Rattle.sqlite.specs.Command.{Command}
use Rattle.sqlite.specs.Command.TheVariants.{InsertOr}
use Rattle.sqlite.specs.Rows.{Task, Written, Tries, TriesEach, count_of, nothing, mended, joined, higher}
use Rattle.sqlite.specs.Does.{Tally, Does}
use Rattle.sqlite.specs.Edit.{next_rowid, with_rowid, is_taken, are_fresh}
use Rattle.sqlite.specs.Rowids.TheVariants.{Chosen}
use Rattle.sqlite.specs.Effect.{Database}
use Rattle.sqlite.specs.State.{State, mode_of}
use Rattle.sqlite.specs.Listing.{understood}
use Rattle.sqlite.proofs.Callers.{statement_of}
use Rattle.sqlite_value.specs.Keys.{first_key}
use Rattle.sqlite_schema.specs.declared.command.Conflict.TheVariants.{Replace}
use Rattle.sqlite_schema.specs.declared.schema.Constraint.TheVariants.{Datatype, Unique}
use Rattle.sqlite_schema.specs.declared.schema.Keys.TheVariants.{Enforced}
use Rattle.sqlite_schema.specs.Rules.{Keeps, are_typed, has_affinity, equal, agree, clashes}
use Rattle.sqlite_rules.specs.Keys.{conflicts}
use Rattle.sqlite_rules.specs.Lists.{Has}
use Rattle.sqlite_rules.proofs.ListLemmas.{all_has, has_filtered}
use Rattle.sqlite_rules.proofs.PlaceLemmas.{next_is_free}
use Rattle.sqlite_rules.proofs.TableLemmas.{put_has, put_all_keeps, put_all_adds}
use Rattle.shelf.specs.declared.kinds.StickerKind.TheVariants.{Playlist}
use Rattle.shelf_database.specs.Tables.{shelf_schema, placed_note, kind_text, has_text, of_target, AreRows}
use Rattle.shelf_database.specs.Moves.{LacksNotes}
use Rattle.shelf_database.proofs.DeleteLemmas.{went, same_value, filtered_has, has_permuted}
use Rattle.shelf_database.proofs.MovedLemmas.{moved_back}
use Rattle.shelf_database.proofs.OnceLemmas.{one_row, itself_equal}
use Rattle.shelf_database.proofs.PutLemmas.{equal_id, tried, others_then}
use Rattle.shelf_database.proofs.PutListLemmas.{cast_null, cast_int}
use Rattle.shelf_database.proofs.ReadLemmas.{answer_is, plain_answer, shows}
use Rattle.shelf_database.proofs.RenameLemmas.{kept_text}
use Rattle.shelf_database.proofs.Statements.{target_terms, copy_terms, copy_program, copy_text, five_columns}
use Rattle.shelf_database.proofs.TextLemmas.{equal_text, text_is, and_neither, target_test_more}

-- a text column of note holds no number
typed_note : (row : Row) → are_typed None 0 placed_note.columns (drop 1 row) ≡ true → (has_affinity kind.Text (column row 3) ≡ true) × (has_affinity kind.Text (column row 4) ≡ true)
typed_note [] h = (refl, refl)
typed_note (id ∷ []) h = (refl, refl)
typed_note (id ∷ a ∷ []) h = (refl, refl)
typed_note (id ∷ a ∷ b ∷ []) h = (refl, refl)
typed_note (id ∷ a ∷ b ∷ c ∷ []) h = ((and_parts _ _ (and_parts _ _ (and_parts _ _ h).1).1).0, refl)
typed_note (id ∷ a ∷ b ∷ c ∷ d ∷ more) h =
    let third = and_parts _ _ (and_parts _ _ (and_parts _ _ h).1).1 in (third.0, (and_parts _ _ third.1).0)

-- REPLACE puts nothing in place of a value: the default is NULL
pub mended_same : (v : Value) → (if (is_null v && true) then Null else v) ≡ v
mended_same Null = refl
mended_same (Int n) = refl
mended_same (Real x) = refl
mended_same (Text t) = refl
mended_same (Blob b) = refl

tidy : (a b c d : Bool) → ((a && true) || ((b && (c && (d && true))) || false)) ≡ (a || (b && (c && d)))
tidy true b c d = refl
tidy false true true true = refl
tidy false true true false = refl
tidy false true false d = refl
tidy false false c d = refl

-- the row has the same key
abbrev pub same_key : Value → Value → Value → Row → Bool
same_key a b c row = equal Binary (column row 1) a && (equal Binary (column row 2) b && equal Binary (column row 3) c)

pub conflict_is : (id : ℤ) (a b c d : Value) (row : Row) → IsTrue (is_int (rowid row))
    → conflicts None shelf_schema.indexes placed_note (Int id ∷ a ∷ b ∷ c ∷ d ∷ []) row ≡ (is_eq (value_cmp (rowid row) (Int id)) || same_key a b c row)
unfolding first_key
conflict_is id a b c d row keyed = rw (equal_id (rowid row) id keyed) (tidy (is_eq (value_cmp (rowid row) (Int id))) (equal Binary (column row 1) a) (equal Binary (column row 2) b) (equal Binary (column row 3) c))

-- rows that are put into note one after another, each with a key of its own that none had
module _ (limit : Option ℕ) (params : Row) (db : Trees) (are : AreRows (db 5)) (found : List Row) (a b c d : Row → Value) (source : Row → Row)
    (copied : (r : Row) → Has found r → cast_row placed_note (mended Replace placed_note (source r)) ≡ Null ∷ a r ∷ b r ∷ c r ∷ d r ∷ [])
    (kept : (id : ℤ) (r : Row) → Has found r → cast_row placed_note (Int id ∷ a r ∷ b r ∷ c r ∷ d r ∷ []) ≡ Int id ∷ a r ∷ b r ∷ c r ∷ d r ∷ [])
    (apart : (x r : Row) → Has (db 5) x → Has found r → same_key (a r) (b r) (c r) x ≡ false)
    (once : (id : ℤ) (r x : Row) → Has found r → Has found x → same_key (a r) (b r) (c r) (Int id ∷ a x ∷ b x ∷ c x ∷ d x ∷ []) ≡ true → r ≡ x) where
  abbrev pub row_of : ℤ → Row → Row
  row_of id r = Int id ∷ a r ∷ b r ∷ c r ∷ d r ∷ []

  abbrev the_task : Task
  the_task = record { limit = limit; keys = Enforced; schema = shelf_schema; table = placed_note; params = params }

  -- after these were put in
  pub record IsCopied (done rows : List Row) : Type 0 where
    pub rise : AreRows rows
    pub from : (x : Row) → Has rows x → Has (db 5) x ⊎ ((r : Row) × Has done r × Has found r × (id : ℤ) × (x ≡ row_of id r))
    pub keeps : (x : Row) → Has (db 5) x → Has rows x
    pub adds : (r : Row) → Has done r → Has found r → (id : ℤ) × Has rows (row_of id r)

  pub none_copied : IsCopied [] (db 5)
  none_copied = record { rise = are; from = λ x h. inl h; keeps = λ x h. h; adds = λ r h among. absurd h }

  module _ (done rows : List Row) (so_far : IsCopied done rows) (r : Row) (among : Has found r) where
    abbrev id : ℤ
    id = next_rowid rows

    abbrev left : List Row
    left = filter (λ x. not (same_key (a r) (b r) (c r) x)) rows

    module _ (now : List Row) (fresh : is_taken left (row_of id r) ≡ false) (put : now ≡ put_row (row_of id r) left) (rises : AreRows now) where
      alone : are_fresh left (row_of id r ∷ []) ≡ true
      alone = rw fresh refl

      stays : (x : Row) → Has rows x → same_key (a r) (b r) (c r) x ≡ false → Has now x
      stays x h other = subst (λ xs. Has xs x) (sym put) (put_all_keeps (row_of id r ∷ []) left x alone (filtered_has (λ y. not (same_key (a r) (b r) (c r) y)) rows x h (not_from_false _ other)))

      comes : Has now (row_of id r)
      comes = subst (λ xs. Has xs (row_of id r)) (sym put) (put_all_adds (row_of id r ∷ []) left (row_of id r) alone (inl refl))

      added : (y : Row) → Has (r ∷ done) y → Has found y → (n : ℤ) × Has now (row_of n y)
      added y (inl same) here = (id, subst (λ z. Has now (row_of id z)) (sym same) comes)
      added y (inr before) here =
          let was = so_far.adds y before here in
          elim (cases_Bool (same_key (a r) (b r) (c r) (row_of was.0 y))) [
            | inl is ↦ (id, subst (λ z. Has now (row_of id z)) (once was.0 r y among here is) comes)
            | inr other ↦ (was.0, stays (row_of was.0 y) was.1 other)
          ]

      came : (x : Row) → Has now x → Has (db 5) x ⊎ ((y : Row) × Has (r ∷ done) y × Has found y × (n : ℤ) × (x ≡ row_of n y))
      came x h = elim (put_has (row_of id r) left x (subst (λ xs. Has xs x) put h)) [
        | inl same ↦ inr (r, inl refl, among, id, same)
        | inr was ↦ elim (so_far.from x (has_filtered (λ y. not (same_key (a r) (b r) (c r) y)) rows x was).0) [
          | inl first ↦ inl first
          | inr copy ↦ inr (copy.0, inr copy.1, copy.2, copy.3, copy.4)
        ]
      ]

      pub copied_next : IsCopied (r ∷ done) now
      copied_next = record { rise = rises; from = came; keeps = λ x h. stays x (so_far.keeps x h) (apart x r h among); adds = added }

  abbrev Others : Trees → Type 0
  Others now = AllByRecursion (λ t. t.tree ≢ 5 → now t.tree ≡ db t.tree) shelf_schema.tables

  -- one row after another
  pub each_copied : (rs : List Row) → ((r : Row) → Has rs r → Has found r) → (done : List Row) (w : Written) (top : ℤ) (out : Written × ℤ) → IsCopied done (w.trees 5) → Others w.trees
      → TriesEach the_task Replace [] (map source rs) top w (Ok out) → (all : List Row) × IsCopied all (out.0.trees 5) × Others out.0.trees × ((r : Row) → Has rs r → Has all r) × ((r : Row) → Has done r → Has all r)
  each_copied [] among done w top out so_far others h =
      let same : (w, top) ≡ out = same_value (sym h) in
      (done, subst (λ (o : Written × ℤ). IsCopied done (o.0.trees 5)) same so_far, subst (λ (o : Written × ℤ). Others o.0.trees) same others, λ r none. absurd none, λ r before. before)
  each_copied (r ∷ rs) among done w top out so_far others h =
      let one = went h in
      let here = among r (inl refl) in
      let n : ℤ = next_rowid (w.trees 5) in
      let new : Row = row_of n r in
      let free = next_is_free Chosen (w.trees 5) (a r ∷ b r ∷ c r ∷ d r ∷ []) so_far.rise.rise so_far.rise.keyed in
      let try = subst (λ row. Tries the_task Replace [] (with_rowid Chosen (w.trees 5) row) w.trees (Ok one.0)) (copied r here) one.1 in
      let put = tried placed_note (λ olds news. refl) limit params new (kept n r here) refl (same_key (a r) (b r) (c r)) (conflict_is n (a r) (b r) (c r) (d r)) w.trees one.0 so_far.rise free try in
      let next = copied_next done (w.trees 5) so_far r here (one.0.trees 5) put.fresh put.rows put.are in
      let rest = each_copied rs (λ x more. among x (inr more)) (r ∷ done) (joined w one.0) (higher top new) out next (others_then 5 shelf_schema.tables db w.trees one.0.trees others put.others)
      (subst (λ row. TriesEach the_task Replace [] (map source rs) (higher top (with_rowid Chosen (w.trees 5) row)) (joined w one.0) (Ok out)) (copied r here) one.2) in
      (rest.0, rest.1, rest.2, λ x more. elim more [ inl same ↦ rest.4 x (inl same) | inr later ↦ rest.3 x later ], λ x before. rest.4 x (inr before))

abbrev pub copying : Command
copying = InsertOr 3 Replace (Asked copy_program) []

module _ (s : State) (name other : List ℕ) (lacks : LacksNotes other s.now) where
  abbrev word : List ℕ
  word = kind_text Playlist

  abbrev params : Row
  params = Text word ∷ Text name ∷ Text other ∷ []

  abbrev db : Trees
  db = s.now.trees

  abbrev found : List Row
  found = filter (of_target Playlist name) (db 5)

  -- what a row of the list becomes
  abbrev image : Row → Row
  image r = Text word ∷ Text other ∷ column r 3 ∷ column r 4 ∷ []

  abbrev pub source : Row → Row
  source r = eval_all copy_terms (params ∷ r ∷ [])

  pub note_typed : (r : Row) → Has found r → (has_affinity kind.Text (column r 3) ≡ true) × (has_affinity kind.Text (column r 4) ≡ true)
  note_typed r h =
      let rules : Keeps Datatype shelf_schema db = subst (λ schema. Keeps Datatype schema db) lacks.shelf.schema (lacks.shelf.sound.obeys.rules Datatype) in
      let passed : (are_typed None 0 placed_note.columns (drop 1 r) && true) ≡ true = all_has _ (db 5) r rules.1.1.1.0 (has_filtered (of_target Playlist name) (db 5) r h).0 in
      typed_note r (and_parts _ _ passed).0

  pub copied : (r : Row) → Has found r → cast_row placed_note (mended Replace placed_note (source r)) ≡ Null ∷ image r
  copied r h =
      let was = has_filtered (of_target Playlist name) (db 5) r h in
      let kind_is : column r 1 ≡ Text word = text_is (column r 1) word (and_parts _ _ was.1).0 in
      let typed = note_typed r h in
      rw (kind_is, mended_same (column r 3), mended_same (column r 4), cast_null, kept_text (column r 3) typed.0, kept_text (column r 4) typed.1) refl

  pub kept : (id : ℤ) (r : Row) → Has found r → cast_row placed_note (Int id ∷ image r) ≡ Int id ∷ image r
  kept id r h = let typed = note_typed r h in rw (cast_int id, kept_text (column r 3) typed.0, kept_text (column r 4) typed.1) refl

  pub apart : (x r : Row) → Has (db 5) x → Has found r → same_key (Text word) (Text other) (column r 3) x ≡ false
  apart x r h among = rw (equal_text (column x 1) word, equal_text (column x 2) other) (and_neither (has_text 1 word x) (has_text 2 other x) (equal Binary (column x 3) (column r 3)) (lacks.none x h))

  pub once : (id : ℤ) (r x : Row) → Has found r → Has found x → same_key (Text word) (Text other) (column r 3) (Int id ∷ image x) ≡ true → r ≡ x
  unfolding first_key
  once id r x h k same =
      let was = has_filtered (of_target Playlist name) (db 5) r h in
      let there = has_filtered (of_target Playlist name) (db 5) x k in
      let ps = and_parts _ _ was.1 in
      let qs = and_parts _ _ there.1 in
      let third : equal Binary (column x 3) (column r 3) ≡ true = (and_parts _ _ (and_parts _ _ same).1).1 in
      let rules : Keeps Unique shelf_schema db = subst (λ schema. Keeps Unique schema db) lacks.shelf.schema (lacks.shelf.sound.obeys.rules Unique) in
      let passed : (not (clashes (record { digits = 0 }) (1 ∷ 2 ∷ 3 ∷ []) (db 5) r) && true) ≡ true = all_has _ (db 5) r rules.1.1.1.0 was.0 in
      let free = not-true _ (and_parts _ _ passed).0 in
      let agreed : agree (record { digits = 0 }) (1 ∷ 2 ∷ 3 ∷ []) x (1 ∷ 2 ∷ 3 ∷ []) r ≡ true =
      rw (text_is (column r 1) word ps.0, text_is (column x 1) word qs.0, text_is (column r 2) name ps.1, text_is (column x 2) name qs.1, equal_text (Text word) word, equal_text (Text name) name, itself_equal word, itself_equal name, third) refl in
      one_row (db 5) lacks.shelf.notes (λ y. agree (record { digits = 0 }) (1 ∷ 2 ∷ 3 ∷ []) y (1 ∷ 2 ∷ 3 ∷ []) r) r x was.0 there.0 agreed free

  abbrev pub Copies : List Row → List Row → Type 0
  Copies = IsCopied s.step_limit params db lacks.shelf.notes found (λ r. Text word) (λ r. Text other) (λ r. column r 3) (λ r. column r 4) source copied kept apart once

  -- the table has what it had, and a copy of each row of the list
  pub record HasCopies (after : Database) : Type 0 where
    pub schema : after.schema ≡ shelf_schema
    pub all : List Row
    pub rows : Copies all (after.trees 5)
    pub whole : (r : Row) → Has found r → Has all r
    pub lists : after.trees 1 ≡ db 1
    pub profile : after.trees 0 ≡ db 0

  pub copies : (tally : Tally) (after : Database) → Does s.step_limit (mode_of s) params s.now (statement_of copy_text (understood shelf_schema copy_text)) None copying (Ok (tally, after)) → HasCopies after
  copies tally after h =
      let run : List ℕ = statement_of copy_text (understood shelf_schema copy_text) in
      let done = went (subst (λ schema. Does s.step_limit (mode_of s) params (record s.now { schema = schema }) run None copying (Ok (tally, after))) lacks.shelf.schema h) in
      let now = ap (λ (p : Tally × Database). p.1) (same_value (went (went done.2).2).2) in
      let given = went done.1 in
      let counter = went given.2 in
      let tries = went counter.2 in
      let counted = went tries.2 in
      let answer = plain_answer five_columns 5 target_terms copy_terms [] (overlay db []) params given.0 (given.1.answer Null) in
      let read = answer_is params 5 target_terms copy_terms [] (of_target Playlist name) (target_test_more Playlist name other) (overlay db []) given.0 answer in
      let images = moved_back (shows params 5 target_terms copy_terms [] (of_target Playlist name) (target_test_more Playlist name other)) found read.sorted read.same in
      let rows_are : given.0 ≡ map source images.0 =
      read.shown ∙ ap (map (λ (o : Output). o.1)) images.2 ∙ map-map (λ (o : Output). o.1) (shows params 5 target_terms copy_terms [] (of_target Playlist name) (target_test_more Playlist name other)) images.0 in
      let task : Task = record { limit = s.step_limit; keys = Enforced; schema = shelf_schema; table = placed_note; params = params } in
      let each = each_copied s.step_limit params db lacks.shelf.notes found (λ r. Text word) (λ r. Text other) (λ r. column r 3) (λ r. column r 4) source copied kept apart once
      images.0 (λ r more. has_permuted found images.0 r images.1 more) [] (nothing db) (count_of counter.0) tries.0
      (none_copied s.step_limit params db lacks.shelf.notes found (λ r. Text word) (λ r. Text other) (λ r. column r 3) (λ r. column r 4) source copied kept apart once)
      (λ e. refl, (λ e. refl, (λ e. refl, (λ e. refl, tt)))) (subst (λ rs. TriesEach task Replace [] rs (count_of counter.0) (nothing db) (Ok tries.0)) rows_are tries.1) in
      let last : done.0.trees ≡ tries.0.0.trees = ap (λ (it : Written). it.trees) (same_value counted.2) ∙ same_value counted.1 in
      let trees : after.trees ≡ tries.0.0.trees = ap (λ (d : Database). d.trees) now ∙ last in
      record {
        schema = ap (λ (d : Database). d.schema) now;
        all = each.0;
        rows = subst (λ (t : Trees). Copies each.0 (t 5)) (sym trees) each.1;
        whole = λ r among. each.3 r (has_permuted images.0 found r (IsPermutation-sym _ _ images.1) among);
        lists = ap (λ (t : Trees). t 1) trees ∙ each.2.1.0 (λ e. omega (arith, e));
        profile = ap (λ (t : Trees). t 0) trees ∙ each.2.0 (λ e. omega (arith, e));
      }
