-- What it makes of the stickers of profile 1 to copy them into note: each is one of a song.
use Rattle.std.proofs.Common.{◌≡◌, inl, inr, ℕ, ℤ, List, [], ◌∷◌, map, filter, find, drop, Bool, true, false, not, ◌&&◌, Some, None, Option, option_map, Ok, refl, sym, ap, subst, ◌∙◌, arith}
use Rattle.std.specs.List.Sorted.{IsPermutation}
use Rattle.std.proofs.lemmas.Bool.{true≢false, not-true, and_parts, and_from}
use Rattle.std.proofs.lemmas.List.Sorted.{IsPermutation-sym}
use Rattle.std.proofs.lemmas.Simd.{map-map}
use Rattle.sqlite.specs.declared.types.Value.TheVariants.{Null, Int, Text}
use Rattle.sqlite.specs.Collation.TheVariants.{Binary}
use Rattle.sqlite.specs.Order.{Row, column, bytes}
use Rattle.sqlite.specs.Tree.{Trees}
use Rattle.sqlite.specs.Kind.TheVariants as kind
use Rattle.sqlite.specs.Cast.{cast_row}
use Rattle.sqlite.specs.Query.{Output}
use Rattle.sqlite.specs.Program.{overlay}
use Rattle.sqlite.specs.Term.{eval_all}
use Rattle.sqlite.specs.Source.TheVariants.{Query as Asked}
use Rattle.sqlite.specs.Command.{Command}
use Rattle.sqlite.specs.Command.TheVariants.{InsertOr}
use Rattle.sqlite.specs.Rows.{Task, Written, TriesEach, Queried, count_of, nothing, mended}
use Rattle.sqlite.specs.Does.{Tally, Does}
use Rattle.sqlite.specs.Effect.{Database, IsDatabase}
use Rattle.sqlite.specs.State.{State, mode_of}
use Rattle.sqlite.specs.Listing.{understood}
use Rattle.sqlite.proofs.Callers.{statement_of}
use Rattle.sqlite_value.specs.Keys.{first_key}
use Rattle.sqlite_schema.specs.declared.command.Conflict.TheVariants.{Replace}
use Rattle.sqlite_schema.specs.declared.schema.Constraint.TheVariants.{Datatype, Unique}
use Rattle.sqlite_schema.specs.declared.schema.Keys.TheVariants.{Enforced}
use Rattle.sqlite_schema.specs.Rules.{Keeps, are_typed, has_affinity, equal, agree, clashes}
use Rattle.sqlite_rules.specs.Lists.{Has}
use Rattle.sqlite_rules.proofs.ListLemmas.{all_has, has_filtered, has_found}
use Rattle.shelf.specs.declared.kinds.StickerKind.{StickerKind}
use Rattle.shelf.specs.declared.kinds.StickerKind.TheVariants.{Song, Playlist}
use Rattle.shelf_database.specs.Tables.{shelf_schema, placed_sticker, placed_note, kind_text, has_text, has_key, former_stickers, note_maps, AreRows, IsShelf, IsText, HaveTexts}
use Rattle.shelf_database.specs.Opens.{HasNoNotes, CopiesStickers}
use Rattle.shelf_database.proofs.CopyLemmas.{IsCopied, none_copied, each_copied, mended_same, same_key}
use Rattle.shelf_database.proofs.CopiedMaps.{find_is, never_found}
use Rattle.shelf_database.proofs.DeleteLemmas.{went, same_value, filtered_has, has_permuted}
use Rattle.shelf_database.proofs.HoldsLemmas.{text_there, four_texts}
use Rattle.shelf_database.proofs.MovedLemmas.{moved_back}
use Rattle.shelf_database.proofs.OnceLemmas.{one_row, once_note, itself_equal}
use Rattle.shelf_database.proofs.PutListLemmas.{cast_null, cast_int}
use Rattle.shelf_database.proofs.PutNoteLemmas.{kind_utf8}
use Rattle.shelf_database.proofs.ReadLemmas.{answer_is, plain_answer, shows}
use Rattle.shelf_database.proofs.RenameEdit.{none_found}
use Rattle.shelf_database.proofs.RenameLemmas.{kept_text}
use Rattle.shelf_database.proofs.TextLemmas.{same_bytes}
use Rattle.shelf_database.proofs.Statements.{move_terms, move_program, move_text, five_columns}

-- a text column of sticker holds no number
typed_sticker : (row : Row) → are_typed None 0 placed_sticker.columns (drop 1 row) ≡ true
    → (has_affinity kind.Text (column row 1) ≡ true) × (has_affinity kind.Text (column row 2) ≡ true) × (has_affinity kind.Text (column row 3) ≡ true)
typed_sticker [] h = (refl, refl, refl)
typed_sticker (id ∷ []) h = (refl, refl, refl)
typed_sticker (id ∷ a ∷ []) h = ((and_parts _ _ h).0, refl, refl)
typed_sticker (id ∷ a ∷ b ∷ []) h = let first = and_parts _ _ h in (first.0, (and_parts _ _ first.1).0, refl)
typed_sticker (id ∷ a ∷ b ∷ c ∷ more) h = let first = and_parts _ _ h in let second = and_parts _ _ first.1 in (first.0, second.0, (and_parts _ _ second.1).0)

abbrev pub song_copying : Command
song_copying = InsertOr 3 Replace (Asked move_program) []

module _ (s : State) (has : HasNoNotes s.now) where
  abbrev word : List ℕ
  word = kind_text Song

  abbrev db : Trees
  db = s.now.trees

  abbrev pub found : List Row
  found = filter (λ _. true) (db 3)

  -- what a sticker becomes
  abbrev image : Row → Row
  image r = Text word ∷ column r 1 ∷ column r 2 ∷ column r 3 ∷ []

  abbrev pub source : Row → Row
  source r = eval_all move_terms ([] ∷ r ∷ [])

  pub bare : AreRows (db 5)
  bare = subst AreRows (sym has.notes) (record { rise = tt; keyed = tt })

  there : (r : Row) → Has found r → Has (db 3) r
  there r h = (has_filtered (λ _. true) (db 3) r h).0

  pub sticker_typed : (r : Row) → Has found r → (has_affinity kind.Text (column r 1) ≡ true) × (has_affinity kind.Text (column r 2) ≡ true) × (has_affinity kind.Text (column r 3) ≡ true)
  sticker_typed r h =
      let rules : Keeps Datatype shelf_schema db = subst (λ schema. Keeps Datatype schema db) has.schema (has.sound.obeys.rules Datatype) in
      let passed : (are_typed None 0 placed_sticker.columns (drop 1 r) && true) ≡ true = all_has _ (db 3) r rules.1.1.0 (there r h) in
      typed_sticker r (and_parts _ _ passed).0

  pub copied : (r : Row) → Has found r → cast_row placed_note (mended Replace placed_note (source r)) ≡ Null ∷ image r
  copied r h =
      let typed = sticker_typed r h in
      rw (mended_same (column r 1), mended_same (column r 2), mended_same (column r 3), cast_null, kept_text (column r 1) typed.0, kept_text (column r 2) typed.1, kept_text (column r 3) typed.2) refl

  pub kept : (id : ℤ) (r : Row) → Has found r → cast_row placed_note (Int id ∷ image r) ≡ Int id ∷ image r
  kept id r h = let typed = sticker_typed r h in rw (cast_int id, kept_text (column r 1) typed.0, kept_text (column r 2) typed.1, kept_text (column r 3) typed.2) refl

  never_there : (x : Row) → Has (db 5) x → ⊥
  never_there x h = subst (λ rows. Has rows x) has.notes h

  pub apart : (x r : Row) → Has (db 5) x → Has found r → same_key (Text word) (column r 1) (column r 2) x ≡ false
  apart x r h among = absurd (never_there x h)

  pub once : (id : ℤ) (r x : Row) → Has found r → Has found x → same_key (Text word) (column r 1) (column r 2) (Int id ∷ image x) ≡ true → r ≡ x
  unfolding first_key
  once id r x h k same =
      let rules : Keeps Unique shelf_schema db = subst (λ schema. Keeps Unique schema db) has.schema (has.sound.obeys.rules Unique) in
      let passed : (not (clashes (record { digits = 0 }) (1 ∷ 2 ∷ []) (db 3) r) && true) ≡ true = all_has _ (db 3) r rules.1.1.0 (there r h) in
      let free = not-true _ (and_parts _ _ passed).0 in
      let both = and_parts (equal Binary (column x 1) (column r 1)) (equal Binary (column x 2) (column r 2)) (and_parts (equal Binary (Text word) (Text word)) _ same).1 in
      let agreed : agree (record { digits = 0 }) (1 ∷ 2 ∷ []) x (1 ∷ 2 ∷ []) r ≡ true = rw (both.0, both.1) refl in
      one_row (db 3) has.stickers (λ y. agree (record { digits = 0 }) (1 ∷ 2 ∷ []) y (1 ∷ 2 ∷ []) r) r x (there r h) (there x k) agreed free

  abbrev pub Copies : List Row → List Row → Type 0
  Copies = IsCopied s.step_limit [] db bare found (λ r. Text word) (λ r. column r 1) (λ r. column r 2) (λ r. column r 3) source copied kept apart once

  pub none_yet : Copies [] (db 5)
  none_yet = none_copied s.step_limit [] db bare found (λ r. Text word) (λ r. column r 1) (λ r. column r 2) (λ r. column r 3) source copied kept apart once

  -- the rows that are copied are those of sticker, in some order
  pub moved_rows : (rows : List Row) → Queried s.step_limit (record { schema = shelf_schema; trees = db }) move_program [] (Ok rows) → (moved : List Row) × IsPermutation found moved × (rows ≡ map source moved)
  moved_rows rows answers =
      let answer = plain_answer five_columns 3 [] move_terms [] (overlay db []) [] rows (answers.answer Null) in
      let read = answer_is [] 3 [] move_terms [] (λ _. true) (λ _. refl) (overlay db []) rows answer in
      let images = moved_back (shows [] 3 [] move_terms [] (λ _. true) (λ _. refl)) found read.sorted read.same in
      (images.0, images.1, read.shown ∙ ap (map (λ (o : Output). o.1)) images.2 ∙ map-map (λ (o : Output). o.1) (shows [] 3 [] move_terms [] (λ _. true) (λ _. refl)) images.0)

  -- note has a copy of each sticker
  record HasCopies (after : Database) : Type 0 where
    pub schema : after.schema ≡ shelf_schema
    pub all : List Row
    pub rows : Copies all (after.trees 5)
    pub whole : (r : Row) → Has found r → Has all r
    pub profile : after.trees 0 ≡ db 0
    pub lists : after.trees 1 ≡ db 1
    pub stickers : after.trees 3 ≡ db 3

  copies : (tally : Tally) (after : Database) → Does s.step_limit (mode_of s) [] s.now (statement_of move_text (understood shelf_schema move_text)) None song_copying (Ok (tally, after)) → HasCopies after
  copies tally after h =
      let run : List ℕ = statement_of move_text (understood shelf_schema move_text) in
      let done = went (subst (λ schema. Does s.step_limit (mode_of s) [] (record s.now { schema = schema }) run None song_copying (Ok (tally, after))) has.schema h) in
      let now = ap (λ (p : Tally × Database). p.1) (same_value (went (went done.2).2).2) in
      let given = went done.1 in
      let counter = went given.2 in
      let tries = went counter.2 in
      let counted = went tries.2 in
      let images = moved_rows given.0 given.1 in
      let task : Task = record { limit = s.step_limit; keys = Enforced; schema = shelf_schema; table = placed_note; params = [] } in
      let each = each_copied s.step_limit [] db bare found (λ r. Text word) (λ r. column r 1) (λ r. column r 2) (λ r. column r 3) source copied kept apart once
      images.0 (λ r more. has_permuted found images.0 r images.1 more) [] (nothing db) (count_of counter.0) tries.0 none_yet
      (λ e. refl, (λ e. refl, (λ e. refl, (λ e. refl, tt)))) (subst (λ rs. TriesEach task Replace [] rs (count_of counter.0) (nothing db) (Ok tries.0)) images.2 tries.1) in
      let last : done.0.trees ≡ tries.0.0.trees = ap (λ (it : Written). it.trees) (same_value counted.2) ∙ same_value counted.1 in
      let trees : after.trees ≡ tries.0.0.trees = ap (λ (d : Database). d.trees) now ∙ last in
      record {
        schema = ap (λ (d : Database). d.schema) now;
        all = each.0;
        rows = subst (λ (t : Trees). Copies each.0 (t 5)) (sym trees) each.1;
        whole = λ r among. each.3 r (has_permuted images.0 found r (IsPermutation-sym _ _ images.1) among);
        profile = ap (λ (t : Trees). t 0) trees ∙ each.2.0 (λ e. omega (arith, e));
        lists = ap (λ (t : Trees). t 1) trees ∙ each.2.1.0 (λ e. omega (arith, e));
        stickers = ap (λ (t : Trees). t 3) trees ∙ each.2.1.1.0 (λ e. omega (arith, e));
      }

  module _ (after : Database) (sound : IsDatabase after) (made : HasCopies after) where
    abbrev copy_of : ℤ → Row → Row
    copy_of id r = Int id ∷ image r

    shelf_after : IsShelf after
    shelf_after = record { schema = made.schema; sound = sound; lists = subst AreRows (sym made.lists) has.lists; notes = made.rows.rise }

    abbrev of_song : List ℕ → List ℕ → Row → Bool
    of_song uri name row = has_text 1 uri row && has_text 2 name row

    songs : (uri name : List ℕ) → (note_maps after.trees).stickers Song uri name ≡ former_stickers (db 3) Song uri name
    songs uri name = go (find (of_song uri name) (db 3)) refl
      where
        go : (o : Option Row) → find (of_song uri name) (db 3) ≡ o → (note_maps after.trees).stickers Song uri name ≡ option_map (λ row. bytes (column row 3)) o
        go (Some r) e =
            let it = has_found (of_song uri name) (db 3) r e in
            let among = filtered_has (λ _. true) (db 3) r it.0 refl in
            let copy = made.rows.adds r (made.whole r among) among in
            ap (option_map (λ row. bytes (column row 4))) (find_is (has_key Song uri name) (after.trees 5) (copy_of copy.0 r) copy.1 (and_from _ _ (itself_equal word) it.1) (once_note Song uri name after shelf_after))
        go None e = ap (option_map (λ row. bytes (column row 4))) (never_found (has_key Song uri name) (after.trees 5) (λ x h is. elim (made.rows.from x h) [
          | inl was ↦ never_there x was
          | inr copy ↦ none_found (of_song uri name) (db 3) copy.0 e (there copy.0 copy.2) (and_parts (has_text 1 word (copy_of copy.3 copy.0)) (of_song uri name copy.0) (subst (λ y. has_key Song uri name y ≡ true) copy.4 is)).1
        ]))

    no_lists : (target name : List ℕ) → (note_maps after.trees).stickers Playlist target name ≡ None
    no_lists target name = ap (option_map (λ row. bytes (column row 4))) (never_found (has_key Playlist target name) (after.trees 5) (λ x h is. elim (made.rows.from x h) [
      | inl was ↦ never_there x was
      | inr copy ↦ true≢false (sym (and_parts (has_text 1 (kind_text Playlist) (copy_of copy.3 copy.0)) _ (subst (λ y. has_key Playlist target name y ≡ true) copy.4 is)).0 ∙ same_bytes word (kind_text Playlist))
    ]))

    all_stickers : (kind : StickerKind) (target name : List ℕ) → (note_maps after.trees).stickers kind target name ≡ former_stickers (db 3) kind target name
    all_stickers Song target name = songs target name
    all_stickers Playlist target name = no_lists target name

    copied_texts : HaveTexts (1 ∷ 2 ∷ 3 ∷ []) (db 3) → HaveTexts (1 ∷ 2 ∷ 3 ∷ 4 ∷ []) (after.trees 5)
    copied_texts texts x h at is = elim (made.rows.from x h) [
      | inl was ↦ absurd (never_there x was)
      | inr copy ↦
          let r = there copy.0 copy.2 in
          subst (λ (y : Row). IsText (column y at)) (sym copy.4) (four_texts (Int copy.3) (Text word) (column copy.0 1) (column copy.0 2) (column copy.0 3) (text_there word (kind_utf8 Song))
          (texts copy.0 r 1 (inl refl)) (texts copy.0 r 2 (inr (inl refl))) (texts copy.0 r 3 (inr (inr (inl refl)))) at is)
    ]

    all_copied : CopiesStickers s.now after
    all_copied = record {
      schema = made.schema;
      sound = sound;
      profile = made.profile;
      lists = made.lists;
      stickers = made.stickers;
      notes = made.rows.rise;
      maps = record { lists = λ name. rw (made.lists) refl; stickers = all_stickers };
      texts = copied_texts;
    }

pub copies_stickers : (s : State) (tally : Tally) (after : Database) → HasNoNotes s.now → Does s.step_limit (mode_of s) [] s.now (statement_of move_text (understood shelf_schema move_text)) None song_copying (Ok (tally, after)) → IsDatabase after → CopiesStickers s.now after
copies_stickers s tally after has h sound = all_copied s has after sound (copies s has tally after h)
