-- What the maps are once the stickers of a list are given to another name too, and once all is moved.
use Rattle.std.proofs.Common.{◌≡◌, inl, inr, ℕ, ℤ, List, [], ◌∷◌, filter, find, Bool, true, false, not, ◌&&◌, Some, None, Option, option_map, is_some, Ok, refl, sym, ap, subst, ◌∙◌, bytes_eq}
use Rattle.std.specs.Str.{IsUtf8}
use Rattle.std.proofs.lemmas.Bool.{cases_Bool, true≢false, not-true, and_parts, and_from}
use Rattle.std.proofs.lemmas.Slice.Eq.{bytes_eq-Decides}
use Rattle.sqlite.specs.declared.types.Value.TheVariants.{Int, Text}
use Rattle.sqlite.specs.Order.{Row, column, bytes}
use Rattle.sqlite.specs.Tree.{Trees}
use Rattle.sqlite.specs.Does.{Tally, Does}
use Rattle.sqlite.specs.Effect.{Database, IsDatabase}
use Rattle.sqlite.specs.State.{State, mode_of}
use Rattle.sqlite.specs.Listing.{understood}
use Rattle.sqlite.proofs.Callers.{statement_of}
use Rattle.sqlite_rules.specs.Lists.{Has}
use Rattle.sqlite_rules.proofs.ListLemmas.{has_filtered, has_found}
use Rattle.shelf.specs.declared.kinds.StickerKind.{StickerKind}
use Rattle.shelf.specs.declared.kinds.StickerKind.TheVariants.{Playlist}
use Rattle.shelf.specs.Maps.{Maps, Same, same_kind, with_stickers, with_renamed, no_stickers}
use Rattle.shelf_database.specs.Tables.{shelf_schema, kind_text, note_maps, has_text, has_key, of_target, AreRows, IsShelf, IsText, HaveTexts, HoldsTexts}
use Rattle.shelf_database.specs.Moves.{CopiesNotes, ClearsNotes, LacksNotes, HasNames, RenamesRow, RenamesAll, KeepsASticker, with_moved_list}
use Rattle.shelf_database.specs.Faults.{CannotCopy, KeepsItsSticker}
use Rattle.shelf_database.proofs.AnyRowLemmas.{some_passes}
use Rattle.shelf_database.proofs.CopyLemmas.{HasCopies, copies, copying}
use Rattle.shelf_database.proofs.DeleteLemmas.{filtered_has}
use Rattle.shelf_database.proofs.FindLemmas.{find_none}
use Rattle.shelf_database.proofs.HoldsLemmas.{text_there, four_texts}
use Rattle.shelf_database.proofs.OnceLemmas.{Once, once_note, itself_equal}
use Rattle.shelf_database.proofs.PutNoteLemmas.{kind_utf8}
use Rattle.shelf_database.proofs.RenameEdit.{none_found}
use Rattle.shelf_database.proofs.Statements.{copy_text}
use Rattle.shelf_database.proofs.StepLemmas.{carries_then}
use Rattle.shelf_database.proofs.TextLemmas.{bytes_flip, same_bytes, kinds_told, same_kinds, kind_is}

-- a row that is there and passes is found, where no other passes
pub find_is : (p : Row → Bool) (rows : List Row) (x : Row) → Has rows x → p x ≡ true → Once p rows → find p rows ≡ Some x
find_is p rows x h is once = go (find p rows) refl
  where
    go : (o : Option Row) → find p rows ≡ o → find p rows ≡ Some x
    go (Some y) e = let it = has_found p rows y e in e ∙ ap Some (once y x it.0 h it.1 is)
    go None e = absurd (true≢false (sym (some_passes p rows x h is) ∙ ap is_some e))

pub never_found : (p : Row → Bool) (rows : List Row) → ((x : Row) → Has rows x → p x ≡ true → ⊥) → find p rows ≡ None
never_found p rows never = find_none p rows (λ x h. elim (cases_Bool (p x)) [ inl is ↦ absurd (never x h is) | inr other ↦ other ])

module _ (s : State) (name other : List ℕ) (lacks : LacksNotes other s.now) (after : Database) (sound : IsDatabase after) (made : HasCopies s name other lacks after) where
  abbrev db : Trees
  db = s.now.trees

  abbrev copy_of : ℤ → Row → Row
  copy_of id r = Int id ∷ Text (kind_text Playlist) ∷ Text other ∷ column r 3 ∷ column r 4 ∷ []

  shelf_after : IsShelf after
  shelf_after = record { schema = made.schema; sound = sound; lists = subst AreRows (sym made.lists) lacks.shelf.lists; notes = made.rows.rise }

  -- a copy has the key of its row at the other name
  copy_key : (k : StickerKind) (t n : List ℕ) (id : ℤ) (r : Row) → has_key k t n (copy_of id r) ≡ true → ((same_kind Playlist k && bytes_eq other t) ≡ true) × (has_text 3 n r ≡ true)
  copy_key k t n id r h =
      let first = and_parts _ _ h in
      let second = and_parts _ _ first.1 in
      let kinds : same_kind Playlist k ≡ true = same_kinds Playlist k ∙ sym (kinds_told Playlist k) ∙ sym (same_bytes (kind_text Playlist) (kind_text k)) ∙ first.0 in
      let targets : bytes_eq other t ≡ true = sym (same_bytes other t) ∙ second.0 in
      (and_from _ _ kinds targets, second.1)

  has_copy_key : (n : List ℕ) (id : ℤ) (r : Row) → has_text 3 n r ≡ true → has_key Playlist other n (copy_of id r) ≡ true
  has_copy_key n id r named = and_from _ _ (itself_equal (kind_text Playlist)) (and_from _ _ (itself_equal other) named)

  of_list : (n : List ℕ) (r : Row) → has_key Playlist name n r ≡ true → (of_target Playlist name r ≡ true) × (has_text 3 n r ≡ true)
  of_list n r h =
      let first = and_parts (has_text 1 (kind_text Playlist) r) (has_text 2 name r && has_text 3 n r) h in
      let second = and_parts (has_text 2 name r) (has_text 3 n r) first.1 in
      (and_from _ _ first.0 second.0, second.1)

  key_of_list : (n : List ℕ) (r : Row) → of_target Playlist name r ≡ true → has_text 3 n r ≡ true → has_key Playlist name n r ≡ true
  key_of_list n r h named = let both = and_parts (has_text 1 (kind_text Playlist) r) (has_text 2 name r) h in and_from _ _ both.0 (and_from _ _ both.1 named)

  target_of : (k : StickerKind) (t n : List ℕ) (r : Row) → has_key k t n r ≡ true → of_target k t r ≡ true
  target_of k t n r h =
      let first = and_parts (has_text 1 (kind_text k) r) (has_text 2 t r && has_text 3 n r) h in
      and_from _ _ first.0 (and_parts (has_text 2 t r) (has_text 3 n r) first.1).0

  here : (n : List ℕ) → (note_maps after.trees).stickers Playlist other n ≡ (note_maps db).stickers Playlist name n
  here n = go (find (has_key Playlist name n) (db 5)) refl
    where
      go : (o : Option Row) → find (has_key Playlist name n) (db 5) ≡ o → (note_maps after.trees).stickers Playlist other n ≡ option_map (λ row. bytes (column row 4)) o
      go (Some r) e =
          let it = has_found (has_key Playlist name n) (db 5) r e in
          let of = of_list n r it.1 in
          let among = filtered_has (of_target Playlist name) (db 5) r it.0 of.0 in
          let there = made.rows.adds r (made.whole r among) among in
          ap (option_map (λ row. bytes (column row 4))) (find_is (has_key Playlist other n) (after.trees 5) (copy_of there.0 r) there.1 (has_copy_key n there.0 r of.1) (once_note Playlist other n after shelf_after))
      go None e = ap (option_map (λ row. bytes (column row 4))) (never_found (has_key Playlist other n) (after.trees 5) (λ x h is. elim (made.rows.from x h) [
        | inl was ↦ true≢false (sym (target_of Playlist other n x is) ∙ lacks.none x was)
        | inr copy ↦
            let r = has_filtered (of_target Playlist name) (db 5) copy.0 copy.2 in
            let named = (copy_key Playlist other n copy.3 copy.0 (subst (λ y. has_key Playlist other n y ≡ true) copy.4 is)).1 in
            none_found (has_key Playlist name n) (db 5) copy.0 e r.0 (key_of_list n copy.0 r.1 named)
      ]))

  elsewhere : (k : StickerKind) (t n : List ℕ) → (same_kind Playlist k && bytes_eq other t) ≡ false → (note_maps after.trees).stickers k t n ≡ (note_maps db).stickers k t n
  elsewhere k t n apart = go (find (has_key k t n) (db 5)) refl
    where
      go : (o : Option Row) → find (has_key k t n) (db 5) ≡ o → (note_maps after.trees).stickers k t n ≡ option_map (λ row. bytes (column row 4)) o
      go (Some r) e =
          let it = has_found (has_key k t n) (db 5) r e in
          ap (option_map (λ row. bytes (column row 4))) (find_is (has_key k t n) (after.trees 5) r (made.rows.keeps r it.0) it.1 (once_note k t n after shelf_after))
      go None e = ap (option_map (λ row. bytes (column row 4))) (never_found (has_key k t n) (after.trees 5) (λ x h is. elim (made.rows.from x h) [
        | inl was ↦ none_found (has_key k t n) (db 5) x e was is
        | inr copy ↦ true≢false (sym (copy_key k t n copy.3 copy.0 (subst (λ y. has_key k t n y ≡ true) copy.4 is)).0 ∙ apart)
      ]))

  copied_maps : Same (with_stickers (note_maps db) Playlist other ((note_maps db).stickers Playlist name)) (note_maps after.trees)
  copied_maps = record {
    lists = λ n. rw (made.lists) refl;
    stickers = λ k t n. elim (cases_Bool (same_kind Playlist k && bytes_eq other t)) [
      | inr apart ↦ rw apart (elsewhere k t n apart)
      | inl is ↦
          let both = and_parts _ _ is in
          let same : (note_maps after.trees).stickers k t n ≡ (note_maps after.trees).stickers Playlist other n =
          ap (λ x. (note_maps after.trees).stickers x t n) (sym (kind_is Playlist k both.0)) ∙ ap (λ x. (note_maps after.trees).stickers Playlist x n) (sym ((bytes_eq-Decides other t).0 both.1)) in
          rw is (same ∙ here n)
    ];
  }

  copied_texts : IsUtf8 other → HoldsTexts db → HoldsTexts after.trees
  copied_texts utf8 texts = record {
    lists = subst (λ rows. HaveTexts (1 ∷ 2 ∷ []) rows) (sym made.lists) texts.lists;
    notes = λ x h at is. elim (made.rows.from x h) [
      | inl was ↦ texts.notes x was at is
      | inr copy ↦
          let r = (has_filtered (of_target Playlist name) (db 5) copy.0 copy.2).0 in
          subst (λ (y : Row). IsText (column y at)) (sym copy.4) (four_texts (Int copy.3) (Text (kind_text Playlist)) (Text other) (column copy.0 3) (column copy.0 4) (text_there (kind_text Playlist) (kind_utf8 Playlist)) (text_there other utf8)
          (texts.notes copy.0 r 3 (inr (inr (inl refl)))) (texts.notes copy.0 r 4 (inr (inr (inr (inl refl))))) at is)
    ];
  }

pub copies_notes : (s : State) (name other : List ℕ) → IsUtf8 other → (lacks : LacksNotes other s.now) (tally : Tally) (after : Database)
    → Does s.step_limit (mode_of s) (Text (kind_text Playlist) ∷ Text name ∷ Text other ∷ []) s.now (statement_of copy_text (understood shelf_schema copy_text)) None copying (Ok (tally, after)) → IsDatabase after → CopiesNotes name other s.now after
copies_notes s name other utf8 lacks tally after h sound =
    let made = copies s name other lacks tally after h in
    record { shelf = shelf_after s name other lacks after sound made; maps = copied_maps s name other lacks after sound made; profile = made.profile; texts = copied_texts s name other lacks after sound made utf8 }

-- ---- the four statements of a rename

-- the stickers of the one name went to the other
moved_stickers : (m : Maps) (name other : List ℕ) → bytes_eq name other ≡ false → (k : StickerKind) (t : List ℕ)
    → (with_stickers (with_stickers (with_stickers (with_moved_list m name other) Playlist other no_stickers) Playlist other ((with_stickers (with_moved_list m name other) Playlist other no_stickers).stickers Playlist name)) Playlist name no_stickers).stickers k t
    ≡ (with_renamed m name other).stickers k t
moved_stickers m name other apart k t = elim (cases_Bool (same_kind Playlist k && bytes_eq name t)) [
  | inl is ↦
      let both = and_parts (same_kind Playlist k) (bytes_eq name t) is in
      let there : bytes_eq other t ≡ false = subst (λ x. bytes_eq other x ≡ false) ((bytes_eq-Decides name t).0 both.1) (bytes_flip other name ∙ apart) in
      rw (is, both.0, there) refl
  | inr other_name ↦ elim (cases_Bool (same_kind Playlist k && bytes_eq other t)) [
    | inl is ↦ rw (other_name, is, bytes_flip other name ∙ apart) refl
    | inr neither ↦ rw (other_name, neither) refl
  ]
]

names_differ : (m : Maps) (name other : List ℕ) → is_some (m.lists name) ≡ true → is_some (m.lists other) ≡ false → bytes_eq name other ≡ false
names_differ m name other there free = elim (cases_Bool (bytes_eq name other)) [
  | inl is ↦ absurd (true≢false (sym there ∙ ap (λ x. is_some (m.lists x)) ((bytes_eq-Decides name other).0 is) ∙ free))
  | inr apart ↦ apart
]

pub renames_all : (name other : List ℕ) (was one two three db : Database) → HasNames name other was → RenamesRow name other was one → ClearsNotes other one two → CopiesNotes name other two three → ClearsNotes name three db → RenamesAll name other was db
renames_all name other was one two three db has first second third fourth =
    let step = carries_then (λ m. with_moved_list m name other) (λ m. with_stickers m Playlist other no_stickers) was one two first.carries second.carries in
    let more = carries_then (λ m. with_stickers (with_moved_list m name other) Playlist other no_stickers) (λ m. with_stickers m Playlist other (m.stickers Playlist name)) was two three step third in
    let all = carries_then (λ m. with_stickers (with_stickers (with_moved_list m name other) Playlist other no_stickers) Playlist other ((with_stickers (with_moved_list m name other) Playlist other no_stickers).stickers Playlist name))
    (λ m. with_stickers m Playlist name no_stickers) was three db more fourth.carries in
    let apart = names_differ (note_maps was.trees) name other has.there has.free in
    record {
      shelf = all.shelf;
      maps = record { lists = all.maps.lists; stickers = λ k t n. all.maps.stickers k t n ∙ ap (λ f. f n) (moved_stickers (note_maps was.trees) name other apart k t) };
      profile = all.profile;
      texts = all.texts;
    }

-- after the stickers of a name are gone it has none
pub none_left : (name : List ℕ) (was db : Database) → ClearsNotes name was db → LacksNotes name db
none_left name was db clears = record {
  shelf = clears.carries.shelf;
  none = λ row h. not-true _ (has_filtered (λ r. not (of_target Playlist name r)) (was.trees 5) row (subst (λ rows. Has rows row) clears.notes h)).1;
}

-- a sticker that is not stored under the other name was one from the first
pub sticker_kept : (name other : List ℕ) (was one two : Database) → RenamesRow name other was one → ClearsNotes other one two → KeepsASticker name other two → KeepsItsSticker was.trees name other
sticker_kept name other was one two renamed cleared why = subst (λ rows. CannotCopy rows name other) (cleared.notes ∙ ap (filter (λ r. not (of_target Playlist other r))) renamed.notes) why
