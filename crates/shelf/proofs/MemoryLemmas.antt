-- What a change of one key does to the maps of a shelf in memory, and what a walk over all lists tells.
use Rattle.std.proofs.Common.{◌≡◌, ℕ, Bool, List, [], ◌∷◌, map, true, false, Option, Some, None, is_some, string_bytes, bytes_eq, refl, sym, ap, subst, ◌∙◌, arith, inl, inr, ◌⊎◌}
use Rattle.std.specs.Map.{update, lookup, keys_of}
use Rattle.std.specs.List.{list_any}
use Rattle.std.specs.List.Sorted.{IsStrictlySortedBy}
use Rattle.std.specs.Cmp.Lexicographic.{slice_cmp}
use Rattle.std.specs.Ordering.{nat_cmp}
use Rattle.std.specs.BTreeMap.{Updates, get_by_text, is_at}
use Rattle.std.specs.String.{string_cmp}
use Rattle.std.specs.declared.string.String.{String}
use Rattle.std.specs.declared.alloc.Global.{Global}
use Rattle.std.proofs.lemmas.Bool.{cases_Bool}
use Rattle.std.proofs.lemmas.Slice.Eq.{bytes_eq-Decides}
use Rattle.std.proofs.lemmas.Map.Text.{btree_map_updates_text, is_eq-slice_cmp}
use Rattle.shelf.specs.declared.kinds.StickerKind.{StickerKind}
use Rattle.shelf.specs.declared.kinds.StickerKind.TheVariants.{Song, Playlist}
use Rattle.shelf.specs.declared.stickers.Stickers.{Stickers}
use Rattle.shelf.specs.Maps.{Maps, Same, Changes, AreKeys, with_list, with_renamed, with_removed, with_stickers, no_stickers}
use Rattle.shelf.specs.Memory.{Lists, Shows, ChangesTexts, with_texts, moved as with_moved, texts_of, memory_of, memory_maps}
use Rattle.shelf.proofs.StickerLemmas.{UpdatesByText, sorted_texts}

-- the call is done, or nothing is changed
pub changes_done : (old new after : Maps) → Same after new → Changes (memory_of old) (memory_of new) true after
changes_done old new after same = record { clean = λ h. h; counts = omega arith; stays_open = λ h o. inl o; ours = λ h o. tt; done = λ h o. (refl, same); kept = λ h e. absurd (cc); stop = λ h m left. absurd left }

pub changes_kept : (old new after : Maps) → Same old new → Changes (memory_of old) (memory_of new) false after
changes_kept old new after same = record { clean = λ h. h; counts = omega arith; stays_open = λ h o. inl o; ours = λ h o. tt; done = λ h e. absurd (cc); kept = λ h e o. same; stop = λ h m left. absurd left }

pub lists_changed : (key : List ℕ) (old new : Lists) (w : Option (List (List ℕ))) → UpdatesByText key old new w
    → (other : List ℕ) → get_by_text new other ≡ update bytes_eq (get_by_text old) key w other
lists_changed key old new w h other = btree_map_updates_text key old new w h other

module _ (lists : Lists) (songs playlists : Stickers) where
  -- a call on one target of a kind, done or not
  pub song_changes : (is_done : Bool) (target : List ℕ) (named : List ℕ → Option (List ℕ)) (new : Stickers) → ChangesTexts songs new is_done (with_texts target named)
      → Changes (memory_of (memory_maps lists songs playlists)) (memory_of (memory_maps lists new playlists)) is_done (with_stickers (memory_maps lists songs playlists) Song target named)
  song_changes true target named new given = changes_done _ _ _ (record { lists = λ n. refl; stickers = at })
    where
      at : (k : StickerKind) (other name : List ℕ) → (memory_maps lists new playlists).stickers k other name ≡ (with_stickers (memory_maps lists songs playlists) Song target named).stickers k other name
      at Song other name = given other name
      at Playlist other name = refl
  song_changes false target named new given = changes_kept _ _ _ (record { lists = λ n. refl; stickers = at })
    where
      at : (k : StickerKind) (other name : List ℕ) → (memory_maps lists new playlists).stickers k other name ≡ (memory_maps lists songs playlists).stickers k other name
      at Song other name = given other name
      at Playlist other name = refl

  pub playlist_changes : (is_done : Bool) (target : List ℕ) (named : List ℕ → Option (List ℕ)) (new : Stickers) → ChangesTexts playlists new is_done (with_texts target named)
      → Changes (memory_of (memory_maps lists songs playlists)) (memory_of (memory_maps lists songs new)) is_done (with_stickers (memory_maps lists songs playlists) Playlist target named)
  playlist_changes true target named new given = changes_done _ _ _ (record { lists = λ n. refl; stickers = at })
    where
      at : (k : StickerKind) (other name : List ℕ) → (memory_maps lists songs new).stickers k other name ≡ (with_stickers (memory_maps lists songs playlists) Playlist target named).stickers k other name
      at Song other name = refl
      at Playlist other name = given other name
  playlist_changes false target named new given = changes_kept _ _ _ (record { lists = λ n. refl; stickers = at })
    where
      at : (k : StickerKind) (other name : List ℕ) → (memory_maps lists songs new).stickers k other name ≡ (memory_maps lists songs playlists).stickers k other name
      at Song other name = refl
      at Playlist other name = given other name

module _ (songs playlists : Stickers) where
  pub put_changes : (key : String Global) (name : List ℕ) (kept uris : List (List ℕ)) (old new : Lists) → Updates string_cmp old new key (Some kept)
      → string_bytes key ≡ name → kept ≡ uris
      → Changes (memory_of (memory_maps old songs playlists)) (memory_of (memory_maps new songs playlists)) true (with_list (memory_maps old songs playlists) name (Some uris))
  put_changes key name kept uris old new h named same =
      let change : UpdatesByText name old new (Some kept) = subst (λ bs. UpdatesByText bs old new (Some kept)) named h in
      changes_done _ _ _ (record {
        lists = λ other. lists_changed name old new (Some kept) change other ∙ ap (λ w. update bytes_eq (get_by_text old) name (Some w) other) same;
        stickers = λ kind target n. refl;
      })

  pub remove_changes : (name : List ℕ) (old new : Lists) (left : Stickers) → UpdatesByText name old new None → Shows left (with_texts name no_stickers (texts_of playlists))
      → Changes (memory_of (memory_maps old songs playlists)) (memory_of (memory_maps new songs left)) true (with_removed (memory_maps old songs playlists) name)
  remove_changes name old new left h given = changes_done _ _ _ (record { lists = lists_changed name old new None h; stickers = at })
    where
      at : (kind : StickerKind) (other n : List ℕ) → (memory_maps new songs left).stickers kind other n ≡ (with_removed (memory_maps old songs playlists) name).stickers kind other n
      at Song other n = refl
      at Playlist other n = given other n

  -- the list stands under both names, and then under the new one alone, or under the old one
  module _ (name new_name : List ℕ) (key : String Global) (copy : List (List ℕ)) (old mid new : Lists) (left : Stickers)
      (named : string_bytes key ≡ new_name) (put : Updates string_cmp old mid key (Some copy)) (free : get_by_text old new_name ≡ None) where
    first : (other : List ℕ) → get_by_text mid other ≡ update bytes_eq (get_by_text old) new_name (Some copy) other
    first other = lists_changed new_name old mid (Some copy) (subst (λ bs. UpdatesByText bs old mid (Some copy)) named put) other

    pub rename_changes : (uris : List (List ℕ)) → get_by_text old name ≡ Some uris → copy ≡ uris → UpdatesByText name mid new None → Shows left (with_moved name new_name (texts_of playlists))
        → Changes (memory_of (memory_maps old songs playlists)) (memory_of (memory_maps new songs left)) true (with_renamed (memory_maps old songs playlists) name new_name)
    rename_changes uris found same gone moves = changes_done _ _ _ (record { lists = λ other. moved other (cases_Bool (bytes_eq name other)) (cases_Bool (bytes_eq new_name other)); stickers = at })
      where
        was : get_by_text old name ≡ Some copy
        was = found ∙ ap (λ w. Some w) (sym same)

        moved : (other : List ℕ) → (bytes_eq name other ≡ true) ⊎ (bytes_eq name other ≡ false) → (bytes_eq new_name other ≡ true) ⊎ (bytes_eq new_name other ≡ false)
            → get_by_text new other ≡ update bytes_eq (update bytes_eq (get_by_text old) name None) new_name (get_by_text old name) other
        moved other (inl is) (inl also) =
            let one = (bytes_eq-Decides name other).0 is in
            let two = (bytes_eq-Decides new_name other).0 also in
            let both : Some uris ≡ None = sym found ∙ ap (λ bs. get_by_text old bs) (one ∙ sym two) ∙ free in
            absurd (cc)
        moved other (inl is) (inr apart) = rw (lists_changed name mid new None gone other, is, apart) refl
        moved other (inr apart) (inl is) = rw (lists_changed name mid new None gone other, apart, first other, is) (sym was)
        moved other (inr apart) (inr also) = rw (lists_changed name mid new None gone other, apart, first other, also) refl

        at : (kind : StickerKind) (other n : List ℕ) → (memory_maps new songs left).stickers kind other n ≡ (with_renamed (memory_maps old songs playlists) name new_name).stickers kind other n
        at Song other n = refl
        at Playlist other n = moves other n

    pub rename_kept : (after : Maps) → UpdatesByText new_name mid new None → Shows left (texts_of playlists)
        → Changes (memory_of (memory_maps old songs playlists)) (memory_of (memory_maps new songs left)) false after
    rename_kept after gone moves = changes_kept _ _ _ (record { lists = λ other. back other (cases_Bool (bytes_eq new_name other)); stickers = at })
      where
        back : (other : List ℕ) → (bytes_eq new_name other ≡ true) ⊎ (bytes_eq new_name other ≡ false) → get_by_text new other ≡ get_by_text old other
        back other (inl is) =
            let one = (bytes_eq-Decides new_name other).0 is in
            rw (lists_changed new_name mid new None gone other, is) (sym (subst (λ bs. get_by_text old bs ≡ None) one free))
        back other (inr apart) = rw (lists_changed new_name mid new None gone other, apart, first other, apart) refl

        at : (kind : StickerKind) (other n : List ℕ) → (memory_maps new songs left).stickers kind other n ≡ (memory_maps old songs playlists).stickers kind other n
        at Song other n = refl
        at Playlist other n = moves other n

-- ---- listings

keys_whole : {X : Type 0} (key : List ℕ) (es : List (String Global × X))
    → list_any (bytes_eq key) (map string_bytes (keys_of es)) ≡ is_some (lookup (is_at (λ k. slice_cmp nat_cmp key (string_bytes k))) es)
keys_whole key [] = refl
keys_whole key (e ∷ es) = rw is_eq-slice_cmp (elim (cases_Bool (bytes_eq key (string_bytes e.0))) [
  | inl is ↦ rw is refl
  | inr apart ↦ rw apart (keys_whole key es)
])

pub keys_listed : (lists : Lists) → IsStrictlySortedBy string_cmp (keys_of lists.entries) → AreKeys (get_by_text lists) (map string_bytes (keys_of lists.entries))
keys_listed lists rising = record {
  rising = sorted_texts (keys_of lists.entries) rising;
  whole = λ key. keys_whole key lists.entries;
}
