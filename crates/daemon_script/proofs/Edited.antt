-- What contents show once they are edited.
use Rattle.std.proofs.Common.{◌≡◌, ◌⊎◌, inl, inr, ℕ, true, false, cond, ◌&&◌, List, Option, Some, None, bytes_eq, refl, sym, ap, ◌∙◌, if◌then◌else◌}
use Rattle.std.specs.FinMap as finite
use Rattle.std.specs.FinMap.{FinMap, find, get-insert, get-remove}
use Rattle.std.specs.Map.{update}
use Rattle.std.proofs.lemmas.Bool.{cases_Bool}
use Rattle.std.proofs.lemmas.Slice.Eq.{bytes_eq-Decides}
use Rattle.shelf.specs.declared.kinds.StickerKind.{StickerKind}
use Rattle.shelf.specs.declared.kinds.StickerKind.TheVariants.{Song, Playlist}
use Rattle.shelf.specs.Maps.{Same, no_stickers, with_list, with_removed, with_renamed, with_sticker, with_stickers}
use Rattle.daemon_script.specs.Contents.{Contents, Stickers, by_bytes, maps_in, moved, put_in, stickers_for, stickers_of, with_stickers_for, without}
use Rattle.daemon_script.specs.Shelf.{removed, renamed, sticker_set}
use Rattle.daemon_script.proofs.Held.{or_else, or_none, others_kept, pair_ties, pair_total, text_ties, text_total, bytes_eq_sym, with_named-get}
use Rattle.daemon_script.proofs.Listed.{stickers_of-find}

put_list : (m : FinMap by_bytes (List (List ℕ))) (name other : List ℕ) (w : Option (List (List ℕ))) → finite.get (put_in m name w) other ≡ cond (bytes_eq name other) w (finite.get m other)
put_list m name other (Some uris) = get-insert text_total m name uris other ∙ ap (λ b. cond b (Some uris) (finite.get m other)) (text_ties other name ∙ bytes_eq_sym other name)
put_list m name other None = get-remove text_total m name other ∙ ap (λ b. cond b None (finite.get m other)) (text_ties other name ∙ bytes_eq_sym other name)

put_sticker : (m : Stickers) (target name other n : List ℕ) (w : Option (List ℕ))
    → finite.get (put_in m (target, name) w) (other, n) ≡ cond (bytes_eq other target && bytes_eq n name) w (finite.get m (other, n))
put_sticker m target name other n (Some value) = get-insert pair_total m (target, name) value (other, n) ∙ ap (λ b. cond b (Some value) (finite.get m (other, n))) (pair_ties other n (target, name))
put_sticker m target name other n None = get-remove pair_total m (target, name) (other, n) ∙ ap (λ b. cond b None (finite.get m (other, n))) (pair_ties other n (target, name))

-- the texts of a target in these stickers
abbrev named_in : Stickers → List ℕ → List ℕ → Option (List ℕ)
named_in m target n = finite.get m (target, n)

-- the stickers with other texts of one target
abbrev HasTexts : Stickers → List ℕ → (List ℕ → Option (List ℕ)) → Stickers → Type 0
HasTexts m target named changed = (other n : List ℕ) → finite.get changed (other, n) ≡ (if bytes_eq target other then named else named_in m other) n

-- contents with other texts of one target of a kind
changed_for : (c : Contents) (kind : StickerKind) (target : List ℕ) (named : List ℕ → Option (List ℕ)) (changed : Stickers) → HasTexts (stickers_for c kind) target named changed
    → Same (with_stickers (maps_in c) kind target named) (maps_in (with_stickers_for c kind changed))
changed_for c Song target named changed has = record { lists = λ other. refl; stickers = at }
  where
    at : (kind : StickerKind) (other n : List ℕ) → (maps_in (with_stickers_for c Song changed)).stickers kind other n ≡ (with_stickers (maps_in c) Song target named).stickers kind other n
    at Song other n = has other n
    at Playlist other n = refl
changed_for c Playlist target named changed has = record { lists = λ other. refl; stickers = at }
  where
    at : (kind : StickerKind) (other n : List ℕ) → (maps_in (with_stickers_for c Playlist changed)).stickers kind other n ≡ (with_stickers (maps_in c) Playlist target named).stickers kind other n
    at Song other n = refl
    at Playlist other n = has other n

put_has : (m : Stickers) (target name : List ℕ) (w : Option (List ℕ)) → HasTexts m target (update bytes_eq (named_in m target) name w) (put_in m (target, name) w)
put_has m target name w other n = put_sticker m target name other n w ∙ at (cases_Bool (bytes_eq target other))
  where
    at : (bytes_eq target other ≡ true) ⊎ (bytes_eq target other ≡ false)
        → cond (bytes_eq other target && bytes_eq n name) w (finite.get m (other, n))
        ≡ (if bytes_eq target other then update bytes_eq (named_in m target) name w else named_in m other) n
    at (inl is) =
        rw (bytes_eq_sym other target, is, bytes_eq_sym n name) (ap (λ u. cond (bytes_eq name n) w (finite.get m (u, n))) (sym ((bytes_eq-Decides target other).0 is)))
    at (inr apart) = rw (bytes_eq_sym other target, apart) refl

without_has : (m : Stickers) (target : List ℕ) → HasTexts m target no_stickers (without target m)
without_has m target other n = others_kept target other n m ∙ at (cases_Bool (bytes_eq target other))
  where
    at : (bytes_eq target other ≡ true) ⊎ (bytes_eq target other ≡ false)
        → (if bytes_eq target other then None else finite.get m (other, n)) ≡ (if bytes_eq target other then no_stickers else named_in m other) n
    at (inl is) = rw is refl
    at (inr apart) = rw apart refl

-- the texts of a target are another's
moved_has : (m : Stickers) (target new : List ℕ) → HasTexts (without target m) new (named_in m target) (moved target new m)
moved_has m target new other n =
    with_named-get new (stickers_of m target) (without new (without target m)) other n
    ∙ ap (λ b. if b then or_else (find by_bytes n (stickers_of m target)) (finite.get (without new (without target m)) (other, n)) else finite.get (without new (without target m)) (other, n)) (bytes_eq_sym other new)
    ∙ ap (λ found. if bytes_eq new other then or_else found (finite.get (without new (without target m)) (other, n)) else finite.get (without new (without target m)) (other, n)) (stickers_of-find m target n)
    ∙ ap (λ kept. if bytes_eq new other then or_else (named_in m target n) kept else kept) (others_kept new other n (without target m))
    ∙ at (cases_Bool (bytes_eq new other))
  where
    at : (bytes_eq new other ≡ true) ⊎ (bytes_eq new other ≡ false)
        → (if bytes_eq new other then or_else (named_in m target n) (if bytes_eq new other then None else finite.get (without target m) (other, n)) else (if bytes_eq new other then None else finite.get (without target m) (other, n)))
        ≡ (if bytes_eq new other then named_in m target else named_in (without target m) other) n
    at (inl is) = rw is (or_none (named_in m target n))
    at (inr apart) = rw apart refl

pub list_put : (c : Contents) (name : List ℕ) (w : Option (List (List ℕ))) → Same (with_list (maps_in c) name w) (maps_in (record c { lists = put_in c.lists name w }))
list_put c name w = record { lists = λ other. put_list c.lists name other w; stickers = at }
  where
    at : (kind : StickerKind) (other n : List ℕ) → (maps_in (record c { lists = put_in c.lists name w })).stickers kind other n ≡ (maps_in c).stickers kind other n
    at Song other n = refl
    at Playlist other n = refl

pub list_removed : (c : Contents) (name : List ℕ) → Same (with_removed (maps_in c) name) (maps_in (removed c name))
list_removed c name = record { lists = λ other. put_list c.lists name other None; stickers = at }
  where
    at : (kind : StickerKind) (other n : List ℕ) → (maps_in (removed c name)).stickers kind other n ≡ (with_removed (maps_in c) name).stickers kind other n
    at Song other n = refl
    at Playlist other n = without_has c.playlists name other n

pub list_renamed : (c : Contents) (name new : List ℕ) → Same (with_renamed (maps_in c) name new) (maps_in (renamed c name new))
list_renamed c name new = record {
  lists = λ other. put_list (put_in c.lists name None) new other (finite.get c.lists name) ∙ ap (cond (bytes_eq new other) (finite.get c.lists name)) (put_list c.lists name other None);
  stickers = at;
}
  where
    at : (kind : StickerKind) (other n : List ℕ) → (maps_in (renamed c name new)).stickers kind other n ≡ (with_renamed (maps_in c) name new).stickers kind other n
    at Song other n = refl
    at Playlist other n =
        moved_has c.playlists name new other n
        ∙ elim (bytes_eq new other) as (λ b. (if b then named_in c.playlists name else named_in (without name c.playlists) other) n ≡ (if b then named_in c.playlists name else (if bytes_eq name other then no_stickers else named_in c.playlists other)) n) [
          | true ↦ refl
          | false ↦ without_has c.playlists name other n
        ]

pub sticker_put : (c : Contents) (kind : StickerKind) (target name : List ℕ) (w : Option (List ℕ)) → Same (with_sticker (maps_in c) kind target name w) (maps_in (sticker_set c kind target name w))
sticker_put c kind target name w = changed_for c kind target _ _ (put_has (stickers_for c kind) target name w)

pub stickers_gone : (c : Contents) (kind : StickerKind) (target : List ℕ)
    → Same (with_stickers (maps_in c) kind target no_stickers) (maps_in (with_stickers_for c kind (without target (stickers_for c kind))))
stickers_gone c kind target = changed_for c kind target _ _ (without_has (stickers_for c kind) target)
