-- Two maps, where one list or one sticker is set.
use Rattle.std.proofs.Common.{◌≡◌, ◌≢◌, ◌∙◌, ◌⊎◌, inl, inr, ℕ, Bool, true, false, cond, ◌&&◌, List, Option, refl, sym, ap}
use Rattle.std.specs.Map.{update}
use Rattle.std.specs.Str.{bytes_eq}
use Rattle.std.proofs.lemmas.Slice.Eq.{bytes_eq-Decides}
use Rattle.shelf.specs.Maps.{Maps, same_kind, with_stickers}
use Rattle.shelf.specs.declared.kinds.StickerKind.{StickerKind}
use Rattle.shelf.specs.declared.kinds.StickerKind.TheVariants.{Song, Playlist}

pub itself : (text : List ℕ) → bytes_eq text text ≡ true
itself text = (bytes_eq-Decides text text).1 refl

pub apart : (a b : List ℕ) → (b ≢ a) → bytes_eq a b ≡ false
apart a b h =
    let goes : (t : Bool) → bytes_eq a b ≡ t → t ≡ false
    = λ t. elim t as (λ t. bytes_eq a b ≡ t → t ≡ false) [ true ↦ λ e. absurd (h (sym ((bytes_eq-Decides a b).0 e))) | false ↦ λ e. refl ] in
    goes (bytes_eq a b) refl

pub updated-here : {X : Type 0} (f : List ℕ → Option X) (name : List ℕ) (value : Option X) → update bytes_eq f name value name ≡ value
updated-here f name value = ap (λ b. cond b value (f name)) (itself name)

pub updated-other : {X : Type 0} (f : List ℕ → Option X) (name other : List ℕ) (value : Option X) → (other ≢ name) → update bytes_eq f name value other ≡ f other
updated-other f name other value h = ap (λ b. cond b value (f other)) (apart name other h)

pub same-kind : (kind : StickerKind) → same_kind kind kind ≡ true
same-kind Song = refl
same-kind Playlist = refl

pub other-kind : (kind other : StickerKind) → (other ≢ kind) → same_kind kind other ≡ false
other-kind Song Song h = absurd (h refl)
other-kind Song Playlist h = refl
other-kind Playlist Song h = refl
other-kind Playlist Playlist h = absurd (h refl)

one-kind : (kind other : StickerKind) → same_kind kind other ≡ true → kind ≡ other
one-kind Song Song e = refl
one-kind Song Playlist e = absurd (cc)
one-kind Playlist Song e = absurd (cc)
one-kind Playlist Playlist e = refl

-- the stickers of a target, where they are set
pub stickers-here : (m : Maps) (kind : StickerKind) (target : List ℕ) (named : List ℕ → Option (List ℕ)) (name : List ℕ) → (with_stickers m kind target named).stickers kind target name ≡ named name
stickers-here m kind target named name =
    ap (λ b. (cond (b && bytes_eq target target) named (m.stickers kind target)) name) (same-kind kind)
    ∙ ap (λ b. (cond b named (m.stickers kind target)) name) (itself target)

pub stickers-kind : (m : Maps) (kind other_kind : StickerKind) (target other : List ℕ) (named : List ℕ → Option (List ℕ)) (name : List ℕ) → (other_kind ≢ kind) → (with_stickers m kind target named).stickers other_kind other name ≡ m.stickers other_kind other name
stickers-kind m kind other_kind target other named name h =
    ap (λ b. (cond (b && bytes_eq target other) named (m.stickers other_kind other)) name) (other-kind kind other_kind h)

and-false : (b : Bool) → (b && false) ≡ false
and-false true = refl
and-false false = refl

pub stickers-target : (m : Maps) (kind other_kind : StickerKind) (target other : List ℕ) (named : List ℕ → Option (List ℕ)) (name : List ℕ) → (other ≢ target) → (with_stickers m kind target named).stickers other_kind other name ≡ m.stickers other_kind other name
stickers-target m kind other_kind target other named name h =
    ap (λ b. (cond (same_kind kind other_kind && b) named (m.stickers other_kind other)) name) (apart target other h)
    ∙ ap (λ b. (cond b named (m.stickers other_kind other)) name) (and-false (same_kind kind other_kind))

-- a sticker of another kind, target or name stays where one is set
abbrev pub IsOther : StickerKind → List ℕ → List ℕ → StickerKind → List ℕ → List ℕ → Type 0
IsOther kind target name other_kind other_target other = (other_kind ≢ kind) ⊎ ((other_target ≢ target) ⊎ (other ≢ name))

pub sticker-other : (m : Maps) (kind other_kind : StickerKind) (target other_target name other : List ℕ) (value : Option (List ℕ)) → IsOther kind target name other_kind other_target other
    → (with_stickers m kind target (update bytes_eq (m.stickers kind target) name value)).stickers other_kind other_target other ≡ m.stickers other_kind other_target other
sticker-other m kind other_kind target other_target name other value (inl h) = stickers-kind m kind other_kind target other_target (update bytes_eq (m.stickers kind target) name value) other h
sticker-other m kind other_kind target other_target name other value (inr (inl h)) = stickers-target m kind other_kind target other_target (update bytes_eq (m.stickers kind target) name value) other h
sticker-other m kind other_kind target other_target name other value (inr (inr h)) =
    let named : List ℕ → Option (List ℕ) = update bytes_eq (m.stickers kind target) name value in
    let goes : (k b : Bool) → same_kind kind other_kind ≡ k → bytes_eq target other_target ≡ b → (cond (k && b) named (m.stickers other_kind other_target)) other ≡ m.stickers other_kind other_target other
    = λ k b. elim k as (λ k. same_kind kind other_kind ≡ k → bytes_eq target other_target ≡ b → (cond (k && b) named (m.stickers other_kind other_target)) other ≡ m.stickers other_kind other_target other) [
      | true ↦ elim b as (λ b. same_kind kind other_kind ≡ true → bytes_eq target other_target ≡ b → (cond b named (m.stickers other_kind other_target)) other ≡ m.stickers other_kind other_target other) [
        | true ↦ λ e d. updated-other (m.stickers kind target) name other value h ∙ ap (λ t. m.stickers kind t other) ((bytes_eq-Decides target other_target).0 d) ∙ ap (λ k. m.stickers k other_target other) (one-kind kind other_kind e)
        | false ↦ λ e d. refl
      ]
      | false ↦ λ e d. refl
    ] in
    goes (same_kind kind other_kind) (bytes_eq target other_target) refl refl
