-- Filters side by side, and folders.
use Rattle.std.proofs.Common.{◌≡◌, ◌≢◌, ◌<◌, ◌≤◌, ◌+◌, ℕ, get_or, drop, List, length, [], ◌∷◌, ◌++◌, Bool, true, false, IsTrue, refl, subst, sym, ap, ◌∙◌}
use Rattle.std.specs.Prelude.{◌↔◌}
use Rattle.std.proofs.lemmas.List.{drop_more, drop_all}
use Rattle.mpd_text.specs.Songs.Song.{SongData}
use Rattle.filters.specs.declared.matching.Case.{Case}
use Rattle.filters.specs.Expressions.{Expression, Both, all_of}
use Rattle.filters.specs.Truth.{Holds, IsUnder}

pub refuted : (P : Type 0) → (P → ⊥) → IsTrue false ↔ P
refuted P never = ((λ e. cc), (λ h. absurd (never h)))

pub shown : (P : Type 0) → P → IsTrue true ↔ P
shown P h = ((λ _. h), (λ _. refl))

-- each of these filters holds
abbrev pub HoldAll : Case → List Expression → SongData → Type 0
HoldAll case [] song = Unit {0}
HoldAll case (e ∷ es) song = Holds case e song × HoldAll case es song

pub joined_hold : (case : Case) (e : Expression) (es : List Expression) (song : SongData) → Holds case e song → HoldAll case es song → Holds case (all_of e es) song
joined_hold case e [] song h all = h
joined_hold case e (f ∷ fs) song h all = joined_hold case (Both e f) fs song (h, all.0) all.1

pub hold_joined : (case : Case) (e : Expression) (es : List Expression) (song : SongData) → Holds case (all_of e es) song → Holds case e song × HoldAll case es song
hold_joined case e [] song h = (h, tt)
hold_joined case e (f ∷ fs) song h = let both = hold_joined case (Both e f) fs song h in (both.0.0, (both.0.1, both.1))

-- the first two, and those beside them
pub one_refuted : (case : Case) (one two : Expression) (more : List Expression) (song : SongData) → (Holds case one song → ⊥) → IsTrue false ↔ Holds case (all_of (Both one two) more) song
one_refuted case one two more song never = refuted (Holds case (all_of (Both one two) more) song) (λ h. never (hold_joined case (Both one two) more song h).0.0)

pub two_refuted : (case : Case) (one two : Expression) (more : List Expression) (song : SongData) → (Holds case two song → ⊥) → IsTrue false ↔ Holds case (all_of (Both one two) more) song
two_refuted case one two more song never = refuted (Holds case (all_of (Both one two) more) song) (λ h. never (hold_joined case (Both one two) more song h).0.1)

pub more_refuted : (case : Case) (one two : Expression) (more : List Expression) (song : SongData) (i : ℕ) (e : Expression) → i < length more → e ≡ get_or more i e
    → (HoldAll case more song ↔ HoldAll case (drop i more) song) → (Holds case e song → ⊥) → IsTrue false ↔ Holds case (all_of (Both one two) more) song
more_refuted case one two more song i e inside at rest never =
    refuted (Holds case (all_of (Both one two) more) song) (λ h.
    let all : HoldAll case (drop i more) song = rest.0 (hold_joined case (Both one two) more song h).1 in
    let here : HoldAll case (get_or more i e ∷ drop (i + 1) more) song = subst (λ (es : List Expression). HoldAll case es song) (drop_more more i e inside) all in
    never (subst (λ (f : Expression). Holds case f song) (sym at) here.0))

pub all_shown : (case : Case) (one two : Expression) (more : List Expression) (song : SongData) (i : ℕ) → length more ≤ i → Holds case one song → Holds case two song
    → (HoldAll case more song ↔ HoldAll case (drop i more) song) → IsTrue true ↔ Holds case (all_of (Both one two) more) song
all_shown case one two more song i whole h k rest =
    shown (Holds case (all_of (Both one two) more) song) (joined_hold case (Both one two) more song (h, k) (rest.1 (subst (λ (es : List Expression). HoldAll case es song) (sym (drop_all i more whole)) tt)))

-- a folder that is not empty
pub under_none : (folder uri : List ℕ) → (length folder ≢ 0) → ((rest : List ℕ) → uri ≢ folder ++ rest) → IsTrue false ↔ IsUnder folder uri
under_none [] uri some none = absurd (some refl)
under_none (b ∷ bs) uri some none = refuted (IsUnder (b ∷ bs) uri) (λ h. none (47 ∷ h.0) h.1)

tail : List ℕ → List ℕ
tail [] = []
tail (x ∷ xs) = xs

append_same : (xs ys zs : List ℕ) → xs ++ ys ≡ xs ++ zs → ys ≡ zs
unfolding tail
append_same [] ys zs e = e
append_same (x ∷ xs) ys zs e = append_same xs ys zs (ap tail e)

pub under_some : (folder uri rest : List ℕ) (slash : Bool) → (length folder ≢ 0) → uri ≡ folder ++ rest → (IsTrue slash ↔ ((more : List ℕ) × (rest ≡ 47 ∷ more))) → IsTrue slash ↔ IsUnder folder uri
under_some [] uri rest slash some e h = absurd (some refl)
under_some (b ∷ bs) uri rest slash some e h =
    ((λ y. ((h.0 y).0, e ∙ ap (λ (t : List ℕ). b ∷ (bs ++ t)) (h.0 y).1)), (λ u. h.1 (u.0, append_same (b ∷ bs) rest (47 ∷ u.0) (sym e ∙ u.1))))
