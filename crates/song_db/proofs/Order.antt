-- Byte order of songs, and the one list that is in it.
use Rattle.std.proofs.Common.{◌≡◌, ◌⊎◌, zero, suc, ◌<◌, true, false, List, [], ◌∷◌, length, get_or, refl, ap, sym, subst, ◌∙◌, inl, inr, arith}
use Rattle.std.specs.Prelude.{All, Contains}
use Rattle.std.specs.Ordering.{is_lt, is_eq, ordering_reverse}
use Rattle.std.specs.Cmp.{IsTotalOrder}
use Rattle.std.specs.Cmp.Lexicographic.{on_texts, texts_ties}
use Rattle.std.specs.declared.cmp.Ordering.{Ordering}
use Rattle.std.specs.declared.cmp.Ordering.TheVariants.{Less, Equal, Greater}
use Rattle.mpd_text.specs.Songs.Song.{SongData}
use Rattle.song_db.specs.Library.{by_uri, same_uri, InByteOrder}

pub order : IsTotalOrder by_uri
order = on_texts (λ (s : SongData). s.uri)

-- two URIs are one where they compare so
pub same-is : (a b : SongData) → same_uri a.uri b.uri ≡ is_eq (by_uri a b)
same-is a b = texts_ties a.uri b.uri

pub differ : (a b : SongData) → by_uri a b ≡ Less → same_uri a.uri b.uri ≡ false
differ a b less = same-is a b ∙ ap is_eq less

not_both : (o : Ordering) → o ≡ Less → Less ≡ ordering_reverse o → ⊥
not_both o less other = let e : true ≡ false = ap is_lt (other ∙ ap ordering_reverse less) in cc

pub one_way : (a b : SongData) → by_uri a b ≡ Less → by_uri b a ≡ Less → ⊥
one_way a b ab ba = not_both (by_uri b a) ba (sym ab ∙ order.antisymm a b)

-- a song that is not after another, and has another URI, is before it
pub before_from : (a b : SongData) → is_lt (by_uri b a) ≡ false → same_uri a.uri b.uri ≡ false → by_uri a b ≡ Less
before_from a b low other = turned (by_uri b a) (by_uri a b) (order.antisymm a b) low (sym (same-is a b) ∙ other)
  where
    turned : (o r : Ordering) → r ≡ ordering_reverse o → is_lt o ≡ false → is_eq r ≡ false → r ≡ Less
    turned Less r is l e = cc
    turned Equal r is l e = absurd (let same : true ≡ false = ap is_eq (sym is) ∙ e in cc)
    turned Greater r is l e = is

pub tail : (x : SongData) (xs : List SongData) → InByteOrder (x ∷ xs) → InByteOrder xs
tail x xs h i j d below within = h (suc i) (suc j) d (omega arith) (omega arith)

pub head : (x : SongData) (xs : List SongData) → InByteOrder (x ∷ xs) → All (λ y. by_uri x y ≡ Less) xs
head x xs h k d l = h 0 (suc k) d (omega arith) (omega arith)

pub cons : (x : SongData) (xs : List SongData) → All (λ y. by_uri x y ≡ Less) xs → InByteOrder xs → InByteOrder (x ∷ xs)
cons x xs first rest zero zero d below within = absurd (omega arith)
cons x xs first rest zero (suc j) d below within = first j d (omega arith)
cons x xs first rest (suc i) zero d below within = absurd (omega arith)
cons x xs first rest (suc i) (suc j) d below within = rest i j d (omega arith) (omega arith)

-- what the elements of a list are
member : (x : SongData) (y : SongData) (ys : List SongData) → Contains (y ∷ ys) x → (y ≡ x) ⊎ Contains ys x
member x y ys (zero, l, e) = inl e
member x y ys (suc k, l, e) = inr (k, (let low : suc k < length (y ∷ ys) = l in omega arith), e)

module _ (P : SongData → Type 0) where
  pub All-member : (x : SongData) (xs : List SongData) → All P xs → Contains xs x → P x
  All-member x xs all (k, l, e) = subst P e (all k x l)

  pub All-cons : (x : SongData) (xs : List SongData) → P x → All P xs → All P (x ∷ xs)
  All-cons x xs here rest zero d l = here
  All-cons x xs here rest (suc k) d l = rest k d (omega arith)

  pub All-tail : (x : SongData) (xs : List SongData) → All P (x ∷ xs) → All P xs
  All-tail x xs all k d l = all (suc k) d (omega arith)

-- two lists in byte order with the same elements are one
pub same_songs : (xs ys : List SongData) → InByteOrder xs → InByteOrder ys → All (Contains ys) xs → All (Contains xs) ys → xs ≡ ys
same_songs [] [] ox oy cx cy = refl
same_songs [] (y ∷ ys) ox oy cx cy = let none = cy 0 y (omega arith) in absurd (let l : none.0 < 0 = none.1 in omega arith)
same_songs (x ∷ xs) [] ox oy cx cy = let none = cx 0 x (omega arith) in absurd (let l : none.0 < 0 = none.1 in omega arith)
same_songs (x ∷ xs) (y ∷ ys) ox oy cx cy =
    let first : y ≡ x = elim (member x y ys (cx 0 x (omega arith))) [
      | inl e ↦ e
      | inr inside ↦ elim (member y x xs (cy 0 y (omega arith))) [
        | inl e ↦ sym e
        | inr within ↦ absurd (one_way y x (All-member (λ z. by_uri y z ≡ Less) x ys (head y ys oy) inside) (All-member (λ z. by_uri x z ≡ Less) y xs (head x xs ox) within))
      ]
    ] in
    λ i. sym first i ∷ same_songs xs ys (tail x xs ox) (tail y ys oy)
    (λ k d l. others x xs y ys first (head x xs ox) (get_or xs k d) (head x xs ox k d l) (cx (suc k) d (omega arith)))
    (λ k d l. others y ys x xs (sym first) (head y ys oy) (get_or ys k d) (head y ys oy k d l) (cy (suc k) d (omega arith))) i
  where
    others : (a : SongData) (rest : List SongData) (b : SongData) (bs : List SongData) → b ≡ a → All (λ z. by_uri a z ≡ Less) rest → (z : SongData) → by_uri a z ≡ Less → Contains (b ∷ bs) z → Contains bs z
    others a rest b bs same h z less inside = elim (member z b bs inside) [
      | inl e ↦ absurd (let own : by_uri a a ≡ Less = subst (λ w. by_uri a w ≡ Less) (sym e ∙ same) less in one_way a a own own)
      | inr within ↦ within
    ]
