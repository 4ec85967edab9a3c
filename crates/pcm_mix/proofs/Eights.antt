-- Eight lanes at once, and eight frames of a list written at once.
use Rattle.std.proofs.Common.{◌≡◌, ℕ, zero, suc, ◌+◌, ◌-◌, ◌<◌, ◌≤◌, List, [], ◌∷◌, length, map, set, get_or, refl, ap, sym, ◌∙◌, inl, inr, arith}
use Rattle.std.proofs.lemmas.Bool.{cases_lt}
use Rattle.std.proofs.lemmas.List.{get_or-set_other}
use Rattle.std.proofs.lemmas.List.Edits.{fill_by_more}
use Rattle.std.proofs.lemmas.List.FromFn.{get_or-map-range_with_len}
use Rattle.std.specs.List.{range_with_len}
use Rattle.std.proofs.lemmas.Simd.{get_or-put_chunk_below, get_or-put_chunk_at, get_or-put_chunk_above}
use Rattle.std.specs.Simd.Lanes.{put_chunk}

-- what holds of each list of eight elements
pub eight_lanes : {X : Type 0} (P : List X → Type 0) → ((a b c d e f g h : X) → P (a ∷ b ∷ c ∷ d ∷ e ∷ f ∷ g ∷ h ∷ [])) → (xs : List X) → length xs ≡ 8 → P xs
eight_lanes P p (a ∷ b ∷ c ∷ d ∷ e ∷ f ∷ g ∷ h ∷ []) is = p a b c d e f g h
eight_lanes P p [] is = absurd (omega arith)
eight_lanes P p (a ∷ []) is = absurd (omega arith)
eight_lanes P p (a ∷ b ∷ []) is = absurd (omega arith)
eight_lanes P p (a ∷ b ∷ c ∷ []) is = absurd (omega arith)
eight_lanes P p (a ∷ b ∷ c ∷ d ∷ []) is = absurd (omega arith)
eight_lanes P p (a ∷ b ∷ c ∷ d ∷ e ∷ []) is = absurd (omega arith)
eight_lanes P p (a ∷ b ∷ c ∷ d ∷ e ∷ f ∷ []) is = absurd (omega arith)
eight_lanes P p (a ∷ b ∷ c ∷ d ∷ e ∷ f ∷ g ∷ []) is = absurd (omega arith)
eight_lanes P p (a ∷ b ∷ c ∷ d ∷ e ∷ f ∷ g ∷ h ∷ i ∷ xs) is = absurd (omega arith)

put_one : {X : Type 0} (i n : ℕ) (xs ys : List X) (y : X) → i + 1 ≡ n → put_chunk n (set xs i y) ys ≡ put_chunk i xs (y ∷ ys)
put_one i n [] ys y is = refl
put_one zero n (x ∷ xs) ys y is = rw (sym is) refl
put_one (suc i) zero (x ∷ xs) ys y is = absurd (omega arith)
put_one (suc i) (suc n) (x ∷ xs) ys y is = ap (λ zs. x ∷ zs) (put_one i n xs ys y (omega arith))

put_none : {X : Type 0} (i : ℕ) (xs : List X) → put_chunk i xs [] ≡ xs
put_none i [] = refl
put_none zero (x ∷ xs) = refl
put_none (suc i) (x ∷ xs) = ap (λ zs. x ∷ zs) (put_none i xs)

-- eight writes, one after another
pub eight_written : {X : Type 0} (xs ys : List X) (i : ℕ) (x : X) → length ys ≡ 8
    → set (set (set (set (set (set (set (set xs i (get_or ys 0 x)) (i + 1) (get_or ys 1 x)) (i + 2) (get_or ys 2 x)) (i + 3) (get_or ys 3 x)) (i + 4) (get_or ys 4 x)) (i + 5) (get_or ys 5 x)) (i + 6) (get_or ys 6 x)) (i + 7) (get_or ys 7 x)
    ≡ put_chunk i xs ys
eight_written {X} xs ys i x long =
    eight_lanes (λ (zs : List X). set (set (set (set (set (set (set (set xs i (get_or zs 0 x)) (i + 1) (get_or zs 1 x)) (i + 2) (get_or zs 2 x)) (i + 3) (get_or zs 3 x)) (i + 4) (get_or zs 4 x)) (i + 5) (get_or zs 5 x)) (i + 6) (get_or zs 6 x)) (i + 7) (get_or zs 7 x) ≡ put_chunk i xs zs)
    (λ a b c d e f g h.
    sym (put_none (i + 8) _)
    ∙ put_one (i + 7) (i + 8) _ _ h (omega arith)
    ∙ put_one (i + 6) (i + 7) _ _ g (omega arith)
    ∙ put_one (i + 5) (i + 6) _ _ f (omega arith)
    ∙ put_one (i + 4) (i + 5) _ _ e (omega arith)
    ∙ put_one (i + 3) (i + 4) _ _ d (omega arith)
    ∙ put_one (i + 2) (i + 3) _ _ c (omega arith)
    ∙ put_one (i + 1) (i + 2) _ _ b (omega arith)
    ∙ put_one i (i + 1) _ _ a refl) ys long

-- up to an offset the elements are those that a function of the offset gives
abbrev pub Filled : {X : Type 0} → (ℕ → List X) → ℕ → List (List X) → Type 0
Filled f n xs = (k : ℕ) → k < n → get_or xs k [] ≡ f k

-- from an offset on they are what they were
abbrev pub Kept : {X : Type 0} → List (List X) → ℕ → List (List X) → Type 0
Kept old n xs = (k : ℕ) → n ≤ k → get_or xs k [] ≡ get_or old k []

pub eight_filled : {X : Type 0} (f : ℕ → List X) (xs ys : List (List X)) (i n : ℕ) → i + 8 ≡ n → n ≤ length xs → length ys ≡ 8
    → ((j : ℕ) → j < 8 → get_or ys j [] ≡ f (i + j)) → Filled f i xs → Filled f n (put_chunk i xs ys)
eight_filled f xs ys i n next le long is filled k less = elim (cases_lt k i) [
  | inl l ↦ get_or-put_chunk_below i xs ys k [] l ∙ filled k l
  | inr g ↦ let e : i + (k - i) ≡ k = omega arith in
      ap (λ (m : ℕ). get_or (put_chunk i xs ys) m []) (sym e) ∙ get_or-put_chunk_at i xs ys (k - i) [] (omega arith) (omega arith) ∙ is (k - i) (omega arith) ∙ ap f e
]

pub eight_kept : {X : Type 0} (old xs ys : List (List X)) (i n : ℕ) → i + 8 ≡ n → length ys ≡ 8 → Kept old i xs → Kept old n (put_chunk i xs ys)
eight_kept old xs ys i n next long kept k le = get_or-put_chunk_above i xs ys k [] (omega arith) ∙ kept k (omega arith)

pub one_filled : {X : Type 0} (f : ℕ → List X) (xs : List (List X)) (y : List X) (i n : ℕ) → i + 1 ≡ n → n ≤ length xs → y ≡ f i → Filled f i xs → Filled f n (set xs i y)
one_filled f xs y i n next le is filled k less = rw is (fill_by_more f xs i [] (omega arith) filled k (omega arith))

pub one_kept : {X : Type 0} (old xs : List (List X)) (y : List X) (i n : ℕ) → i + 1 ≡ n → Kept old i xs → Kept old n (set xs i y)
one_kept old xs y i n next kept k le = get_or-set_other xs i k y [] (λ e. omega (arith, e)) ∙ kept k (omega arith)

-- one of a list that a function of the offset gives
pub ranged : {X : Type 0} (f : ℕ → List X) (xs : List (List X)) (n j : ℕ) → j < n → xs ≡ map f (range_with_len 0 n) → get_or xs j [] ≡ f j
ranged f xs n j less is = ap (λ ys. get_or ys j []) is ∙ get_or-map-range_with_len f 0 n j j [] less (omega arith)

pub eight_are : {X : Type 0} (xs : List X) (x : X) → length xs ≡ 8
    → xs ≡ get_or xs 0 x ∷ get_or xs 1 x ∷ get_or xs 2 x ∷ get_or xs 3 x ∷ get_or xs 4 x ∷ get_or xs 5 x ∷ get_or xs 6 x ∷ get_or xs 7 x ∷ []
eight_are {X} xs x =
    eight_lanes (λ (ys : List X). ys ≡ get_or ys 0 x ∷ get_or ys 1 x ∷ get_or ys 2 x ∷ get_or ys 3 x ∷ get_or ys 4 x ∷ get_or ys 5 x ∷ get_or ys 6 x ∷ get_or ys 7 x ∷ []) (λ a b c d e f g h. refl) xs

pub two_are : {X : Type 0} (xs : List X) (x : X) → length xs ≡ 2 → xs ≡ get_or xs 0 x ∷ get_or xs 1 x ∷ []
two_are (a ∷ b ∷ []) x is = refl
two_are [] x is = absurd (omega arith)
two_are (a ∷ []) x is = absurd (omega arith)
two_are (a ∷ b ∷ c ∷ xs) x is = absurd (omega arith)
