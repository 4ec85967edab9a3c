-- One element after the other of a list goes a step.
use Rattle.std.proofs.Common.{◌≡◌, ℕ, zero, suc, ◌+◌, ◌<◌, ◌≤◌, List, [], ◌∷◌, length, get_or, set, All, refl, sym, subst, arith}
use Rattle.crew_steps.specs.Each.{EachAt}

-- below an index each pair has gone a step, and from it on none has
abbrev pub SoFar : {A : Type 0} → (ℕ → A → A → Type 0) → ℕ → ℕ → A → A → Type 0
SoFar R i n x y = (n < i → R n x y) × (i ≤ n → y ≡ x)

pub so_far_none : {A : Type 0} (R : ℕ → A → A → Type 0) (n : ℕ) (xs : List A) → EachAt (SoFar R 0) n xs xs
so_far_none R n [] = tt
so_far_none R n (x ∷ xs) = ((λ low. absurd (omega (arith, low)), λ h. refl), so_far_none R (n + 1) xs)

later : {A : Type 0} (R : ℕ → A → A → Type 0) (i n : ℕ) (xs ys : List A) → i < n → EachAt (SoFar R i) n xs ys → EachAt (SoFar R (i + 1)) n xs ys
later R i n [] [] low e = tt
later R i n [] (y ∷ ys) low e = absurd e
later R i n (x ∷ xs) [] low e = absurd e
later R i n (x ∷ xs) (y ∷ ys) low e = ((λ h. absurd (omega (arith, low, h)), λ h. e.0.1 (omega (arith, low))), later R i (n + 1) xs ys (omega (arith, low)) e.1)

pub so_far_next : {A : Type 0} (R : ℕ → A → A → Type 0) (i n k : ℕ) (xs ys : List A) (d y : A) → i ≡ n + k → k < length ys → ((x : A) → x ≡ get_or ys k d → R i x y) → EachAt (SoFar R i) n xs ys → EachAt (SoFar R (i + 1)) n xs (set ys k y)
so_far_next R i n k [] [] d y is low r e = absurd (omega (arith, low))
so_far_next R i n k [] (b ∷ ys) d y is low r e = absurd e
so_far_next R i n k (a ∷ xs) [] d y is low r e = absurd e
so_far_next R i n zero (a ∷ xs) (b ∷ ys) d y is low r e =
    let here : n ≡ i = omega (arith, is) in
    ((λ h. subst (λ m. R m a y) (sym here) (r a (sym (e.0.1 (omega (arith, here))))), λ h. absurd (omega (arith, here, h))), later R i (n + 1) xs ys (omega (arith, here)) e.1)
so_far_next R i n (suc k) (a ∷ xs) (b ∷ ys) d y is low r e =
    ((λ h. e.0.0 (omega (arith, is)), λ h. absurd (omega (arith, is, h))), so_far_next R i (n + 1) k xs ys d y (omega (arith, is)) (omega (arith, low)) r e.1)

pub so_far_all : {A : Type 0} (R : ℕ → A → A → Type 0) (i n : ℕ) (xs ys : List A) → n + length xs ≤ i → EachAt (SoFar R i) n xs ys → EachAt R n xs ys
so_far_all R i n [] [] all e = tt
so_far_all R i n [] (y ∷ ys) all e = absurd e
so_far_all R i n (x ∷ xs) [] all e = absurd e
so_far_all R i n (x ∷ xs) (y ∷ ys) all e = (e.0.0 (omega (arith, all)), so_far_all R i (n + 1) xs ys (omega (arith, all)) e.1)

-- what holds of all that is left holds of the next
pub next_holds : {A : Type 0} (P : A → Type 0) (R : ℕ → A → A → Type 0) (i n k : ℕ) (xs ys : List A) (d : A) → i ≤ n + k → k < length ys → EachAt (SoFar R i) n xs ys → All P xs → P (get_or ys k d)
next_holds P R i n k [] [] d is low e a = absurd (omega (arith, low))
next_holds P R i n k [] (y ∷ ys) d is low e a = absurd e
next_holds P R i n k (x ∷ xs) [] d is low e a = absurd e
next_holds P R i n zero (x ∷ xs) (y ∷ ys) d is low e a = subst P (sym (e.0.1 (omega (arith, is)))) (a zero x (omega arith))
next_holds P R i n (suc k) (x ∷ xs) (y ∷ ys) d is low e a = next_holds P R i (n + 1) k xs ys d (omega (arith, is)) (omega (arith, low)) e.1 (λ j c h. a (suc j) c (omega (arith, h)))
