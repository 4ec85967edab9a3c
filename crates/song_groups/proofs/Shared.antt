-- How many elements two lists share from the front on.
use Rattle.std.proofs.Common.{◌≡◌, ◌≢◌, ℕ, zero, suc, ◌+◌, ◌-◌, ◌<◌, ◌≤◌, ◌⊎◌, Bool, true, cond, List, [], ◌∷◌, take, length, refl, ap, inl, inr, arith, min}
use Rattle.std.specs.Prelude.{◌↔◌, nat_eq}
use lib.Pointwise.{pointwise, bytes_decides}
use Rattle.std.specs.List.{common_prefix_len}
use Rattle.std.proofs.lemmas.Bool.{cases_Bool, cases_lt}

abbrev pub same : List ℕ → List ℕ → Bool
same = pointwise nat_eq

abbrev pub shared : List (List ℕ) → List (List ℕ) → ℕ
shared before after = common_prefix_len same before after

-- equal fronts, as long as one of the lists has so many, are shared
pub equal_front : (k : ℕ) (before after : List (List ℕ)) → k ≤ length after → take k before ≡ take k after → k ≤ shared before after
equal_front zero before after l e = omega arith
equal_front (suc k) before [] l e = absurd (omega arith)
equal_front (suc k) [] (y ∷ ys) l e = cc
equal_front (suc k) (x ∷ xs) (y ∷ ys) l e =
    let heads : x ≡ y = cc in
    let rests : take k xs ≡ take k ys = cc in
    let deeper : k ≤ shared xs ys = equal_front k xs ys (omega arith) rests in
    let now : same x y ≡ true = (bytes_decides x y).1 heads in
    let step : shared (x ∷ xs) (y ∷ ys) ≡ 1 + shared xs ys = ap (λ (b : Bool). cond b (1 + shared xs ys) 0) now in
    omega arith

-- what is shared is equal
pub shared_front : (k : ℕ) (before after : List (List ℕ)) → k ≤ shared before after → take k before ≡ take k after
shared_front zero before after l = refl
shared_front (suc k) [] after l = absurd (omega arith)
shared_front (suc k) (x ∷ xs) [] l = absurd (omega arith)
shared_front (suc k) (x ∷ xs) (y ∷ ys) l = elim (cases_Bool (same x y)) [
  | inl e ↦
      let step : shared (x ∷ xs) (y ∷ ys) ≡ 1 + shared xs ys = ap (λ (b : Bool). cond b (1 + shared xs ys) 0) e in
      let deeper : k ≤ shared xs ys = omega arith in
      let heads : x ≡ y = (bytes_decides x y).0 e in
      let rests : take k xs ≡ take k ys = shared_front k xs ys deeper in
      cc
  | inr e ↦
      let step : shared (x ∷ xs) (y ∷ ys) ≡ 0 = ap (λ (b : Bool). cond b (1 + shared xs ys) 0) e in
      absurd (omega arith)
]

low_enough : (s n column : ℕ) → column < n → min s (n - 1) ≤ column → (s ≤ column) ⊎ (column + 1 ≡ n)
low_enough s n column l h = elim (cases_lt column s) [ inl a ↦ inr (omega arith) | inr a ↦ inl a ]

-- a column has its line where the tuple, up to there, is another, and the last one always
pub stands : (before after : List (List ℕ)) (column : ℕ) → column < length after → (min (shared before after) (length after - 1) ≤ column) ↔ ((take (column + 1) before ≢ take (column + 1) after) ⊎ (column + 1 ≡ length after))
stands before after column l = (to, from)
  where
    to : min (shared before after) (length after - 1) ≤ column → (take (column + 1) before ≢ take (column + 1) after) ⊎ (column + 1 ≡ length after)
    to h = elim (low_enough (shared before after) (length after) column l h) [
      | inl a ↦ inl (λ e. let b : column + 1 ≤ shared before after = equal_front (column + 1) before after (omega arith) e in omega arith)
      | inr a ↦ inr a
    ]

    from : (take (column + 1) before ≢ take (column + 1) after) ⊎ (column + 1 ≡ length after) → min (shared before after) (length after - 1) ≤ column
    from (inl differ) = elim (cases_lt column (shared before after)) [
      | inl a ↦ absurd (differ (shared_front (column + 1) before after (omega arith)))
      | inr a ↦ omega arith
    ]
    from (inr last) = omega arith
