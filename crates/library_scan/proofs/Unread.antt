-- How many files are called unreadable, where some are left out.
use Rattle.std.proofs.Common.{◌≡◌, ℕ, ◌+◌, ◌≤◌, Bool, true, false, cond, List, [], ◌∷◌, ap, arith}
use Rattle.std.specs.Prelude.{IsPermutation}
use Rattle.std.specs.List.{dedup, dedup_from, sum_by}
use Rattle.std.proofs.lemmas.List.Sorted.{sum_by-IsPermutation}
use Rattle.std.proofs.lemmas.List.Sums.{sum_by-cons}

-- a sum over what a `dedup` leaves is no greater
fewer_from : {X : Type 0} (f : X → ℕ) (same : X → X → Bool) (k : X) (xs : List X) → sum_by f (dedup_from same k xs) ≤ f k + sum_by f xs
fewer_from f same k [] = let one = sum_by-cons f k [] in omega arith
fewer_from f same k (x ∷ xs) =
    let all = sum_by-cons f x xs in
    elim (same x k) as (λ b. sum_by f (cond b (dedup_from same k xs) (k ∷ dedup_from same x xs)) ≤ f k + sum_by f (x ∷ xs)) [
      | true ↦ (
          let h = fewer_from f same k xs in
          let less : sum_by f (dedup_from same k xs) ≤ f k + sum_by f (x ∷ xs) = omega (arith, h, all) in less)
      | false ↦ (
          let h = fewer_from f same x xs in
          let more = sum_by-cons f k (dedup_from same x xs) in
          let less : sum_by f (k ∷ dedup_from same x xs) ≤ f k + sum_by f (x ∷ xs) = omega (arith, h, all, more) in less)
    ]

-- nor is one over what a sort and a `dedup` leave
pub fewer_left : {X : Type 0} (f : X → ℕ) (same : X → X → Bool) (given sorted left : List X) → IsPermutation given sorted → left ≡ dedup same sorted → sum_by f left ≤ sum_by f given
fewer_left f same given [] left moved is = let none : sum_by f left ≡ 0 = ap (sum_by f) is in omega arith
fewer_left f same given (x ∷ xs) left moved is =
    let e : sum_by f left ≡ sum_by f (dedup_from same x xs) = ap (sum_by f) is in
    let moved_sum = sum_by-IsPermutation f given (x ∷ xs) moved in
    let all = sum_by-cons f x xs in
    let less = fewer_from f same x xs in
    omega (arith, e, moved_sum, all, less)
