-- The outputs' threads are numbered from 0 on.
use Rattle.std.proofs.Common.{◌≡◌, ℕ, zero, suc, ◌+◌, Bool, false, List, [], ◌∷◌, ◌++◌, map, ap, subst, sym, ◌∙◌, arith}
use Rattle.std.proofs.lemmas.List.{map_push}
use Rattle.std.specs.List.{range_with_len}
use Rattle.output_ring.specs.declared.drainer.Drainer.{Drainer}
use Rattle.output_ring.specs.Rings.{has_failed}
use Rattle.crew_steps.specs.Turns.{HasRun}

last : (a n j : ℕ) → a + n ≡ j → range_with_len a (suc n) ≡ range_with_len a n ++ j ∷ []
last a zero j e = ap (λ (k : ℕ). k ∷ []) (omega (arith, e))
last a (suc n) j e = ap (λ (l : List ℕ). a ∷ l) (last (a + 1) n j (omega (arith, e)))

-- one more, of the next number
pub one_more : {A : Type 0} (f : A → ℕ) (xs ys : List A) (x : A) (n m : ℕ) → map f xs ≡ range_with_len 0 n → ys ≡ xs ++ x ∷ [] → f x ≡ n → m ≡ n + 1 → map f ys ≡ range_with_len 0 m
one_more f xs ys x n m were grown is more =
    let next : suc n ≡ m = omega (arith, more) in
    ap (map f) grown ∙ map_push f xs x ∙ ap (λ (l : List ℕ). l ++ f x ∷ []) were ∙ ap (λ (k : ℕ). range_with_len 0 n ++ k ∷ []) is
    ∙ sym (last 0 n n (omega arith)) ∙ ap (range_with_len 0) next

-- what the output of a number did that was made for it, and whose writer has not failed yet
pub ran : (output output' : ℕ) (failed : Bool) (old new : Drainer) → output' ≡ output → failed ≡ false → has_failed old ≡ false → (failed ≡ has_failed old → HasRun output' old new) → HasRun output old new
ran output output' failed old new is fine unused run = subst (λ o. HasRun o old new) is (run (fine ∙ sym unused))
