-- A slash at the end of a word.
use Rattle.std.proofs.Common.{◌≡◌, ◌≢◌, ℕ, ◌+◌, ◌-◌, ◌<◌, Bool, true, false, ◌==◌, List, [], ◌∷◌, ◌++◌, length, take, take_all, get_or, Some, refl, ap, sym, ◌∙◌, arith, ◌⊎◌, inl, inr}
use Rattle.std.proofs.lemmas.Bool.Decides.{nat_tests}
use Rattle.std.proofs.lemmas.List.{take_more}
use Rattle.command_arguments.specs.Forms.{uri_of}

same : (a b : ℕ) → ((a == b) ≡ true) → a ≡ b
same a b e = grind (arith, nat_tests)

either : (b : Bool) → (b ≡ true) ⊎ (b ≡ false)
either true = inl refl
either false = inr refl

last : (xs : List ℕ) → 0 < length xs → xs ≡ take (length xs - 1) xs ++ get_or xs (length xs - 1) 0 ∷ []
last xs l =
    let inside : length xs - 1 < length xs = omega arith in
    let more = take_more xs (length xs - 1) 0 inside in
    let whole : length xs - 1 + 1 ≡ length xs = omega arith in
    sym (take_all (length xs) xs (omega arith)) ∙ ap (λ (n : ℕ). take n xs) (sym whole) ∙ more

some : (xs : List ℕ) → get_or xs (length xs - 1) 0 ≡ 47 → 0 < length xs
some [] e = omega (arith, e)
some (x ∷ xs) e = omega arith

ends : (xs : List ℕ) → ((ys : List ℕ) → xs ≢ ys ++ 47 ∷ []) → get_or xs (length xs - 1) 0 ≡ 47 → ⊥
ends xs never e = never (take (length xs - 1) xs) (last xs (some xs e) ∙ ap (λ (b : ℕ). take (length xs - 1) xs ++ b ∷ []) e)

-- a word that ends in no slash is kept
pub no_slash : (xs : List ℕ) → ((ys : List ℕ) → xs ≢ ys ++ 47 ∷ []) → uri_of xs ≡ Some (record { 0 = xs })
no_slash xs never = elim (either (get_or xs (length xs - 1) 0 == 47)) [
  | inl e ↦ absurd (ends xs never (same _ _ e))
  | inr e ↦ rw e refl
]
