-- A sign at the front of a word.
use Rattle.std.proofs.Common.{◌≡◌, ◌≢◌, ℕ, Bool, true, false, ◌==◌, List, [], ◌∷◌, drop, Option, Some, None, MatchOption, refl, ap, sym, subst, arith, ◌⊎◌, inl, inr}
use Rattle.std.proofs.lemmas.Bool.Decides.{nat_tests}
use Rattle.command_arguments.specs.Forms.{first_is}
use denote.Ref.{Bor}

front_true : (b : ℕ) (xs ys : List ℕ) → xs ≡ b ∷ ys → (first_is b xs ≡ true) × (ys ≡ drop 1 xs)
front_true b xs ys e = (subst (λ (l : List ℕ). first_is b l ≡ true) (sym e) (grind (arith, nat_tests)), ap (drop 1) (sym e))

same : (a b : ℕ) → ((a == b) ≡ true) → a ≡ b
same a b e = grind (arith, nat_tests)

either : (b : Bool) → (b ≡ true) ⊎ (b ≡ false)
either true = inl refl
either false = inr refl

front_false : (b : ℕ) (xs : List ℕ) → ((ys : List ℕ) → xs ≢ b ∷ ys) → first_is b xs ≡ false
front_false b [] never = refl
front_false b (c ∷ cs) never = elim (either (c == b)) [ inl e ↦ absurd (never cs (ap (λ (x : ℕ). x ∷ cs) (same c b e))) | inr e ↦ e ]

pub signed : (b : ℕ) (xs : List ℕ) (r : Option (Bor (List ℕ))) → MatchOption r ((ys : List ℕ) → xs ≢ b ∷ ys) (λ x. xs ≡ b ∷ x.now) → MatchOption r (first_is b xs ≡ false) (λ x. (first_is b xs ≡ true) × (x.now ≡ drop 1 xs))
signed b xs None h = front_false b xs h
signed b xs (Some x) h = front_true b xs x.now h
