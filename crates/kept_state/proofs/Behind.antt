-- What stands behind a key, and the last item of a list.
use Rattle.std.proofs.Common.{◌≡◌, ◌∙◌, ◌≢◌, ◌+◌, ℕ, zero, suc, List, [], ◌∷◌, ◌++◌, Option, Some, None, MatchOption, Bor, refl, sym, ap, arith, length, drop, slice_set, slice_index_or, inl, inr}
use Rattle.std.specs.Str.Pattern.{FindsTextPrefix}
use Rattle.std.proofs.lemmas.Bool.{eq-eqb}
use Rattle.std.proofs.lemmas.Bool.Decides.{eqb_tells}
use Rattle.kept_state.specs.Heard.{at_last}
use Rattle.kept_state.specs.Told.{Shows, behind}

behind_found : (key rest : List ℕ) → behind key (key ++ rest) ≡ Some rest
behind_found [] rest = refl
behind_found (b ∷ key) rest = rw (eq-eqb b b refl) (behind_found key rest)

behind_lacks : (key line : List ℕ) → ((rest : List ℕ) → line ≢ key ++ rest) → behind key line ≡ None
behind_lacks [] line lacks = absurd (lacks line refl)
behind_lacks (b ∷ key) [] lacks = refl
behind_lacks (b ∷ key) (c ∷ line) lacks =
    elim (eqb_tells b c) [
      | inl same ↦ rw same.0 (behind_lacks key line (λ rest is. let e : b ≡ c = same.1 in lacks rest cc))
      | inr other ↦ rw other.0 refl
    ]

-- what `strip_prefix` gives
pub strip_behind : (key line : List ℕ) (r : Option (Bor (List ℕ)))
    → MatchOption r (FindsTextPrefix key line None) (λ x. (n : ℕ) × FindsTextPrefix key line (Some n) × (x.now ≡ drop n line) × (length x.now + n ≡ length line))
    → Shows (behind key line) r
strip_behind key line None lacks = behind_lacks key line lacks
strip_behind key line (Some x) (n, found, value, len) =
    ap (behind key) (found.1 ∙ ap (λ rest. key ++ rest) (sym value)) ∙ behind_found key x.now

-- what is written through `last_mut`
pub last_set : {A : Type 0} (change : A → A) (xs : List A) (x : A) (n : ℕ) → suc n ≡ length xs → x ≡ slice_index_or xs n x → slice_set xs n (change x) ≡ at_last change xs
last_set change [] x n len at = cc
last_set change (y ∷ []) x zero len at = ap (λ v. change v ∷ []) at
last_set change (y ∷ []) x (suc n) len at = absurd (omega arith)
last_set change (y ∷ z ∷ more) x zero len at = absurd (omega arith)
last_set change (y ∷ z ∷ more) x (suc n) len at = ap (λ ys. y ∷ ys) (last_set change (z ∷ more) x n (omega arith) at)
