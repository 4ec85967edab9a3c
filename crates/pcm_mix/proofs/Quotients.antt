-- Weighted samples fit, and so does their quotient.
use Rattle.std.proofs.Common.{to_z, of_z, ◌≡◌, ℕ, suc, ◌+◌, ◌*◌, ◌/◌, ◌^◌, ◌<◌, ◌≤◌, arith, ℤ, pos, negsuc, neg_ℤ, ◌+ℤ◌, ◌*ℤ◌, ◌≤ℤ◌, FitsSigned, int_div, ◌-◌, ◌<ℤ◌, sym, ap, ◌∙◌, unsigned_abs}
use Rattle.std.proofs.lemmas.Int.{ints}
use Rattle.std.proofs.lemmas.Nat.{mul-le}
use Rattle.std.proofs.Math.Nat.{div-eq_of_lt-le, div-le_of_le-mul}
use Rattle.std.specs.Int.{w16, w64}

pub least_product : (sample : ℤ) (weight : ℕ) → FitsSigned w16 sample → neg_ℤ (pos (32768 * weight)) ≤ℤ (sample *ℤ pos weight)
least_product (pos a) weight fits = omega (arith, ints)
least_product (negsuc a) weight fits = omega (arith, ints, mul-le (suc a) weight 32768 weight (omega (arith, ints)) (omega arith))

pub most_product : (sample : ℤ) (weight : ℕ) → FitsSigned w16 sample → (sample *ℤ pos weight) ≤ℤ pos (32767 * weight)
most_product (pos a) weight fits = omega (arith, ints, mul-le a weight 32767 weight (omega (arith, ints)) (omega arith))
most_product (negsuc a) weight fits = omega (arith, ints)

below_quotient : (a n k : ℕ) → 0 < n → a ≤ k * n → a / n ≤ k
below_quotient a n k h le = div-le_of_le-mul n (omega (arith, le))

pub quotient_fits : (z : ℤ) (n : ℕ) → 0 < n → neg_ℤ (pos (32768 * n)) ≤ℤ z → z ≤ℤ pos (32767 * n) → FitsSigned w16 (int_div z (pos n))
quotient_fits (pos a) n h low high = omega (arith, ints, below_quotient a n 32767 h (omega (arith, ints)))
quotient_fits (negsuc a) n h low high = omega (arith, ints, below_quotient (suc a) n 32768 h (omega (arith, ints)))

-- a sum of two weighted samples stays between the ends of their total weight
pub quotient_of_sum : (x y s : ℤ) (m n k : ℕ) → 0 < k → m + n ≡ k → s ≡ x +ℤ y → neg_ℤ (pos (32768 * m)) ≤ℤ x → x ≤ℤ pos (32767 * m) → neg_ℤ (pos (32768 * n)) ≤ℤ y → y ≤ℤ pos (32767 * n) → FitsSigned w16 (int_div s (pos k))
quotient_of_sum x y s m n k h e f a b c d = quotient_fits s k h (omega (arith, ints)) (omega (arith, ints))

-- the code's sum, in 64 bits, is that of numbers without a bound
pub code_sum : (x y : ℤ) (m n k : ℕ) → k < 2 ^ 32 → m + n ≡ k → neg_ℤ (pos (32768 * m)) ≤ℤ x → x ≤ℤ pos (32767 * m) → neg_ℤ (pos (32768 * n)) ≤ℤ y → y ≤ℤ pos (32767 * n) → to_z w64 (of_z w64 (to_z w64 (of_z w64 x) +ℤ to_z w64 (of_z w64 y))) ≡ x +ℤ y
code_sum x y m n k small e a b c d = omega (arith, ints)

pub wider : (z : ℤ) → FitsSigned w16 z → FitsSigned w64 z
wider z h = omega (arith, ints)

pub back_narrow : (z : ℤ) → FitsSigned w16 z → to_z w16 (of_z w16 (to_z w64 (of_z w64 z))) ≡ z
back_narrow z h = omega (arith, ints)

-- an estimate is the quotient where the divisor, taken so often, leaves less than itself
quotient_is : (n estimate len : ℕ) → estimate * len ≤ n → n - estimate * len < len → n / len ≡ estimate
quotient_is n estimate len h k =
    let more : n < (estimate + 1) * len = omega (arith, h, k) in
    div-eq_of_lt-le len h more

-- What the code knows of an estimate for a number of size `n`: `g` and `l` are the estimate and the divisor as it read
-- them.
pub record IsEstimate (n estimate len g l : ℕ) : Type 0 where
  pub same : g ≡ estimate
  pub divisor : l ≡ len
  pub fits : g * l ≤ n
  pub rest : n - g * l < l

is_quotient : (n estimate len g l : ℕ) → IsEstimate n estimate len g l → estimate ≡ n / len
is_quotient n estimate len g l is = sym (quotient_is n estimate len (rw (sym is.same, sym is.divisor) is.fits) (rw (sym is.same, sym is.divisor) is.rest))

pub estimate_above : (z : ℤ) (n estimate len g l : ℕ) → pos 0 ≤ℤ z → n ≡ unsigned_abs z → IsEstimate n estimate len g l → pos estimate ≡ int_div z (pos len)
estimate_above (pos a) n estimate len g l up e is = ap pos (is_quotient n estimate len g l is) ∙ ap (λ m. pos (m / len)) e
estimate_above (negsuc a) n estimate len g l up e is = absurd (omega (arith, ints, up))

pub estimate_below : (z : ℤ) (n estimate len g l : ℕ) → z <ℤ pos 0 → n ≡ unsigned_abs z → IsEstimate n estimate len g l → neg_ℤ (pos estimate) ≡ int_div z (pos len)
estimate_below (pos a) n estimate len g l down e is = absurd (omega (arith, ints, down))
estimate_below (negsuc a) n estimate len g l down e is = ap (λ q. neg_ℤ (pos q)) (is_quotient n estimate len g l is) ∙ ap (λ m. neg_ℤ (pos (m / len))) e
