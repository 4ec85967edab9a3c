-- A sample at a volume by a reciprocal of 16 bits, in arithmetic of 16 bits.
use Rattle.std.proofs.Common.{◌≡◌, ℕ, zero, suc, ◌+◌, ◌-◌, ◌*◌, ◌/◌, ◌%◌, ◌^◌, ◌<◌, ◌≤◌, List, [], ◌∷◌, map, ℤ, pos, negsuc, neg_ℤ, of_z, to_z, FitsSigned, Fits, int_div, ◌++◌, length, get_or, refl, sym, ◌∙◌, inl, inr, arith}
use Rattle.std.proofs.lemmas.Int.{ints}
use Rattle.std.proofs.lemmas.Nat.{mul-le}
use Rattle.std.proofs.lemmas.Bool.{cases_lt}
use Rattle.std.proofs.lemmas.Bool.Decides.{nat_tests}
use Rattle.std.specs.Int.{w16}
use Rattle.pcm_mix.specs.Samples.{gained}
use Rattle.pcm_mix.specs.Layouts.{signed}
use Rattle.pcm_mix.proofs.Eights.{eight_are, two_are}

-- what the vectors have at one lane, in the order of the code
abbrev pub sign_at : ℕ → ℕ
sign_at word = (1 + (65536 - (word / 2 ^ 15 + word / 2 ^ 15) % 65536)) % 65536

abbrev pub size_at : ℕ → ℕ
size_at word = word * sign_at word % 65536

abbrev pub least_of : ℕ → ℕ → ℕ
least_of reciprocal size = size * reciprocal % 4294967296 / 2 ^ 16

abbrev pub left_of : ℕ → ℕ → ℕ → ℕ
left_of volume reciprocal size = (size * volume % 65536 + (65536 - least_of reciprocal size * 100 % 65536)) % 65536

abbrev pub quotient_of : ℕ → ℕ → ℕ → ℕ
quotient_of volume reciprocal size = (least_of reciprocal size + (left_of volume reciprocal size + 32668) % 65536 / 2 ^ 15) % 65536

abbrev pub lane_at : ℕ → ℕ → ℕ → ℕ
lane_at volume reciprocal word = quotient_of volume reciprocal (size_at word) * sign_at word % 65536

-- the reciprocal is at most what it stands for, and above it less one
pub close : (a v c : ℕ) → c ≡ v * 65536 / 100 → (100 * (a * c) ≤ 65536 * (a * v)) × (65536 * (a * v) ≤ 100 * (a * c) + 99 * a)
close a v c is =
    let low = mul-le a (100 * c) a (65536 * v) (omega arith) (omega arith) in
    let high = mul-le a (65536 * v) a (100 * c + 99) (omega arith) (omega arith) in
    (omega (arith, low), omega (arith, high))

pub small_product : (a c : ℕ) → a ≤ 32768 → c < 65536 → a * c < 2147483648
small_product a c la lc =
    let most = mul-le a c 32768 65535 la (omega arith) in
    omega (arith, most)

pub quotient_is : (a v c : ℕ) → a ≤ 32768 → v < 100 → c ≡ v * 65536 / 100 → quotient_of v c a ≡ a * v / 100
quotient_is a v c la lv is =
    let near = close a v c is in
    let small = small_product a c la (omega arith) in
    omega (arith, near.0, near.1, small)

lower : (v n : ℕ) → gained v (pos n) ≡ pos (n * v / 100)
lower v n = refl

negative : (n : ℕ) → int_div (neg_ℤ (pos n)) (pos 100) ≡ neg_ℤ (pos (n / 100))
negative zero = refl
negative (suc n) = omega (arith, ints)

upper : (v n : ℕ) → gained v (neg_ℤ (pos n)) ≡ neg_ℤ (pos (n * v / 100))
upper v zero = omega (arith, ints)
upper v (suc n) = negative (suc n * v)

pub size_fits : (word : ℕ) → word < 65536 → size_at word ≤ 32768
size_fits word h = elim (cases_lt word 32768) [
  | inl l ↦ let e : word / 2 ^ 15 ≡ 0 = omega arith in rw e (omega arith)
  | inr g ↦ let e : word / 2 ^ 15 ≡ 1 = omega arith in rw e (omega arith)
]

pub lane_is : (v c word : ℕ) → v < 100 → c ≡ v * 65536 / 100 → word < 65536 → signed 32768 (lane_at v c word) ≡ gained v (signed 32768 word)
lane_is v c word lv is h = elim (cases_lt word 32768) [
  | inl l ↦
      let e : word / 2 ^ 15 ≡ 0 = omega arith in
      let s : word * 1 % 65536 ≡ word = omega arith in
      let q = quotient_is word v c (omega arith) lv is in
      let few = mul-le word v word 100 (omega arith) (omega arith) in
      let number : signed 32768 word ≡ pos word = grind (arith, ints, nat_tests) in
      let back : (n : ℕ) → n < 32768 → signed 32768 (n * 1 % 65536) ≡ pos n = λ n ln. grind (arith, ints, nat_tests) in
      rw (e, s, q, number) (back (word * v / 100) (omega (arith, few)) ∙ sym (lower v word))
  | inr g ↦
      let e : word / 2 ^ 15 ≡ 1 = omega arith in
      let s : word * 65535 % 65536 ≡ 65536 - word = omega arith in
      let q = quotient_is (65536 - word) v c (omega arith) lv is in
      let few = mul-le (65536 - word) v (65536 - word) 100 (omega arith) (omega arith) in
      let number : signed 32768 word ≡ neg_ℤ (pos (65536 - word)) = grind (arith, ints, nat_tests) in
      let back : (n : ℕ) → n ≤ 32768 → signed 32768 (n * 65535 % 65536) ≡ neg_ℤ (pos n) = λ n ln. grind (arith, ints, nat_tests) in
      rw (e, s, q, number) (back ((65536 - word) * v / 100) (omega (arith, few)) ∙ sym (upper v (65536 - word)))
]

-- the upper half of a number of 32 bits
pub high_fits : (n : ℕ) → Fits w16 (n % 4294967296 / 2 ^ 16)
high_fits n = record { fits = omega arith }

its_bits : (sample : ℤ) → FitsSigned w16 sample → signed 32768 (of_z w16 sample) ≡ sample
its_bits (pos n) fits = grind (arith, ints, nat_tests)
its_bits (negsuc n) fits = grind (arith, ints, nat_tests)

pub back : (sample : ℤ) → FitsSigned w16 sample → signed 32768 (of_z w16 (to_z w16 (of_z w16 sample))) ≡ sample
back sample fits =
    let e : to_z w16 (of_z w16 sample) ≡ sample = omega (arith, ints) in
    rw e (its_bits sample fits)

-- eight samples as four frames
pub four_framed : (v : ℕ) (words : List ℕ) (a b c d : List ℤ) → length words ≡ 8 → length a ≡ 2 → length b ≡ 2 → length c ≡ 2 → length d ≡ 2
    → map (signed 32768) words ≡ map (gained v) (a ++ (b ++ (c ++ (d ++ []))))
    → (signed 32768 (get_or words 0 0) ∷ signed 32768 (get_or words 1 0) ∷ []) ∷ (signed 32768 (get_or words 2 0) ∷ signed 32768 (get_or words 3 0) ∷ [])
    ∷ (signed 32768 (get_or words 4 0) ∷ signed 32768 (get_or words 5 0) ∷ []) ∷ (signed 32768 (get_or words 6 0) ∷ signed 32768 (get_or words 7 0) ∷ []) ∷ []
    ≡ map (gained v) a ∷ map (gained v) b ∷ map (gained v) c ∷ map (gained v) d ∷ []
four_framed v words a b c d long la lb lc ld is =
    let word = eight_are words 0 long in
    let ta = two_are a (pos 0) la in
    let tb = two_are b (pos 0) lb in
    let tc = two_are c (pos 0) lc in
    let td = two_are d (pos 0) ld in
    let all = sym (λ t. map (signed 32768) (word t)) ∙ is ∙ (λ t. map (gained v) (ta t ++ (tb t ++ (tc t ++ (td t ++ []))))) in
    let at : List ℤ → ℕ → ℤ = λ xs k. get_or xs k (pos 0) in
    (λ t. (at (all t) 0 ∷ at (all t) 1 ∷ []) ∷ (at (all t) 2 ∷ at (all t) 3 ∷ []) ∷ (at (all t) 4 ∷ at (all t) 5 ∷ []) ∷ (at (all t) 6 ∷ at (all t) 7 ∷ []) ∷ [])
    ∙ sym (λ t. map (gained v) (ta t) ∷ map (gained v) (tb t) ∷ map (gained v) (tc t) ∷ map (gained v) (td t) ∷ [])
