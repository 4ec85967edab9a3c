-- Samples out of vectors of bytes: of those of 24 bits the upper two bytes, out of two vectors that overlap.
use Rattle.std.proofs.Common.{◌≡◌, ℕ, zero, suc, ◌+◌, ◌*◌, ◌/◌, ◌%◌, ◌<◌, ◌≤◌, ◌++◌, ◌-◌, List, [], ◌∷◌, length, map, take, get_or, refl, ap, sym, ◌∙◌, arith, pos}
use Rattle.std.proofs.lemmas.Int.{ints}
use Rattle.std.proofs.lemmas.Bool.Decides.{nat_tests}
use Rattle.std.proofs.lemmas.List.{drop_more, get_or_append_left, get_or-append_right}
use Rattle.std.proofs.lemmas.Simd.{get_or_wider, get_or-chunk, length-chunk}
use Rattle.std.specs.Int.{int_div_euclid}
use Rattle.std.specs.Simd.Lanes.{Each1, chunk, number_l, digits_l}
use Rattle.pcm_mix.specs.declared.layout.Depth.TheVariants.{Sixteen, TwentyFour}
use Rattle.pcm_mix.specs.Layouts.{signed, word_at, sample_at}

-- the words of bytes, the low byte of each first
abbrev pub words : List ℕ → List ℕ
words [] = []
words (a ∷ []) = []
words (a ∷ b ∷ bytes) = (a + 256 * b) ∷ words bytes

pub words_of : (n : ℕ) (bytes : List ℕ) → length bytes ≡ 2 * n → Each1 (λ x. x < 256) bytes → digits_l 65536 n (number_l 256 bytes) ≡ words bytes
words_of zero [] long fits = refl
words_of zero (a ∷ bytes) long fits = absurd (omega arith)
words_of (suc n) [] long fits = absurd (omega arith)
words_of (suc n) (a ∷ []) long fits = absurd (omega arith)
words_of (suc n) (a ∷ b ∷ bytes) long fits =
    let first = fits.0 in
    let second = fits.1.0 in
    let low : (a + 256 * (b + 256 * number_l 256 bytes)) % 65536 ≡ a + 256 * b = omega arith in
    let high : (a + 256 * (b + 256 * number_l 256 bytes)) / 65536 ≡ number_l 256 bytes = omega arith in
    λ i. low i ∷ (ap (digits_l 65536 n) high ∙ words_of n bytes (omega arith) fits.1.1) i

pub each_fits : (f : ℕ → ℕ) → ((k : ℕ) → f k < 256) → (offsets : List ℕ) → Each1 (λ x. x < 256) (map f offsets)
each_fits f fits [] = tt
each_fits f fits (k ∷ offsets) = (fits k, each_fits f fits offsets)

-- a byte of the first and of the second of two vectors, of which the second begins eight bytes later
pub in_first : (bytes others : List ℕ) (at k n : ℕ) → at + 24 ≤ length bytes → k < 16 → at + k ≡ n → get_or (chunk at 16 bytes ++ others) k 0 ≡ get_or bytes n 0
in_first bytes others at k n le less is =
    let long : length (chunk at 16 bytes) ≡ 16 = length-chunk at 16 bytes (omega arith) in
    get_or_append_left (chunk at 16 bytes) others 0 k (omega arith) ∙ get_or-chunk at 16 bytes k 0 less ∙ ap (λ (m : ℕ). get_or bytes m 0) is

pub in_second : (bytes : List ℕ) (at k j n : ℕ) → at + 24 ≤ length bytes → j + 16 ≡ k → k < 32 → at + 8 + j ≡ n →
    get_or (chunk at 16 bytes ++ chunk (at + 8) 16 bytes) k 0 ≡ get_or bytes n 0
in_second bytes at k j n le shifted less is =
    let long : length (chunk at 16 bytes) ≡ 16 = length-chunk at 16 bytes (omega arith) in
    let e : k - 16 ≡ j = omega arith in
    get_or-append_right (chunk at 16 bytes) (chunk (at + 8) 16 bytes) 16 k 0 long (omega arith)
    ∙ ap (λ (m : ℕ). get_or (chunk (at + 8) 16 bytes) m 0) e
    ∙ get_or-chunk (at + 8) 16 bytes j 0 (omega arith) ∙ ap (λ (m : ℕ). get_or bytes m 0) is

upper_bits : (a b c : ℕ) → a < 256 → b < 256 → c < 256 → signed 32768 (b + 256 * c) ≡ int_div_euclid (signed 8388608 (a + 256 * b + 65536 * c)) (pos 256)
upper_bits a b c la lb lc = grind (arith, ints, nat_tests)

-- the word that begins one byte after a sample has the bits of its upper part
pub upper : (bytes : List ℕ) → ((k : ℕ) → get_or bytes k 0 < 256) → (m n : ℕ) → n + 1 ≡ m → signed 32768 (word_at bytes m) ≡ sample_at TwentyFour bytes n
upper bytes fits m n is =
    let one : get_or bytes (m + 1) 0 ≡ get_or bytes (n + 2) 0 = ap (λ (k : ℕ). get_or bytes k 0) (omega arith) in
    let two : get_or bytes m 0 ≡ get_or bytes (n + 1) 0 = ap (λ (k : ℕ). get_or bytes k 0) (omega arith) in
    (λ t. signed 32768 (two t + 256 * one t)) ∙ upper_bits (get_or bytes n 0) (get_or bytes (n + 1) 0) (get_or bytes (n + 2) 0) (fits n) (fits (n + 1)) (fits (n + 2))

-- of samples of 16 bits the whole: a word of a vector is that of its two bytes
word_of : (xs : List ℕ) (j : ℕ) → j + 2 ≤ length xs → number_l 256 (chunk j 2 xs) ≡ get_or xs j 0 + 256 * get_or xs (j + 1) 0
word_of xs j le =
    let one = drop_more xs j 0 (omega arith) in
    let two = drop_more xs (j + 1) 0 (omega arith) in
    let is : chunk j 2 xs ≡ get_or xs j 0 ∷ get_or xs (j + 1) 0 ∷ [] = ap (take 2) (one ∙ ap (λ x. get_or xs j 0 ∷ x) two) in
    ap (number_l 256) is ∙ (let e : get_or xs j 0 + 256 * (get_or xs (j + 1) 0 + 256 * 0) ≡ get_or xs j 0 + 256 * get_or xs (j + 1) 0 = omega arith in e)

pub word_is : (bytes : List ℕ) (at j : ℕ) → at + 16 ≤ length bytes → j < 8 → Each1 (λ x. x < 256) (chunk at 16 bytes)
    → get_or (digits_l 65536 8 (number_l 256 (chunk at 16 bytes))) j 0 ≡ word_at bytes (at + j * 2)
word_is bytes at j le less fits =
    let long : length (chunk at 16 bytes) ≡ 16 = length-chunk at 16 bytes le in
    let low : at + 2 * j ≡ at + j * 2 = omega arith in
    let high : at + (2 * j + 1) ≡ at + j * 2 + 1 = omega arith in
    let a = get_or-chunk at 16 bytes (2 * j) 0 (omega arith) ∙ ap (λ (n : ℕ). get_or bytes n 0) low in
    let b = get_or-chunk at 16 bytes (2 * j + 1) 0 (omega arith) ∙ ap (λ (n : ℕ). get_or bytes n 0) high in
    get_or_wider 256 2 65536 8 (chunk at 16 bytes) j refl fits less ∙ word_of (chunk at 16 bytes) (2 * j) (omega arith) ∙ (λ i. a i + 256 * b i)

pub whole : (bytes : List ℕ) (m n : ℕ) → n ≡ m → signed 32768 (word_at bytes m) ≡ sample_at Sixteen bytes n
whole bytes m n is = ap (λ (k : ℕ). signed 32768 (word_at bytes k)) (sym is)
