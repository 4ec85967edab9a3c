-- The number that a text begins with, read digit by digit.
use Rattle.std.proofs.Common.{◌≡◌, ◌∙◌, ℕ, ◌+◌, ◌*◌, ◌<◌, ◌≤◌, Bool, true, false, cond, List, [], ◌∷◌, length, get_or, drop, min, refl, sym, ap, arith, inl, inr}
use Rattle.std.specs.List.{take_while}
use Rattle.std.specs.Char.{is_ascii_digit, digit_value}
use Rattle.std.specs.Str.Parse.{digits_value_after}
use Rattle.std.proofs.Math.Nat.{le-mul_of_pos_right}
use Rattle.std.proofs.lemmas.Bool.{cases_lt}
use Rattle.std.proofs.lemmas.List.{drop_more, drop_all}
use Rattle.std.proofs.lemmas.List.Sums.{take_while-cons}
use Rattle.song_groups.specs.Numbers.{leading_digits, leading_number}

-- the number that the digits at the beginning of a text write behind those of another number
abbrev pub behind : ℕ → List ℕ → ℕ
behind n text = min 4294967295 (digits_value_after 10 n (leading_digits text))

pub behind_none : (text : List ℕ) → leading_number text ≡ behind 0 text
unfolding leading_number
behind_none text = refl

no_less : (n : ℕ) (digits : List ℕ) → n ≤ digits_value_after 10 n digits
no_less n [] = omega arith
no_less n (c ∷ cs) =
    let ten : n ≤ n * 10 = le-mul_of_pos_right {m = 10} n (omega arith) in
    let rest : n * 10 + digit_value c ≤ digits_value_after 10 (n * 10 + digit_value c) cs = no_less (n * 10 + digit_value c) cs in
    omega arith

-- what is too large stays too large
as_far : (n : ℕ) (digits : List ℕ) → min 4294967295 (digits_value_after 10 (min 4294967295 n) digits) ≡ min 4294967295 (digits_value_after 10 n digits)
as_far n digits =
    elim (cases_lt 4294967295 n) [
      | inl above ↦
          let cut : min 4294967295 n ≡ 4294967295 = omega arith in
          let first : 4294967295 ≤ digits_value_after 10 (min 4294967295 n) digits = omega (arith, cut, no_less (min 4294967295 n) digits) in
          let second : n ≤ digits_value_after 10 n digits = no_less n digits in
          omega arith
      | inr within ↦
          let whole : min 4294967295 n ≡ n = omega arith in
          ap (λ m. min 4294967295 (digits_value_after 10 m digits)) whole
    ]

digits_on : (c : ℕ) (cs : List ℕ) (digit : Bool) → is_ascii_digit c ≡ digit → leading_digits (c ∷ cs) ≡ cond digit (c ∷ leading_digits cs) []
digits_on c cs digit e = take_while-cons is_ascii_digit c cs ∙ ap (λ (b : Bool). cond b (c ∷ take_while is_ascii_digit cs) []) e

-- at the next byte: a digit, another byte, or the end of the text
pub digit_more : (n i : ℕ) (text : List ℕ) → i < length text → is_ascii_digit (get_or text i 0) ≡ true
    → behind n (drop i text) ≡ behind (min 4294967295 (n * 10 + digit_value (get_or text i 0))) (drop (i + 1) text)
digit_more n i text inside digit =
    ap (behind n) (drop_more text i 0 inside)
    ∙ ap (λ (digits : List ℕ). min 4294967295 (digits_value_after 10 n digits)) (digits_on (get_or text i 0) (drop (i + 1) text) true digit)
    ∙ sym (as_far (n * 10 + digit_value (get_or text i 0)) (leading_digits (drop (i + 1) text)))

pub no_digit : (n i : ℕ) (text : List ℕ) → n ≤ 4294967295 → i < length text → is_ascii_digit (get_or text i 0) ≡ false → behind n (drop i text) ≡ n
no_digit n i text small inside other =
    let whole : min 4294967295 n ≡ n = omega arith in
    ap (behind n) (drop_more text i 0 inside)
    ∙ ap (λ (digits : List ℕ). min 4294967295 (digits_value_after 10 n digits)) (digits_on (get_or text i 0) (drop (i + 1) text) false other)
    ∙ whole

pub no_more : (n i : ℕ) (text : List ℕ) → n ≤ 4294967295 → length text ≤ i → behind n (drop i text) ≡ n
no_more n i text small end =
    let whole : min 4294967295 n ≡ n = omega arith in
    ap (behind n) (drop_all i text end) ∙ whole
