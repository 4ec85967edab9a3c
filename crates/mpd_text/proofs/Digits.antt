-- Digits, and what `parse` gives of them.
use Rattle.std.proofs.Common.{◌≡◌, ℕ, ◌^◌, ◌<◌, true, List, length, Some, None, Result, Ok, Err, arith, rules}
use Rattle.std.specs.List.{list_all}
use Rattle.std.specs.Char.{is_ascii_digit}
use Rattle.std.specs.Str.Parse.{digits_value, ParsesUnsigned}
use Rattle.std.proofs.lemmas.Str.Parse.{IsDigitsTest, IsNumeralModel, numerals_by_value, parse_digits}
use Rattle.std.proofs.lemmas.Bool.Decides.{nat_tests}
use Rattle.std.specs.Result.{result_ok}
use Rattle.mpd_text.specs.Answers.Number.{is_digits, number_of}

pub tells_digits : IsDigitsTest (λ ds. list_all is_ascii_digit ds ≡ true)
tells_digits = search rules

pub own : IsNumeralModel (λ ds. list_all is_ascii_digit ds ≡ true) (digits_value 10)
own = numerals_by_value _ tells_digits

allowed : (bs : List ℕ) (n : ℕ) → is_digits bs ≡ true → n ≡ digits_value 10 bs → digits_value 10 bs < 2 ^ 32 → Some n ≡ number_of bs
unfolding number_of
allowed bs n is e l = grind (arith, nat_tests)

refused : (bs : List ℕ) → is_digits bs ≡ true → ¬ (digits_value 10 bs < 2 ^ 32) → None ≡ number_of bs
unfolding number_of
refused bs is h = let l : 4294967295 < digits_value 10 bs = omega arith in grind (arith, nat_tests)

has_digits : (bs : List ℕ) → is_digits bs ≡ true → list_all is_ascii_digit bs ≡ true
has_digits bs is = grind (arith, nat_tests)

some_digit : (bs : List ℕ) → is_digits bs ≡ true → 0 < length bs
some_digit bs is = grind (arith, nat_tests)

pub parsed : {E : Type 0} → (bs : List ℕ) (r : Result ℕ E) → is_digits bs ≡ true → ParsesUnsigned 32 10 bs r → result_ok r ≡ number_of bs
parsed {E} bs (Ok n) is h = let k = parse_digits own {E = E} 32 bs (Ok n) h (has_digits bs is) in allowed bs n is k.1 k.0.1
parsed {E} bs (Err e) is h = let k = parse_digits own {E = E} 32 bs (Err e) h (has_digits bs is) in refused bs is (λ l. k (some_digit bs is, l))
