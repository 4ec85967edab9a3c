-- The numbers that texts begin with (that tracks and discs are sorted by them is this profile's).
use Rattle.std.specs.Prelude.{ℕ, List, min}
use Rattle.std.specs.List.{take_while}
use Rattle.std.specs.Char.{is_ascii_digit}
use Rattle.std.specs.Str.Parse.{digits_value}

-- the ASCII digits that a text begins with, as many as there are
abbrev pub leading_digits : List ℕ → List ℕ
leading_digits text = take_while is_ascii_digit text

-- the number that they write, or 4294967295 where it is above that; 0 where there are none
unfoldable pub leading_number : List ℕ → ℕ
leading_number text = min 4294967295 (digits_value 10 (leading_digits text))
