-- Numbers in arguments (MPD protocol reference, Requests; the greatest value is this profile's).
use Rattle.std.specs.Prelude.{ℕ, List, length, Option, Some, None, Bool, ◌&&◌, nat_le, nat_lt, if◌then◌else◌}
use Rattle.std.specs.List.{list_all}
use Rattle.std.specs.Char.{is_ascii_digit}
use Rattle.std.specs.Str.Parse.{digits_value}

-- one or more decimal digits
abbrev pub is_digits : List ℕ → Bool
is_digits text = nat_lt 0 (length text) && list_all is_ascii_digit text

-- the value of a number of at most 32 bits
unfoldable pub number_of : List ℕ → Option ℕ
number_of text = if is_digits text && nat_le (digits_value 10 text) 4294967295 then Some (digits_value 10 text) else None
