-- A text cut at a character (this profile's script).
use Rattle.std.specs.Prelude.{ℕ, List, length, Bool, ◌==◌, nat_lt}
use Rattle.std.specs.List.{position_or_len, before_first, after_first}

-- whether the byte is in the text
abbrev pub has_byte : ℕ → List ℕ → Bool
has_byte b text = nat_lt (position_or_len (λ c. c == b) text) (length text)

-- what is before the first such byte: the whole text where there is none
abbrev pub before : ℕ → List ℕ → List ℕ
before b text = before_first (λ c. c == b) text

-- what is after it: nothing where there is none
abbrev pub after : ℕ → List ℕ → List ℕ
after b text = after_first (λ c. c == b) text
