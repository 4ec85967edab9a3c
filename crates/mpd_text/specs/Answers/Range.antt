-- Ranges of positions in arguments (MPD protocol reference, Requests: Ranges).
use Rattle.std.specs.Prelude.{◌≡◌, ℕ, ◌+◌, List, [], ◌∷◌, length, Option, Some, None, Bool, true, false, ◌==◌, ◌&&◌, nat_le, nat_lt, min, option_map, if◌then◌else◌}
use Rattle.std.specs.List.{position_or_len, before_first, after_first}
use Rattle.std.specs.declared.ops.Range.{Range as Positions}
use Rattle.mpd_text.specs.Answers.Number.{number_of}
use Rattle.mpd_text.specs.declared.answers.ranges.Range.{Range}
use Rattle.mpd_text.specs.declared.answers.ranges.Range.TheVariants.{Lone, Between, From}

-- whether a byte is in a text
abbrev pub has_byte : ℕ → List ℕ → Bool
has_byte b text = nat_lt (position_or_len (λ c. c == b) text) (length text)

-- what stands before the first such byte, and what stands after it
abbrev pub before : ℕ → List ℕ → List ℕ
before b text = before_first (λ c. c == b) text

abbrev pub after : ℕ → List ℕ → List ℕ
after b text = after_first (λ c. c == b) text

-- the byte is not in a text
abbrev pub HasNoByte : ℕ → List ℕ → Type 0
HasNoByte b text = has_byte b text ≡ false

-- the byte is in a text, and the first such cuts it into these
abbrev pub IsCutAt : ℕ → List ℕ → List ℕ → List ℕ → Type 0
IsCutAt b text front back = (has_byte b text ≡ true) × (front ≡ before b text) × (back ≡ after b text)

abbrev pub between : ℕ → Option ℕ → Option Range
between start None = None
between start (Some end) = if nat_le start end then Some (Between start end) else None

-- START: or START:END, where the start is not above the end
abbrev pub from_to : Option ℕ → List ℕ → Option Range
from_to None end = None
from_to (Some start) [] = Some (From start)
from_to (Some start) (b ∷ bs) = between start (number_of (b ∷ bs))

-- POS, START:END or START:
unfoldable pub range_of : List ℕ → Option Range
range_of text = if has_byte 58 text then from_to (number_of (before 58 text)) (after 58 text) else option_map Lone (number_of text)

abbrev pub positions : ℕ → ℕ → Positions ℕ
positions start end = record { start = start; end = end }

-- the positions of a range in a list of so many items, where it begins in the list or at its end and does not
-- end before it begins
abbrev pub within : Range → ℕ → Option (Positions ℕ)
within (Lone position) len = if nat_lt position len then Some (positions position (position + 1)) else None
within (Between start end) len = if nat_le start len && nat_le start end then Some (positions start (min len end)) else None
within (From start) len = if nat_le start len then Some (positions start len) else None
