-- Times in arguments (MPD protocol reference, Playback control: `seek`; how many digits there may be is this
-- profile's).
use Rattle.std.specs.Prelude.{ℕ, ◌+◌, ◌-◌, ◌*◌, List, [], ◌∷◌, length, Option, Some, None, nat_le, if◌then◌else◌}
use Rattle.mpd_text.specs.Answers.Number.{is_digits, number_of}
use Rattle.mpd_text.specs.Answers.Range.{has_byte, before, after}
use Rattle.mpd_text.specs.declared.answers.times.Millis.{Millis}

-- at most nine digits
unfoldable pub seconds_of : List ℕ → Option ℕ
seconds_of text = if nat_le (length text) 9 then number_of text else None

-- the first three digits after a point, in thousandths
abbrev pub thousandths : List ℕ → ℕ
thousandths [] = 0
thousandths (a ∷ []) = (a - 48) * 100
thousandths (a ∷ b ∷ []) = (a - 48) * 100 + (b - 48) * 10
thousandths (a ∷ b ∷ c ∷ more) = (a - 48) * 100 + (b - 48) * 10 + (c - 48)

unfoldable pub fraction_of : List ℕ → Option ℕ
fraction_of text = if is_digits text then Some (thousandths text) else None

abbrev pub millis : ℕ → Option Millis
millis n = Some (record { 0 = n })

abbrev pub with_fraction : Option ℕ → Option ℕ → Option Millis
with_fraction None fraction = None
with_fraction (Some seconds) None = None
with_fraction (Some seconds) (Some fraction) = millis (seconds * 1000 + fraction)

abbrev pub whole : Option ℕ → Option Millis
whole None = None
whole (Some seconds) = millis (seconds * 1000)

-- digits, then perhaps a point and digits
unfoldable pub millis_of : List ℕ → Option Millis
millis_of text = if has_byte 46 text then with_fraction (seconds_of (before 46 text)) (fraction_of (after 46 text)) else whole (seconds_of text)
