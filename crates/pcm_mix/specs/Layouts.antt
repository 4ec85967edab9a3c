-- How samples lie in bytes: in the data of a file (RIFF WAVE, "Data Format of the Samples"), and at an output
-- (this profile's).
use Rattle.std.specs.Prelude.{◌%◌, ◌/◌, ◌++◌, ℕ, ◌+◌, ◌*◌, List, [], ◌∷◌, ℤ, pos, ◌-ℤ◌, ◌*ℤ◌, nat_lt, slice_index, if◌then◌else◌}
use Rattle.std.specs.Int.{int_div_euclid, cast_unsigned, w16}
use Rattle.pcm_mix.specs.Samples.{left, right}
use Rattle.pcm_mix.specs.declared.layout.Depth.{Depth}
use Rattle.pcm_mix.specs.declared.layout.Depth.TheVariants.{Eight, Sixteen, TwentyFour}
use Rattle.pcm_mix.specs.declared.layout.Channels.{Channels}
use Rattle.pcm_mix.specs.declared.layout.Channels.TheVariants.{Mono, Stereo}

-- bytes of a sample
abbrev pub width : Depth → ℕ
width Eight = 1
width Sixteen = 2
width TwentyFour = 3

-- samples of a frame
abbrev pub count : Channels → ℕ
count Mono = 1
count Stereo = 2

-- the signed number with these bits: those from half on are negative
abbrev pub signed : ℕ → ℕ → ℤ
signed half n = if nat_lt n half then pos n else (pos n -ℤ pos (2 * half))

-- the two bytes from an offset on as a number, the low one first
abbrev pub word_at : List ℕ → ℕ → ℕ
word_at bytes at = slice_index bytes at + 256 * slice_index bytes (at + 1)

-- frame j of samples by their bits, the left one first
abbrev pub pair_at : List ℕ → ℕ → List ℤ
pair_at words j = signed 32768 (slice_index words (2 * j)) ∷ signed 32768 (slice_index words (2 * j + 1)) ∷ []

-- The sample whose bytes begin at an offset, the low byte first. 8 bits have silence at 128 and become the
-- upper byte; of 24 bits the upper 16 are taken, so that the rest is rounded down.
abbrev pub sample_at : Depth → List ℕ → ℕ → ℤ
sample_at Eight bytes at = (pos (slice_index bytes at) -ℤ pos 128) *ℤ pos 256
sample_at Sixteen bytes at = signed 32768 (slice_index bytes at + 256 * slice_index bytes (at + 1))
sample_at TwentyFour bytes at =
    int_div_euclid (signed 8388608 (slice_index bytes at + 256 * slice_index bytes (at + 1) + 65536 * slice_index bytes (at + 2))) (pos 256)

-- frame k of the data, the left sample first; one channel is given to both sides
abbrev pub frame_at : Depth → Channels → List ℕ → ℕ → List ℤ
frame_at depth Mono bytes k = sample_at depth bytes (k * width depth) ∷ sample_at depth bytes (k * width depth) ∷ []
frame_at depth Stereo bytes k =
    sample_at depth bytes (k * (2 * width depth)) ∷ sample_at depth bytes (k * (2 * width depth) + width depth) ∷ []

-- the two bytes of a sample, the low one first
abbrev pub sample_bytes : ℤ → List ℕ
sample_bytes sample = cast_unsigned w16 sample % 256 ∷ cast_unsigned w16 sample / 256 ∷ []

-- the four bytes of a frame at an output, the left sample first
abbrev pub frame_bytes : List ℤ → List ℕ
frame_bytes frame = sample_bytes (left frame) ++ sample_bytes (right frame)
