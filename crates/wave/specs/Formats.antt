-- What a format chunk says (Multimedia Programming Interface and Data Specifications 1.0, WAVE Format Chunk;
-- Multiple Channel Audio Data and WAVE Files, WAVEFORMATEXTENSIBLE). Which formats are played is this
-- profile's.
use Rattle.std.specs.Prelude.{ℕ, ◌+◌, ◌*◌, ◌/◌, List, [], ◌∷◌, length, map, Bool, ◌&&◌, ◌||◌, ◌==◌, nat_le, if◌then◌else◌, Option, Some, None, slice_range, slice_index, ℤ}
use Rattle.std.specs.List.{range_with_len}
use Rattle.std.specs.Str.{bytes_eq}
use Rattle.wave.specs.declared.format.Layout.{Layout}
use Rattle.pcm_mix.specs.declared.layout.Depth.{Depth}
use Rattle.pcm_mix.specs.declared.layout.Depth.TheVariants.{Eight, Sixteen, TwentyFour}
use Rattle.pcm_mix.specs.declared.layout.Channels.{Channels}
use Rattle.pcm_mix.specs.declared.layout.Channels.TheVariants.{Mono, Stereo}
use Rattle.pcm_mix.specs.Layouts.{width, count, frame_at}

-- the numbers of two and of four bytes at an offset, the low byte first
abbrev pub short_at : List ℕ → ℕ → ℕ
short_at bytes at = slice_index bytes at + 256 * slice_index bytes (at + 1)

abbrev pub long_at : List ℕ → ℕ → ℕ
long_at bytes at = slice_index bytes at + 256 * slice_index bytes (at + 1) + 65536 * slice_index bytes (at + 2) + 16777216 * slice_index bytes (at + 3)

-- the tag of PCM, or the extensible one with the GUID of PCM
abbrev pub is_pcm : List ℕ → Bool
is_pcm content = (short_at content 0 == 1) || (short_at content 0 == 65534 && nat_le 40 (length content)
    && bytes_eq (slice_range content 24 40) (1 ∷ 0 ∷ 0 ∷ 0 ∷ 0 ∷ 0 ∷ 16 ∷ 0 ∷ 128 ∷ 0 ∷ 0 ∷ 170 ∷ 0 ∷ 56 ∷ 155 ∷ 113 ∷ []))

abbrev pub depth_of : ℕ → Option Depth
depth_of bits = if bits == 8 then Some Eight else (if bits == 16 then Some Sixteen else (if bits == 24 then Some TwentyFour else None))

abbrev pub channels_of : ℕ → Option Channels
channels_of number = if number == 1 then Some Mono else (if number == 2 then Some Stereo else None)

-- bytes of a frame
abbrev pub block : Layout → ℕ
block layout = width layout.depth * count layout.channels

-- the layout of this depth and these channels, where the block align agrees with them
abbrev pub aligned : ℕ → Option Depth → Option Channels → Option Layout
aligned align (Some depth) (Some channels) = if align == width depth * count channels then Some (record { depth = depth; channels = channels }) else None
aligned align (Some depth) None = None
aligned align None channels = None

-- The layout that a format's content gives, where it is played at this rate. At 0 is the tag, at 2 the number
-- of channels, at 4 the rate, at 12 the block align, at 14 the bits of a sample.
unfoldable pub layout_of : ℕ → List ℕ → Option Layout
layout_of rate content =
    if nat_le 16 (length content) && is_pcm content && long_at content 4 == rate
    then aligned (short_at content 12) (depth_of (short_at content 14)) (channels_of (short_at content 2)) else None

-- the whole frames of the data
abbrev pub frames_of : Layout → List ℕ → List (List ℤ)
frames_of layout samples = map (frame_at layout.depth layout.channels samples) (range_with_len 0 (length samples / block layout))
