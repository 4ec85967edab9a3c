-- What a block is: the frames of a job as they are handed to the outputs (this profile's).
use Rattle.std.specs.Prelude.{ℕ, ℤ, ◌≡◌, ◌+◌, ◌≤◌, List, [], Option, Some, None, map, length, slice_index_or}
use Rattle.std.specs.List.{range_with_len}
use Rattle.pcm_mix.specs.Samples.{faded_frame, gained}

-- the frames of another song that a block fades into, which frame of the fade its first one is, and how many
-- the whole fade has
pub record FadingData : Type 0 where
  pub others : List (List ℤ)
  pub offset : ℕ
  pub len : ℕ

-- the other song has as many frames, and all of them are the fade's
abbrev pub IsWithin : ℕ → Option FadingData → Type 0
IsWithin count None = Unit {0}
IsWithin count (Some fading) = (length fading.others ≡ count) × (fading.offset + count ≤ fading.len)

-- frame i of a block: faded first, then set to the volume
abbrev pub mixed_frame : Option FadingData → ℕ → List (List ℤ) → ℕ → List ℤ
mixed_frame None volume frames i = map (gained volume) (slice_index_or frames i [])
mixed_frame (Some fading) volume frames i =
    map (gained volume) (faded_frame fading.len (fading.offset + i) (slice_index_or frames i []) (slice_index_or fading.others i []))

abbrev pub block_of : Option FadingData → ℕ → List (List ℤ) → List (List ℤ)
block_of fading volume frames = map (mixed_frame fading volume frames) (range_with_len 0 (length frames))
