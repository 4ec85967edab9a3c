-- What the bytes of a WAVE file mean (Multimedia Programming Interface and Data Specifications 1.0, Waveform
-- Audio File Format). What is refused, and in which order, is this profile's.
use Rattle.std.specs.Prelude.{ℕ, List, [], ◌∷◌, length, take, drop, Bool, ◌&&◌, nat_le, if◌then◌else◌, Option, Some, None, Result, Ok, Err, codes, slice_range, ℤ}
use Rattle.std.specs.Str.{bytes_eq}
use Rattle.mpd_text.specs.Songs.Song.{TagData}
use Rattle.wave.specs.declared.fault.WaveFault.{WaveFault}
use Rattle.wave.specs.declared.fault.WaveFault.TheVariants.{NotRiff, NoFormat, Unsupported, NoData}
use Rattle.wave.specs.declared.format.Layout.{Layout}
use Rattle.wave.specs.Chunks.{Chunk, chunks}
use Rattle.wave.specs.Formats.{layout_of, frames_of}
use Rattle.wave.specs.Texts.{is_whole}
use Rattle.wave.specs.Everyday.{file_tags}

abbrev pub is_riff : List ℕ → Bool
is_riff bytes = nat_le 12 (length bytes) && bytes_eq (take 4 bytes) (codes "RIFF") && bytes_eq (slice_range bytes 8 12) (codes "WAVE")

abbrev pub is_data : Chunk → Bool
is_data chunk = bytes_eq chunk.name (codes "data")

abbrev pub is_format : Chunk → Bool
is_format chunk = bytes_eq chunk.name (codes "fmt ") && is_whole chunk

-- the content of the first whole format, as far as it counts, if it comes before all data
abbrev pub format_of : List Chunk → Option (List ℕ)
format_of [] = None
format_of (chunk ∷ more) = if is_data chunk then None else (if is_format chunk then Some (take 40 chunk.content) else format_of more)

-- what is there of the first data
abbrev pub data_of : List Chunk → Option (List ℕ)
data_of [] = None
data_of (chunk ∷ more) = if is_data chunk then Some chunk.content else data_of more

-- how samples lie in the data, and the data
pub record Sound : Type 0 where
  pub layout : Layout
  pub samples : List ℕ

-- what a file means: how its samples lie, its tags in order, and its frames
pub record Wave : Type 0 where
  pub layout : Layout
  pub tags : List TagData
  pub frames : List (List ℤ)

abbrev pub with_layout : Option Layout → Option (List ℕ) → Result Sound WaveFault
with_layout (Some layout) (Some samples) = Ok (record { layout = layout; samples = samples })
with_layout (Some layout) None = Err NoData
with_layout None samples = Err Unsupported

abbrev pub with_format : ℕ → Option (List ℕ) → Option (List ℕ) → Result Sound WaveFault
with_format rate (Some content) samples = with_layout (layout_of rate content) samples
with_format rate None samples = Err NoFormat

-- the sound of a file's chunks at this rate, or the first refusal
unfoldable pub sound_of : ℕ → List Chunk → Result Sound WaveFault
sound_of rate parts = with_format rate (format_of parts) (data_of parts)

abbrev pub with_tags : List TagData → Result Sound WaveFault → Result Wave WaveFault
with_tags tags (Ok sound) = Ok (record { layout = sound.layout; tags = tags; frames = frames_of sound.layout sound.samples })
with_tags tags (Err fault) = Err fault

-- what the bytes mean at this rate, in the everyday profile or in the base profile; or the first refusal
unfoldable pub wave_of : Bool → ℕ → List ℕ → Result Wave WaveFault
wave_of everyday rate bytes =
    if is_riff (take 12 bytes) then with_tags (file_tags everyday (chunks (drop 12 bytes))) (sound_of rate (chunks (drop 12 bytes))) else Err NotRiff
