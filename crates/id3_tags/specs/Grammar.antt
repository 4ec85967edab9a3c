-- Bytes as frames (ID3 tag version 2, ID3v2 frames; version 2.3.0 and version 2.4.0, ID3v2 frame overview).
use Rattle.std.specs.Prelude.{◌≡◌, ℕ, true, List, [], ◌∷◌, ◌++◌, length, take, Some}
use Rattle.id3_tags.specs.declared.tag.Version.{Version}
use Rattle.id3_tags.specs.Frames.{Id3Frame, header_len, identifier_len, is_identifier, frame_size, frame_flags}

-- the bytes are a header, the bytes of this frame, of which the header says how many there are, and the rest
abbrev pub StartsWithFrame : Version → List ℕ → Id3Frame → List ℕ → Type 0
StartsWithFrame version bytes frame rest = (header : List ℕ) × (bytes ≡ header ++ (frame.body ++ rest)) × (length header ≡ header_len version)
    × (frame.identifier ≡ take (identifier_len version) header) × (is_identifier frame.identifier ≡ true)
    × (frame_size version header ≡ Some (length frame.body)) × (frame.flags ≡ frame_flags version header)

-- These are the frames that the bytes are made of, one after another, before bytes that no frame begins.
abbrev pub AreFrames : Version → List ℕ → List Id3Frame → Type 0
AreFrames version bytes [] = (frame : Id3Frame) (rest : List ℕ) → StartsWithFrame version bytes frame rest → ⊥
AreFrames version bytes (frame ∷ more) = (rest : List ℕ) × StartsWithFrame version bytes frame rest × AreFrames version rest more
