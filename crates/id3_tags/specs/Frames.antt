-- The frames of a tag, and their contents (ID3 tag version 2, ID3v2 frames; version 2.3.0 and version 2.4.0,
-- Frame header and Frame header flags). Which frames are skipped is this profile's.
use Rattle.std.specs.Prelude.{ℕ, zero, suc, ◌+◌, ◌*◌, List, [], ◌∷◌, length, take, drop, Bool, false, ◌&&◌, ◌||◌, ◌==◌, nat_le, if◌then◌else◌, Option, Some, None, slice_index}
use Rattle.std.specs.List.{list_all}
use Rattle.std.specs.Char.{is_ascii_uppercase, is_ascii_digit}
use Rattle.id3_tags.specs.declared.tag.Version.{Version}
use Rattle.id3_tags.specs.declared.tag.Version.TheVariants.{Two, Three, Four}
use Rattle.id3_tags.specs.Tags.{is_set, number_at, syncsafe_at}

-- a frame: its identifier, the flags that say how its content is kept (none in version 2.2), and its bytes
-- after the header
pub record Id3Frame : Type 0 where
  pub identifier : List ℕ
  pub flags : ℕ
  pub body : List ℕ

-- how many bytes an identifier has
abbrev pub identifier_len : Version → ℕ
identifier_len Two = 3
identifier_len Three = 4
identifier_len Four = 4

-- how many bytes stand before a frame's bytes: identifier, size, and two of flags from version 2.3 on
abbrev pub header_len : Version → ℕ
header_len Two = 6
header_len Three = 10
header_len Four = 10

-- an identifier is made of ASCII capitals and digits
abbrev pub is_identifier : List ℕ → Bool
is_identifier bytes = list_all (λ byte. is_ascii_uppercase byte || is_ascii_digit byte) bytes

-- the size that a frame's header says; none where it is not syncsafe and has to be
abbrev pub frame_size : Version → List ℕ → Option ℕ
frame_size Two header = Some ((slice_index header 3 * 256 + slice_index header 4) * 256 + slice_index header 5)
frame_size Three header = Some (number_at 256 header 4)
frame_size Four header = syncsafe_at header 4

-- the second byte of flags
abbrev pub frame_flags : Version → List ℕ → ℕ
frame_flags Two header = 0
frame_flags Three header = slice_index header 9
frame_flags Four header = slice_index header 9

-- the frame of this header and size whose bytes stand at the start of these, and what follows it
abbrev pub frame_of : Version → List ℕ → Option ℕ → List ℕ → Option (Id3Frame × List ℕ)
frame_of version header None rest = None
frame_of version header (Some size) rest =
    if nat_le size (length rest) && is_identifier (take (identifier_len version) header)
    then Some (record { identifier = take (identifier_len version) header; flags = frame_flags version header; body = take size rest }, drop size rest) else None

-- the frame at the start and what follows it, if one begins there
unfoldable pub first_frame : Version → List ℕ → Option (Id3Frame × List ℕ)
first_frame version bytes =
    if nat_le (header_len version) (length bytes)
    then frame_of version (take (header_len version) bytes) (frame_size version (take (header_len version) bytes)) (drop (header_len version) bytes) else None

-- a frame before those of the rest
abbrev pub before_more : (List ℕ → List Id3Frame) → Option (Id3Frame × List ℕ) → List Id3Frame
before_more more None = []
before_more more (Some found) = found.0 ∷ more found.1

-- the frames, of which there are at most so many
unfoldable pub frames_up_to : ℕ → Version → List ℕ → List Id3Frame
frames_up_to zero version bytes = []
frames_up_to (suc most) version bytes = before_more (frames_up_to most version) (first_frame version bytes)

-- the frames that follow one another from the start of the bytes
unfoldable pub frames : Version → List ℕ → List Id3Frame
frames version bytes = frames_up_to (length bytes) version bytes

-- the byte of a group's mark, where a frame is in a group
abbrev pub group_len : Bool → ℕ
group_len in_group = if in_group then 1 else 0

-- the four bytes of the length of the data, where it is said
abbrev pub data_len : Bool → ℕ
data_len is_said = if is_said then 4 else 0

-- how many bytes stand before a frame's content; none where it is compressed or encrypted, and so not read
abbrev pub before_content : Version → ℕ → Option ℕ
before_content Two flags = Some 0
before_content Three flags = if is_set flags 128 || is_set flags 64 then None else Some (group_len (is_set flags 32))
before_content Four flags = if is_set flags 8 || is_set flags 4 then None else Some (group_len (is_set flags 64) + data_len (is_set flags 1))

-- the frame's own flags say that its content is unsynchronised
abbrev pub is_unsynchronised : Version → ℕ → Bool
is_unsynchronised Two flags = false
is_unsynchronised Three flags = false
is_unsynchronised Four flags = is_set flags 2

-- the bytes after another one, without each 0x00 that stands directly after 0xFF
abbrev pub synchronised_after : ℕ → List ℕ → List ℕ
synchronised_after last [] = []
synchronised_after last (byte ∷ bytes) = if last == 255 && byte == 0 then synchronised_after byte bytes else byte ∷ synchronised_after byte bytes

-- the bytes before they were unsynchronised
abbrev pub synchronised : List ℕ → List ℕ
synchronised bytes = synchronised_after 0 bytes

-- the bytes of the content from an offset on, if there are so many
abbrev pub content_from : Bool → Option ℕ → List ℕ → Option (List ℕ)
content_from unsynchronised None body = None
content_from unsynchronised (Some before) body =
    if nat_le before (length body) then Some (if unsynchronised then synchronised (drop before body) else drop before body) else None

-- the content of a frame, if it is read
unfoldable pub content_of : Version → Bool → Id3Frame → Option (List ℕ)
content_of version unsynchronised frame =
    content_from (unsynchronised || is_unsynchronised version frame.flags) (before_content version frame.flags) frame.body
