-- A tag, and where its frames lie (ID3 tag version 2, ID3v2 header; version 2.3.0 and version 2.4.0, ID3v2
-- header and Extended header). Which tags are skipped is this profile's.
use Rattle.std.specs.Prelude.{ℕ, ◌+◌, ◌*◌, List, [], length, take, drop, Bool, true, false, not, ◌&&◌, ◌==◌, nat_eq, nat_lt, nat_le, bit_and, if◌then◌else◌, Option, Some, None, slice_index, codes}
use Rattle.std.specs.List.{starts_with}
use Rattle.id3_tags.specs.declared.tag.Version.{Version}
use Rattle.id3_tags.specs.declared.tag.Version.TheVariants.{Two, Three, Four}

-- whether a flag is set, which is given as the byte that has it alone
abbrev pub is_set : ℕ → ℕ → Bool
is_set flags flag = not (bit_and flags flag == 0)

-- the number of four digits to a base, from an offset on and the highest first
abbrev pub number_at : ℕ → List ℕ → ℕ → ℕ
number_at base bytes at = ((slice_index bytes at * base + slice_index bytes (at + 1)) * base + slice_index bytes (at + 2)) * base + slice_index bytes (at + 3)

-- whether the highest bit is set in none of the four bytes from an offset on
abbrev pub is_syncsafe : List ℕ → ℕ → Bool
is_syncsafe bytes at = nat_lt (slice_index bytes at) 128 && nat_lt (slice_index bytes (at + 1)) 128 && nat_lt (slice_index bytes (at + 2)) 128
    && nat_lt (slice_index bytes (at + 3)) 128

-- the syncsafe number from an offset on, of seven bits in each byte
abbrev pub syncsafe_at : List ℕ → ℕ → Option ℕ
syncsafe_at bytes at = if is_syncsafe bytes at then Some (number_at 128 bytes at) else None

-- a tag: its version, whether all its frames' contents are unsynchronised, and the bytes of its frames
pub record Id3Tag : Type 0 where
  pub version : Version
  pub unsynchronised : Bool
  pub frames : List ℕ

-- the version with this major number
abbrev pub version_of : ℕ → Option Version
version_of number = if number == 2 then Some Two else (if number == 3 then Some Three else (if number == 4 then Some Four else None))

-- A tag with these flags is read: up to version 2.3 none that is unsynchronised as a whole (0x80), and in
-- version 2.2 none that is compressed (0x40).
abbrev pub is_read : Version → ℕ → Bool
is_read Two flags = not (is_set flags 128) && not (is_set flags 64)
is_read Three flags = not (is_set flags 128)
is_read Four flags = true

-- the flags say that each frame's content is unsynchronised
abbrev pub says_unsynchronised : Version → ℕ → Bool
says_unsynchronised Two flags = false
says_unsynchronised Three flags = false
says_unsynchronised Four flags = is_set flags 128

-- the bytes after as many as a size says; none where there is no such size
abbrev pub after_size : Option ℕ → List ℕ → List ℕ
after_size None body = []
after_size (Some size) body = drop size body

-- The bytes after an extended header, of which none are left where its size goes past them. In version 2.3
-- the size does not count its own four bytes, and is not syncsafe.
abbrev pub after_extended : Version → List ℕ → List ℕ
after_extended Two body = body
after_extended Three body = if nat_lt (length body) 4 then [] else drop (4 + number_at 256 body 0) body
after_extended Four body = if nat_lt (length body) 4 then [] else after_size (syncsafe_at body 0) body

-- the bytes of the frames, which stand after the extended header where the flags say that there is one
unfoldable pub frames_in : Version → ℕ → List ℕ → List ℕ
frames_in version flags body = if is_set flags 64 then after_extended version body else body

-- the tag of this version, with these flags and this size, whose body stands at the start of these bytes
abbrev pub tag_of : Option Version → ℕ → Option ℕ → List ℕ → Option Id3Tag
tag_of (Some version) flags (Some size) rest =
    if is_read version flags
    then Some (record { version = version; unsynchronised = says_unsynchronised version flags; frames = frames_in version flags (take size rest) }) else None
tag_of (Some version) flags None rest = None
tag_of None flags size rest = None

-- there are the ten bytes of a head, and the first three are `ID3`
abbrev pub begins_tag : List ℕ → Bool
begins_tag chunk = nat_le 10 (length chunk) && starts_with nat_eq chunk (codes "ID3")

-- The tag that a chunk holds, if it is read: `ID3`, the major version, a revision, the flags, and the size of
-- what follows these ten bytes.
unfoldable pub tag_in : List ℕ → Option Id3Tag
tag_in chunk =
    if begins_tag chunk then tag_of (version_of (slice_index chunk 3)) (slice_index chunk 5) (syncsafe_at chunk 6) (drop 10 chunk) else None

-- the ten bytes of a head and as many as it says; none where it says no size
abbrev pub with_head : Option ℕ → ℕ
with_head None = 0
with_head (Some size) = 10 + size

-- How many bytes from the start of a chunk a tag takes, as its first ten bytes say it. There are none where
-- these are no head of a tag.
unfoldable pub tag_len : List ℕ → ℕ
tag_len chunk = if begins_tag chunk then with_head (syncsafe_at chunk 6) else 0
