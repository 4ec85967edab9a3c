-- The texts of a file in the base profile (Multimedia Programming Interface and Data Specifications 1.0, INFO
-- List Chunk). Which texts are skipped is this profile's.
use Rattle.std.specs.Prelude.{◌≡◌, ℕ, List, [], ◌∷◌, length, take, drop, Bool, true, false, ◌&&◌, ◌==◌, nat_le, if◌then◌else◌, Option, Some, None, codes}
use Rattle.std.specs.List.{flat_map, filter_map, list_all, before_first}
use Rattle.std.specs.Str.{is_utf8, bytes_eq}
use Rattle.mpd_text.specs.Songs.Song.{TagData}
use Rattle.mpd_text.specs.Songs.Tags.{base_tag_names, tag_with}
use Rattle.mpd_text.specs.declared.songs.song.TagName.{TagName}
use Rattle.mpd_text.specs.declared.songs.song.TagName.TheVariants.{Title, Artist, Album, Date, Genre, Comment, AlbumArtist, Track, Disc, Composer}
use Rattle.wave.specs.Chunks.{Chunk, chunks}

-- nothing of the content is cut off
abbrev pub is_whole : Chunk → Bool
is_whole chunk = length chunk.content == chunk.size

-- a whole list of texts
abbrev pub is_info : Chunk → Bool
is_info chunk = bytes_eq chunk.name (codes "LIST") && is_whole chunk && bytes_eq (take 4 chunk.content) (codes "INFO")

-- the chunks within the lists of texts, each list after the other
abbrev pub items : List Chunk → List Chunk
items parts = flat_map (λ part. if is_info part then chunks (drop 4 part.content) else []) parts

-- The name of the chunks that hold a tag's texts. It is empty, as no chunk's is, where no chunk of a list holds
-- them. The base profile asks for its own tags alone.
abbrev pub identifier : TagName → List ℕ
identifier Title = codes "INAM"
identifier Artist = codes "IART"
identifier Album = codes "IPRD"
identifier Date = codes "ICRD"
identifier Genre = codes "IGNR"
identifier Comment = codes "ICMT"
identifier AlbumArtist = []
identifier Track = codes "ITRK"
identifier Disc = []
identifier Composer = codes "IMUS"

-- a text ends at its first zero byte, or with the content
abbrev pub text_of : List ℕ → List ℕ
text_of content = before_first (λ byte. byte == 0) content

-- a text that is not skipped
abbrev pub counts : List ℕ → Bool
counts text = nat_le 1 (length text) && nat_le (length text) 1024 && list_all (λ byte. nat_le 32 byte) text && is_utf8 text

-- the text is these bytes, and is not skipped
abbrev pub CountsAs : List ℕ → List ℕ → Type 0
CountsAs bytes text = (counts bytes ≡ true) × (text ≡ bytes)

-- the chunk lies within its list and holds a text of the tag that is not skipped
abbrev pub gives : TagName → Chunk → Bool
gives name item = bytes_eq item.name (identifier name) && is_whole item && counts (text_of item.content)

-- the first text of a tag
abbrev pub first_text : TagName → List Chunk → Option (List ℕ)
first_text name [] = None
first_text name (item ∷ more) = if gives name item then Some (text_of item.content) else first_text name more

-- the tags of the base profile that the chunks of lists give, in the order of answers
abbrev pub tags_of : List Chunk → List TagData
tags_of found = filter_map (λ name. tag_with name (first_text name found)) base_tag_names
