-- The tags of a file in the everyday profile: those of its lists (Multimedia Programming Interface and Data
-- Specifications 1.0, INFO List Chunk), and before them those of an ID3v2 tag. Which of them count is this
-- profile's.
use Rattle.std.specs.Prelude.{ℕ, List, [], ◌∷◌, Bool, true, false, ◌&&◌, ◌||◌, if◌then◌else◌, Option, Some, None, codes}
use Rattle.std.specs.List.{filter_map, find}
use Rattle.std.specs.Option.{option_or, option_and_then}
use Rattle.std.specs.Str.{is_utf8, bytes_eq}
use Rattle.mpd_text.specs.Songs.Song.{TagData}
use Rattle.mpd_text.specs.Songs.Tags.{tag_names, tag_with}
use Rattle.mpd_text.specs.declared.songs.song.TagName.{TagName}
use Rattle.mpd_text.specs.declared.songs.song.TagName.TheVariants.{Title, Artist, Album, Date, Genre, Comment, AlbumArtist, Track, Disc, Composer}
use Rattle.id3_tags.specs.declared.texts.Id3Texts.{Id3Texts}
use Rattle.id3_tags.specs.Texts.{no_texts, id3_texts}
use Rattle.id3_tags.specs.Windows.{windows_1252}
use Rattle.wave.specs.Chunks.{Chunk}
use Rattle.wave.specs.Texts.{is_whole, items, identifier, text_of, counts, tags_of}

-- the text in UTF-8 that bytes spell: in UTF-8, or else in Windows-1252
abbrev pub spelled : List ℕ → Option (List ℕ)
spelled bytes = if is_utf8 bytes then Some bytes else windows_1252 bytes

-- the text, if it is not skipped
abbrev pub counted : List ℕ → Option (List ℕ)
counted text = if counts text then Some text else None

-- the text of a content, if it is not skipped
unfoldable pub everyday_text : List ℕ → Option (List ℕ)
everyday_text content = option_and_then counted (spelled (text_of content))

-- the first text in the chunks of a name that lie within their lists, where contents are read in this way
abbrev pub first_named : (List ℕ → Option (List ℕ)) → List ℕ → List Chunk → Option (List ℕ)
first_named read name [] = None
first_named read name (item ∷ more) =
    option_or (if bytes_eq item.name name && is_whole item then read item.content else None) (first_named read name more)

-- the text that lists give of a tag; a track's number stands in an `ITRK`, or else in an `IPRT`
abbrev pub info_text : TagName → List Chunk → Option (List ℕ)
info_text Title found = first_named everyday_text (identifier Title) found
info_text Artist found = first_named everyday_text (identifier Artist) found
info_text Album found = first_named everyday_text (identifier Album) found
info_text Date found = first_named everyday_text (identifier Date) found
info_text Genre found = first_named everyday_text (identifier Genre) found
info_text Comment found = first_named everyday_text (identifier Comment) found
info_text AlbumArtist found = None
info_text Track found = option_or (first_named everyday_text (identifier Track) found) (first_named everyday_text (codes "IPRT") found)
info_text Disc found = None
info_text Composer found = first_named everyday_text (identifier Composer) found

-- a chunk for an ID3v2 tag
abbrev pub is_id3 : Chunk → Bool
is_id3 chunk = bytes_eq chunk.name (codes "id3 ") || bytes_eq chunk.name (codes "ID3 ")

-- the texts of the ID3v2 tag in a chunk, of which there are none where the chunk is cut off
abbrev pub id3_in : Option Chunk → Id3Texts
id3_in None = no_texts
id3_in (Some chunk) = if is_whole chunk then id3_texts chunk.content else no_texts

-- the texts of a file's ID3v2 tag, for which its first such chunk alone counts
abbrev pub id3_of : List Chunk → Id3Texts
id3_of parts = id3_in (find is_id3 parts)

-- the text that an ID3v2 tag gives of a tag
abbrev pub id3_text : TagName → Id3Texts → Option (List ℕ)
id3_text Title texts = texts.title
id3_text Artist texts = texts.artist
id3_text Album texts = texts.album
id3_text Date texts = texts.date
id3_text Genre texts = texts.genre
id3_text Comment texts = texts.comment
id3_text AlbumArtist texts = texts.album_artist
id3_text Track texts = texts.track
id3_text Disc texts = texts.disc
id3_text Composer texts = texts.composer

-- the text that a file's chunks give of a tag: that of the ID3v2 tag, or else that of the lists
abbrev pub tag_text_of : TagName → List Chunk → Option (List ℕ)
tag_text_of name parts = option_or (id3_text name (id3_of parts)) (info_text name (items parts))

-- the tags that a file's chunks give, in the order of answers
unfoldable pub everyday_tags : List Chunk → List TagData
everyday_tags parts = filter_map (λ name. tag_with name (tag_text_of name parts)) tag_names

-- the tags of a file, in the everyday profile or in the base profile
abbrev pub file_tags : Bool → List Chunk → List TagData
file_tags false parts = tags_of (items parts)
file_tags true parts = everyday_tags parts
