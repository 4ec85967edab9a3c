-- The columns by which songs are ordered and grouped (MPD protocol reference, Tags; that a tag which no song
-- has is the empty text of each is this profile's).
use Rattle.std.specs.Prelude.{ℕ, Bool, List, [], map, nat_eq, Option, Some, None}
use Rattle.std.specs.List.{filter}
use lib.Pointwise.{pointwise}
use Rattle.mpd_text.specs.Songs.Song.{SongData}
use Rattle.mpd_text.specs.Songs.Tags.{text_of_tag}
use Rattle.mpd_text.specs.declared.songs.song.TagName.{TagName}

-- the text that a song has in a column: that of a tag, or the empty one in a column that no song has
abbrev pub text_in : Option TagName → SongData → List ℕ
text_in None song = []
text_in (Some name) song = text_of_tag name song.tags

-- the texts of some songs, song by song
abbrev pub texts_in : Option TagName → List SongData → List (List ℕ)
texts_in column songs = map (text_in column) songs

-- whether a song has a text in a column
abbrev pub has_text : Option TagName → List ℕ → SongData → Bool
has_text column text song = pointwise nat_eq (text_in column song) text

-- the songs that have it, in the order that they have
abbrev pub with_text : Option TagName → List ℕ → List SongData → List SongData
with_text column text songs = filter (has_text column text) songs
