-- The names of tags that clients know (MPD protocol reference, Tags; that ASCII case is ignored, and what is
-- read of a song for those that songs have not, is this profile's).
use Rattle.std.specs.Prelude.{ℕ, List, [], ◌∷◌, codes, Option, Some, None, find}
use Rattle.std.specs.Str.{str_eq_ignore_ascii_case}
use Rattle.mpd_text.specs.Songs.Song.{SongData}
use Rattle.mpd_text.specs.Songs.Tags.{text_of_tag}
use Rattle.mpd_text.specs.declared.songs.song.TagName.{TagName}
use Rattle.mpd_text.specs.declared.songs.song.TagName.TheVariants as songs
use Rattle.known_tags.specs.declared.known_tag.KnownTag.{KnownTag}
use Rattle.known_tags.specs.declared.known_tag.KnownTag.TheVariants.{Artist, ArtistSort, Album, AlbumSort, AlbumArtist, AlbumArtistSort, Title, Track, Name, Genre, Date, OriginalDate, Composer, ComposerSort, Performer, Conductor, Work, Ensemble, Movement, MovementNumber, Location, Grouping, Comment, Disc, Label, MusicBrainzArtistId, MusicBrainzAlbumId, MusicBrainzAlbumArtistId, MusicBrainzTrackId, MusicBrainzReleaseTrackId, MusicBrainzWorkId}

-- all of them, in the order of the reference
abbrev pub known_tags : List KnownTag
known_tags =
    Artist ∷ ArtistSort ∷ Album ∷ AlbumSort ∷ AlbumArtist ∷ AlbumArtistSort ∷ Title ∷ Track ∷ Name ∷ Genre ∷ Date ∷ OriginalDate ∷ Composer ∷ ComposerSort ∷ Performer ∷ Conductor ∷ Work ∷ Ensemble ∷ Movement ∷ MovementNumber ∷ Location ∷ Grouping ∷ Comment ∷ Disc ∷ Label ∷ MusicBrainzArtistId ∷ MusicBrainzAlbumId ∷ MusicBrainzAlbumArtistId ∷ MusicBrainzTrackId ∷ MusicBrainzReleaseTrackId ∷ MusicBrainzWorkId ∷ []

-- the name as it is shown
abbrev pub text_of : KnownTag → List ℕ
text_of Artist = codes "Artist"
text_of ArtistSort = codes "ArtistSort"
text_of Album = codes "Album"
text_of AlbumSort = codes "AlbumSort"
text_of AlbumArtist = codes "AlbumArtist"
text_of AlbumArtistSort = codes "AlbumArtistSort"
text_of Title = codes "Title"
text_of Track = codes "Track"
text_of Name = codes "Name"
text_of Genre = codes "Genre"
text_of Date = codes "Date"
text_of OriginalDate = codes "OriginalDate"
text_of Composer = codes "Composer"
text_of ComposerSort = codes "ComposerSort"
text_of Performer = codes "Performer"
text_of Conductor = codes "Conductor"
text_of Work = codes "Work"
text_of Ensemble = codes "Ensemble"
text_of Movement = codes "Movement"
text_of MovementNumber = codes "MovementNumber"
text_of Location = codes "Location"
text_of Grouping = codes "Grouping"
text_of Comment = codes "Comment"
text_of Disc = codes "Disc"
text_of Label = codes "Label"
text_of MusicBrainzArtistId = codes "MUSICBRAINZ_ARTISTID"
text_of MusicBrainzAlbumId = codes "MUSICBRAINZ_ALBUMID"
text_of MusicBrainzAlbumArtistId = codes "MUSICBRAINZ_ALBUMARTISTID"
text_of MusicBrainzTrackId = codes "MUSICBRAINZ_TRACKID"
text_of MusicBrainzReleaseTrackId = codes "MUSICBRAINZ_RELEASETRACKID"
text_of MusicBrainzWorkId = codes "MUSICBRAINZ_WORKID"

-- the first of some tags that a word names, in any ASCII case
abbrev pub named : List ℕ → List KnownTag → Option KnownTag
named word tags = find (λ tag. str_eq_ignore_ascii_case word (text_of tag)) tags

-- the tag that a word names
unfoldable pub tag_of : List ℕ → Option KnownTag
tag_of word = named word known_tags

-- which of the ten tags of songs it is
abbrev pub base_of : KnownTag → Option TagName
base_of Artist = Some songs.Artist
base_of Album = Some songs.Album
base_of Title = Some songs.Title
base_of Genre = Some songs.Genre
base_of Date = Some songs.Date
base_of Comment = Some songs.Comment
base_of AlbumArtist = Some songs.AlbumArtist
base_of Track = Some songs.Track
base_of Disc = Some songs.Disc
base_of Composer = Some songs.Composer
base_of _ = None

-- which tag of a song is read for it
abbrev pub read_of : KnownTag → Option TagName
read_of ArtistSort = Some songs.Artist
read_of AlbumArtistSort = Some songs.AlbumArtist
read_of AlbumSort = Some songs.Album
read_of tag = base_of tag

abbrev pub text_read : Option TagName → SongData → List ℕ
text_read None song = []
text_read (Some name) song = text_of_tag name song.tags

-- the text that a song has of it
abbrev pub text_in : KnownTag → SongData → List ℕ
text_in tag song = text_read (read_of tag) song
