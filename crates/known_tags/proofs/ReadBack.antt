-- Each name is read back as its tag.
use Rattle.std.proofs.Common.{◌≡◌, Some, refl}
use Rattle.known_tags.specs.declared.known_tag.KnownTag.{KnownTag}
use Rattle.known_tags.specs.declared.known_tag.KnownTag.TheVariants.{Artist, ArtistSort, Album, AlbumSort, AlbumArtist, AlbumArtistSort, Title, Track, Name, Genre, Date, OriginalDate, Composer, ComposerSort, Performer, Conductor, Work, Ensemble, Movement, MovementNumber, Location, Grouping, Comment, Disc, Label, MusicBrainzArtistId, MusicBrainzAlbumId, MusicBrainzAlbumArtistId, MusicBrainzTrackId, MusicBrainzReleaseTrackId, MusicBrainzWorkId}
use Rattle.known_tags.specs.KnownTags.{text_of, tag_of}

pub read-back : (tag : KnownTag) → tag_of (text_of tag) ≡ Some tag
unfolding tag_of
read-back Artist = refl
read-back ArtistSort = refl
read-back Album = refl
read-back AlbumSort = refl
read-back AlbumArtist = refl
read-back AlbumArtistSort = refl
read-back Title = refl
read-back Track = refl
read-back Name = refl
read-back Genre = refl
read-back Date = refl
read-back OriginalDate = refl
read-back Composer = refl
read-back ComposerSort = refl
read-back Performer = refl
read-back Conductor = refl
read-back Work = refl
read-back Ensemble = refl
read-back Movement = refl
read-back MovementNumber = refl
read-back Location = refl
read-back Grouping = refl
read-back Comment = refl
read-back Disc = refl
read-back Label = refl
read-back MusicBrainzArtistId = refl
read-back MusicBrainzAlbumId = refl
read-back MusicBrainzAlbumArtistId = refl
read-back MusicBrainzTrackId = refl
read-back MusicBrainzReleaseTrackId = refl
read-back MusicBrainzWorkId = refl
