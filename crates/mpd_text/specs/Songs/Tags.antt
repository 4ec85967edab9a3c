-- The tags: their order, their numbers, and the names that they are shown by (MPD protocol reference, Tags).
use Rattle.std.specs.Prelude.{ℕ, ◌==◌, List, [], ◌∷◌, codes, Option, Some, None, if◌then◌else◌}
use Rattle.mpd_text.specs.Songs.Song.{TagData}
use Rattle.mpd_text.specs.declared.songs.song.TagName.{TagName}
use Rattle.mpd_text.specs.declared.songs.song.TagName.TheVariants.{Title, Artist, Album, Date, Genre, Comment, AlbumArtist, Track, Disc, Composer}

-- all tags, in the order in which answers show them
abbrev pub tag_names : List TagName
tag_names = Title ∷ Artist ∷ Album ∷ Date ∷ Genre ∷ Comment ∷ AlbumArtist ∷ Track ∷ Disc ∷ Composer ∷ []

-- the tags of the base profile, in the same order
abbrev pub base_tag_names : List TagName
base_tag_names = Title ∷ Artist ∷ Album ∷ Date ∷ Genre ∷ Comment ∷ []

-- the index of a tag in that order, by which tags are told apart
abbrev pub tag_number : TagName → ℕ
tag_number Title = 0
tag_number Artist = 1
tag_number Album = 2
tag_number Date = 3
tag_number Genre = 4
tag_number Comment = 5
tag_number AlbumArtist = 6
tag_number Track = 7
tag_number Disc = 8
tag_number Composer = 9

-- the name that a tag is shown by
abbrev pub tag_text : TagName → List ℕ
tag_text Title = codes "Title"
tag_text Artist = codes "Artist"
tag_text Album = codes "Album"
tag_text Date = codes "Date"
tag_text Genre = codes "Genre"
tag_text Comment = codes "Comment"
tag_text AlbumArtist = codes "AlbumArtist"
tag_text Track = codes "Track"
tag_text Disc = codes "Disc"
tag_text Composer = codes "Composer"

-- the tag with its text, where there is one
abbrev pub tag_with : TagName → Option (List ℕ) → Option TagData
tag_with name None = None
tag_with name (Some text) = Some (record { name = name; text = text })

-- the text of the first tag of a name, or another text where there is none
abbrev pub text_or : List ℕ → TagName → List TagData → List ℕ
text_or other name [] = other
text_or other name (tag ∷ tags) = if tag_number tag.name == tag_number name then tag.text else text_or other name tags

-- the text that a song has of a tag: that of its first tag of the name. Without one it is empty, but the artist
-- of an album is then the artist
abbrev pub text_of_tag : TagName → List TagData → List ℕ
text_of_tag AlbumArtist tags = text_or (text_or [] Artist tags) AlbumArtist tags
text_of_tag name tags = text_or [] name tags
