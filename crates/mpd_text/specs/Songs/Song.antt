-- What a song is (MPD protocol reference, The music database and Tags).
use Rattle.std.specs.Prelude.{ℕ, List}
use Rattle.mpd_text.specs.declared.songs.song.TagName.{TagName}

-- a tag and its text
pub record TagData : Type 0 where
  pub name : TagName
  pub text : List ℕ

-- a song's URI, its tags in order, and how many frames it has
pub record SongData : Type 0 where
  pub uri : List ℕ
  pub tags : List TagData
  pub frames : ℕ

-- the song of this URI, these tags and so many frames
abbrev pub song_data : List ℕ → List TagData → ℕ → SongData
song_data uri tags frames = record { uri = uri; tags = tags; frames = frames }
