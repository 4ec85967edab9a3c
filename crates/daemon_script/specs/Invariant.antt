-- What is true of each script.
use Rattle.std.specs.Prelude.{◌≡◌, ◌<◌, ◌≤◌, List, length, false}
use Rattle.mpd_text.specs.Songs.Song.{SongData}
use Rattle.song_db.specs.Library.{is_twice_named}
use Rattle.partition.specs.declared.state.Limits.{Limits}

-- versions begin at 1, cuts are below 2 ^ 63, a window has room for an event, and the collected songs make a
-- library
pub record IsScript (limits : Limits) (songs : List SongData) : Type 0 where
  pub version : 1 ≤ limits.max_version
  pub cut : limits.max_cut < 9223372036854775808
  pub history : 1 ≤ limits.history
  pub few : length songs ≤ 100000
  pub distinct : is_twice_named songs ≡ false
