-- What becomes of a library by a scan.
use Rattle.std.specs.Prelude.{ℕ, Bool, List, unwrap_or, if◌then◌else◌}
use lib.Pointwise.{pointwise}
use Rattle.mpd_text.specs.Songs.Song.{SongData}
use Rattle.player_state.specs.declared.scan.ScanMove.{ScanMove}
use Rattle.player_state.specs.declared.scan.ScanMove.TheVariants.{Stay, Begin, End}
use Rattle.player_state.specs.declared.state.Library.{Library}
use Rattle.player_state.specs.Scans.{scan_after}
use Rattle.song_queue.specs.Entries.{same_song}

-- whether two libraries have the same songs
unfoldable pub same_songs : List SongData → List SongData → Bool
same_songs = pointwise same_song

-- the songs that a scan which ran found take the place of those before; a scan that failed leaves them
abbrev pub songs_after : Library → ScanMove → List SongData
songs_after library Stay = library.songs
songs_after library Begin = library.songs
songs_after library (End songs second) = if library.scan.runs then unwrap_or songs library.songs else library.songs

-- when the songs last changed, where a scan has ended: now if it found others, else when they had before
abbrev pub second_after : List SongData → List SongData → ℕ → ℕ → ℕ
second_after before after second updated = if same_songs before after then updated else second

abbrev pub updated_after : Library → ScanMove → ℕ
updated_after library (End songs second) = second_after library.songs (songs_after library (End songs second)) second library.updated
updated_after library _ = library.updated

abbrev pub library_after : Library → ScanMove → Library
library_after library scan_move = record library { songs = songs_after library scan_move; scan = scan_after library.scan scan_move; updated = updated_after library scan_move }
