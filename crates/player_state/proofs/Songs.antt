-- Two lists of songs that are one.
use Rattle.std.proofs.Common.{◌≡◌, true, false, not, List, ap}
use Rattle.mpd_text.specs.Songs.Song.{SongData}
use Rattle.song_queue.specs.Entries.{same_song}
use Rattle.song_queue.proofs.Same.{pointwise-refl, pointwise-true, same_song-refl, same_song-true}
use Rattle.player_state.specs.Libraries.{same_songs}

pub same_songs-refl : (songs : List SongData) → same_songs songs songs ≡ true
unfolding same_songs
same_songs-refl songs = pointwise-refl same_song same_song-refl songs

pub same_songs-true : (a b : List SongData) → same_songs a b ≡ true → a ≡ b
unfolding same_songs
same_songs-true a b e = pointwise-true same_song same_song-true a b e

-- the same songs are no change
pub unchanged : (songs : List SongData) → not (same_songs songs songs) ≡ false
unchanged songs = ap not (same_songs-refl songs)
