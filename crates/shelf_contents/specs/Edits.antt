-- Lists made of others: of a queue, with more songs, without an entry, with one elsewhere; and the songs that
-- a list has in a library (MPD protocol reference, Stored playlists: `load`, `playlistadd`, `playlistdelete`,
-- `playlistmove`, `save`).
use Rattle.std.specs.Prelude.{ℕ, List, [], map, slice_index_or}
use Rattle.std.specs.List.{filter_map, slice_range, insert, remove}
use Rattle.mpd_text.specs.Songs.Song.{SongData}
use Rattle.song_db.specs.Library.{song_of}
use Rattle.song_queue.specs.declared.entry.Entry.{Entry}

-- the URIs of a queue's entries
abbrev pub uris_in : List Entry → List (List ℕ)
uris_in queue = map (λ (entry : Entry). entry.song.uri) queue

abbrev pub uris_of : List SongData → List (List ℕ)
uris_of songs = map (λ (song : SongData). song.uri) songs

-- the entry at a position taken out, and put into the rest at another
abbrev pub moved : List (List ℕ) → ℕ → ℕ → List (List ℕ)
moved uris from to = insert (remove uris from) to (slice_index_or uris from [])

-- the songs that the library has of the entries from start up to end; an entry whose song is gone is passed
-- over, and counts
abbrev pub loaded : List SongData → List (List ℕ) → ℕ → ℕ → List SongData
loaded songs uris start end = filter_map (song_of songs) (slice_range uris start end)
