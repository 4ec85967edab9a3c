use Rattle.std.proofs.Common.{◌≡◌, take}
use Rattle.song_db.proofs.db.copies.Given as goal

abbrev pub invariant-loop-song : goal.invariant-loop-song
invariant-loop-song l = l.copies.items ≡ take l.song-index l.songs
