use Rattle.std.proofs.Common.{◌≡◌, ◌++◌, take}
use Rattle.shelf_contents.specs.Edits.{uris_of}
use Rattle.shelf_contents.proofs.edits.with_songs.Given as goal

abbrev pub invariant-loop-song : goal.invariant-loop-song
invariant-loop-song l = l.longer ≡ l.fn.list ++ uris_of (take l.song-index l.songs)
