use Rattle.std.proofs.Common.{◌≡◌, take}
use Rattle.queue_commands.proofs.queue_edits.shares.Given as goal

abbrev pub invariant-loop-song : goal.invariant-loop-song
invariant-loop-song l =
    l.shared ≡ take l.song-index l.songs
