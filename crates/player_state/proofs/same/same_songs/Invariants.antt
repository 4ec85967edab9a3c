use Rattle.std.proofs.Common.{◌≡◌, length}
use lib.Pointwise.{pointwise}
use Rattle.song_queue.specs.Entries.{same_song}
use Rattle.player_state.proofs.same.same_songs.Given as goal

abbrev pub decreases-loop-ones : goal.decreases-loop-ones
decreases-loop-ones l = length l.ones

abbrev pub invariant-loop-ones : goal.invariant-loop-ones
invariant-loop-ones l = pointwise same_song l.ones l.others ≡ pointwise same_song l.first l.second
