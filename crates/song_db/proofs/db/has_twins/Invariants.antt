use Rattle.std.proofs.Common.{◌≡◌, length}
use Rattle.song_db.specs.Library.{are_twins_beside}
use Rattle.song_db.proofs.db.has_twins.Given as goal

abbrev pub decreases-loop-rest : goal.decreases-loop-rest
decreases-loop-rest l = length l.rest

abbrev pub invariant-loop-rest : goal.invariant-loop-rest
invariant-loop-rest l = are_twins_beside l.rest ≡ are_twins_beside l.fn.songs
