use Rattle.std.proofs.Common.{◌≡◌, ◌++◌, drop, filter}
use Rattle.queue_commands.specs.Queue.{is_in}
use Rattle.queue_commands.proofs.queue_songs.changed_within.Given as goal

abbrev pub invariant-loop-position : goal.invariant-loop-position
invariant-loop-position l = l.positions.items ++ filter (is_in l.within) (drop l.position-index l.position-items) ≡ filter (is_in l.within) l.position-items
