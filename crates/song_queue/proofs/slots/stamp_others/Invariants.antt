use Rattle.std.proofs.Common.{◌≡◌, take}
use Rattle.song_queue.specs.State.{stamped_by}
use Rattle.song_queue.proofs.slots.stamp_others.Given as goal

abbrev pub invariant-loop-position : goal.invariant-loop-position
invariant-loop-position l = l.slots ≡ stamped_by l.version l.wraps (take l.position l.ids) l.fn.slots
