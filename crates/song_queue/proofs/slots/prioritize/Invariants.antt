use Rattle.std.proofs.Common.{◌≡◌, map, take}
use Rattle.song_queue.specs.State.{kept, prioritized_slot}
use Rattle.song_queue.proofs.Priorities.{named}
use Rattle.song_queue.proofs.slots.prioritize.Given as goal

abbrev pub invariant-loop-range : goal.invariant-loop-range
invariant-loop-range l = l.slots ≡ named (prioritized_slot l.version l.wraps l.priority) (take l.range-index l.ranges) 0 (map (kept l.wraps) l.fn.slots)
