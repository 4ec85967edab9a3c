use Rattle.std.proofs.Common.{take}
use Rattle.song_queue.proofs.Priorities.{AllHave}
use Rattle.song_queue.proofs.slots.have_priority.Given as goal

abbrev pub invariant-loop-range : goal.invariant-loop-range
invariant-loop-range l = AllHave l.priority (take l.range-index l.ranges) l.slots
