use Rattle.std.proofs.Common.{true, ◌≡◌, ◌++◌, map, take, drop}
use Rattle.queue_slots.specs.Slots.{kept}
use Rattle.queue_slots.proofs.slots.mark_all.Given as goal

abbrev pub invariant-loop-slot : goal.invariant-loop-slot
invariant-loop-slot l = l.slot-items ≡ map (kept true) (take l.slot-index l.fn.slots) ++ drop l.slot-index l.fn.slots
