use Rattle.std.proofs.Common.{◌≡◌, ◌++◌, map, take, drop}
use Rattle.queue_slots.specs.Slots.{prioritized_slot}
use Rattle.queue_slots.proofs.slots.prioritize_all.Given as goal

abbrev pub invariant-loop-slot : goal.invariant-loop-slot
invariant-loop-slot l = l.slot-items ≡ map (prioritized_slot l.version l.wraps l.priority) (take l.slot-index l.fn.slots) ++ drop l.slot-index l.fn.slots
