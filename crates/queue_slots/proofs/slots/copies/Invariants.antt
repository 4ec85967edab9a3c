use Rattle.std.proofs.Common.{◌≡◌, take}
use Rattle.queue_slots.proofs.slots.copies.Given as goal

abbrev pub invariant-loop-slot : goal.invariant-loop-slot
invariant-loop-slot l = l.copies.items ≡ take l.slot-index l.slots
