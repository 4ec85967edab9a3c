use Rattle.std.proofs.Common.{◌≡◌, ◌++◌, map, take, drop}
use Rattle.queue_slots.specs.Slots.{written}
use Rattle.queue_slots.proofs.slots.write_all.Given as goal

abbrev pub invariant-loop-slot : goal.invariant-loop-slot
invariant-loop-slot l = l.slot-items ≡ map (λ s. written l.version l.wraps s.entry) (take l.slot-index l.fn.slots) ++ drop l.slot-index l.fn.slots
