use Rattle.std.proofs.Common.{◌≡◌, ◌++◌}
use Rattle.std.specs.Vec.Iter.{into_iter_items}
use Rattle.queue_slots.specs.Blocks.{joined}
use Rattle.queue_slots.proofs.made.build.Given as goal

abbrev pub invariant-loop-slot : goal.invariant-loop-slot
invariant-loop-slot l =
    (goal.iterator-loop-slot).can_next l.slot-iterator × (goal.iterator-loop-slot).is_finite l.slot-iterator
    × (joined l.added.items ++ l.last ≡ l.yielded) × (l.yielded ++ into_iter_items l.slot-iterator ≡ l.fn.slots.items)
