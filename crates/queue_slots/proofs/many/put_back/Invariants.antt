use Rattle.std.proofs.Common.{◌≡◌, ◌+◌, ◌++◌, ◌≤◌, length, take}
use Rattle.std.specs.Vec.Iter.{into_iter_items}
use Rattle.queue_slots.specs.Slots.{with_put_back}
use Rattle.queue_slots.specs.Blocks.{joined}
use Rattle.queue_slots.proofs.many.put_back.Given as goal

abbrev pub invariant-loop-slot : goal.invariant-loop-slot
invariant-loop-slot l =
    record {
      can_next : (goal.iterator-loop-slot).can_next l.slot-iterator;
      is_finite : (goal.iterator-loop-slot).is_finite l.slot-iterator;
      part : l.yielded ++ into_iter_items l.slot-iterator ≡ l.fn.part.items;
      put : joined l.blocks.items ≡ with_put_back (joined l.fn.blocks.items) l.start l.yielded;
      spot : length (joined (take l.at l.blocks.items)) + l.offset ≡ l.start + length l.yielded;
      within : l.at ≤ l.blocks.len;
      len : l.blocks.len ≡ l.fn.blocks.len;
      room : l.blocks.cap ≡ l.fn.blocks.cap;
    }
