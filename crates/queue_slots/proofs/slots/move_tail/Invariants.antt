use Rattle.std.proofs.Common.{◌≡◌, ◌+◌, ◌≤◌, ◌++◌, reverse}
use Rattle.queue_slots.proofs.slots.move_tail.Given as goal

abbrev pub invariant-loop-from : goal.invariant-loop-from
invariant-loop-from l =
    record {
      split : l.from.items ++ reverse l.to.items ≡ l.fn.from.items;
      lens : l.from.len + l.to.len ≡ l.fn.from.len;
      within : l.at ≤ l.from.len;
      from_room : l.from.cap ≡ l.fn.from.cap;
      to_room : l.fn.to.cap ≤ l.to.cap;
    }

abbrev pub decreases-loop-from : goal.decreases-loop-from
decreases-loop-from l = l.from.len
