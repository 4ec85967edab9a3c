use Rattle.std.proofs.Common.{◌≡◌, ◌≤◌, ◌+◌, ◌-◌}
use Rattle.queue_slots.proofs.made.make_room.Given as goal

abbrev pub invariant-loop-alloc : goal.invariant-loop-alloc
invariant-loop-alloc l =
    record {
      blocks : l.blocks.items ≡ l.fn.blocks.items;
      len : l.blocks.len ≡ l.fn.blocks.len;
      more : l.fn.spare.len ≤ l.spare.len;
      most : l.spare.len ≤ l.most;
      whole : l.blocks.len + l.most ≡ l.needed;
      room : l.needed ≤ l.blocks.cap;
      spare_room : l.needed ≤ l.spare.cap;
    }

abbrev pub decreases-loop-alloc : goal.decreases-loop-alloc
decreases-loop-alloc l = l.most - l.spare.len
