use Rattle.std.proofs.Common.{◌≡◌, ◌≤◌, ◌+◌, take}
use Rattle.queue_slots.proofs.many.drop_blocks.Given as goal

abbrev pub invariant-loop-blocks : goal.invariant-loop-blocks
invariant-loop-blocks l =
    record {
      kept : take l.left l.blocks.items ≡ take l.left l.initial.blocks.items;
      least : l.left ≤ l.blocks.len;
      total : l.blocks.len + l.spare.len ≡ l.initial.blocks.len + l.initial.spare.len;
      blocks_room : l.initial.blocks.cap ≤ l.blocks.cap;
      spare_room : l.initial.spare.cap ≤ l.spare.cap;
    }

abbrev pub decreases-loop-blocks : goal.decreases-loop-blocks
decreases-loop-blocks l = l.blocks.len
