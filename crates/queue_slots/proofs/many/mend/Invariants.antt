use Rattle.std.proofs.Common.{◌≡◌, ◌≤◌, ◌<◌, ◌+◌, ◌-◌, ℕ, [], length, get_or}
use Rattle.queue_slots.specs.Blocks.{joined}
use Rattle.queue_slots.proofs.many.mend.Given as goal

abbrev pub invariant-loop-at : goal.invariant-loop-at
invariant-loop-at l =
    record {
      same : joined l.blocks.items ≡ joined l.fn.blocks.items;
      paired : (k : ℕ) → k < l.at → 256 < length (get_or l.blocks.items k []) + length (get_or l.blocks.items (k + 1) []);
      high : l.at ≤ l.blocks.len;
      total : l.blocks.len + l.spare.len ≡ l.fn.blocks.len + l.fn.spare.len;
      blocks_room : l.fn.blocks.cap ≤ l.blocks.cap;
      spare_room : l.fn.spare.cap ≤ l.spare.cap;
    }

abbrev pub decreases-loop-at : goal.decreases-loop-at
decreases-loop-at l = l.blocks.len - l.at
