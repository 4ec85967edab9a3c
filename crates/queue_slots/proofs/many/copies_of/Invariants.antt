use Rattle.std.proofs.Common.{◌≡◌, ◌-◌, length, take, drop}
use Rattle.queue_slots.specs.Blocks.{joined}
use Rattle.queue_slots.proofs.many.copies_of.Given as goal

abbrev pub invariant-loop-block : goal.invariant-loop-block
invariant-loop-block l =
    record {
      before : l.before ≡ l.start - length (joined (take l.block-index l.blocks));
      copied : l.copies.items ≡ take l.count (drop l.start (joined (take l.block-index l.blocks)));
    }
