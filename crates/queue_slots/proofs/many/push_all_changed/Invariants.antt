use Rattle.std.proofs.Common.{◌≡◌, ◌++◌, length, take}
use Rattle.queue_slots.specs.Blocks.{joined}
use Rattle.queue_slots.proofs.Changes.{positions}
use Rattle.queue_slots.proofs.many.push_all_changed.Given as goal

abbrev pub invariant-loop-block : goal.invariant-loop-block
invariant-loop-block l =
    record {
      at : l.at ≡ length (joined (take l.block-index l.blocks));
      shown : l.positions.items ≡ l.fn.positions.items ++ positions l.version l.present 0 (joined (take l.block-index l.blocks));
    }
