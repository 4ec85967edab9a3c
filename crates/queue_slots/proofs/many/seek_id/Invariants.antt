use Rattle.std.proofs.Common.{◌≡◌, ◌≢◌, None, length, take}
use Rattle.std.specs.Prelude.{All}
use Rattle.queue_slots.specs.Blocks.{joined}
use Rattle.queue_slots.proofs.many.seek_id.Given as goal

abbrev pub invariant-loop-block : goal.invariant-loop-block
invariant-loop-block l =
    record {
      at : l.at ≡ length (joined (take l.block-index l.blocks));
      none : l.key ≡ None → All (λ s. s.entry.id ≢ l.id) (joined (take l.block-index l.blocks));
    }
