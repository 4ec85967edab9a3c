use Rattle.std.proofs.Common.{◌≡◌, ◌++◌, map, take, drop}
use Rattle.queue_slots.specs.Slots.{kept}
use Rattle.queue_slots.proofs.many.keep_all.Given as goal

abbrev pub invariant-loop-block : goal.invariant-loop-block
invariant-loop-block l = l.block-items ≡ map (λ b. map (kept l.wraps) b) (take l.block-index l.fn.blocks) ++ drop l.block-index l.fn.blocks
