use Rattle.std.proofs.Common.{◌≡◌, ◌++◌, map, take, drop}
use Rattle.queue_slots.specs.Slots.{prioritized_slot}
use Rattle.queue_slots.proofs.many.prioritize_each.Given as goal

abbrev pub invariant-loop-block : goal.invariant-loop-block
invariant-loop-block l = l.block-items ≡ map (λ b. map (prioritized_slot l.version l.wraps l.priority) b) (take l.block-index l.fn.blocks) ++ drop l.block-index l.fn.blocks
