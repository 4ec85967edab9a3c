use Rattle.std.proofs.Common.{◌≡◌, ◌++◌, map, take, drop}
use Rattle.queue_slots.specs.Slots.{written, entries_of}
use Rattle.queue_slots.proofs.many.write_all.Given as goal

abbrev pub invariant-loop-block : goal.invariant-loop-block
invariant-loop-block l = l.block-items ≡ map (λ b. map (written l.version l.wraps) (entries_of b)) (take l.block-index l.fn.blocks) ++ drop l.block-index l.fn.blocks
