use Rattle.std.proofs.Common.{length, ap, arith}
use Rattle.queue_slots.proofs.Joined.{few_blocks}
use Rattle.queue_slots.proofs.blocks.Blocks.rotate.Goals as goal

pub part-i-requires-clause-some : goal.part-i-requires-clause-some
part-i-requires-clause-some c =
    let few = few_blocks c.self.inside.blocks.items c.self.invariant.paired in
    let view = ap (λ x. length x) c.self.view_is in
    let some = c.self.invariant.enough (omega arith) in
    omega arith
