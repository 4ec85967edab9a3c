use Rattle.std.proofs.Common.{◌+◌, ◌-◌, arith}
use Rattle.output_ring.proofs.Lists.{part_stays}
use Rattle.output_ring.proofs.drainer.pop_after.Goals as goal

pub returns-clause-hand : goal.returns-clause-hand
returns-clause-hand c =
    part_stays c.args.held (c.args.held + c.args.most - c.args.held) c.pop.result c.args.slots.now c.pop.new.slots (omega (arith, c.requires))
