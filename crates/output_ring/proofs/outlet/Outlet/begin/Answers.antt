use Rattle.std.proofs.Common.{arith}
use Rattle.output_ring.proofs.Pairs.{popped-begun, known-begun}
use Rattle.output_ring.proofs.outlet.Outlet.begin.Goals as goal

pub returns-clause-popped : goal.returns-clause-popped
returns-clause-popped c =
    let begun = c.args.self.now.begun in
    popped-begun _ _ c.in-Ok.run' _ c.in-Ok.ensures.ok.0 (omega (arith, begun))

pub returns-clause-known : goal.returns-clause-known
returns-clause-known c = known-begun _ _ _ _ c.in-Ok.run' _ c.requires c.in-Ok.ensures.ok.1
