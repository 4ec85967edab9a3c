use Rattle.std.proofs.Common.{[]}
use Rattle.output_ring.proofs.Feeds.{left, taken, went}
use Rattle.output_ring.proofs.feeder.Feeder.push.Goals as goal

pub returns-clause-sent : goal.returns-clause-sent
returns-clause-sent c =
    let old = c.args.self.now in
    went old.cut old.block.items c.deref.result.now old.sent c.push-moved.result _ _ c.deref.ensures.value c.push-moved.ensures.sent

pub returns-clause-owed : goal.returns-clause-owed
returns-clause-owed c =
    let old = c.args.self.now in
    left old.cut old.block.items old.block.items old.sent c.push-moved.result [] []

pub returns-clause-taken : goal.returns-clause-taken
returns-clause-taken c =
    let old = c.args.self.now in
    taken old.cut old.block.items c.deref.result.now old.sent c.push-moved.result _ _ c.deref.ensures.value c.push-moved.ensures.sent
