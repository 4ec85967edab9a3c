use Rattle.crew_steps.proofs.Pushes.{none_refl, none_trans}
use Rattle.crew_steps.proofs.feeders.make_room.Goals as goal

pub loop-init : goal.loop-init
loop-init g c = none_refl c.args.feeder.now

pub loop-preserved : goal.loop-preserved
loop-preserved g c = none_trans c.args.feeder.now c.loop.feeder c.push_one.new.feeder c.loop.invariant c.push_one.ensures.kept

pub returns-then-not-push_one-clause-kept : goal.returns-then-not-push_one-clause-kept
returns-then-not-push_one-clause-kept g c = none_trans c.args.feeder.now c.loop.feeder c.push_one.new.feeder c.loop.invariant c.push_one.ensures.kept
