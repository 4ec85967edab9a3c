use Rattle.std.proofs.Common.{refl, ◌∙◌}
use Rattle.crew_steps.proofs.Turns.{begun, ends, next}
use Rattle.output_ring.proofs.Same.{same_drainer, same_drainer_trans}
use Rattle.crew_steps.proofs.draining.Draining.keep_draining.Goals as goal

pub loop-init : goal.loop-init
loop-init g c = record {
  ring = same_drainer c.args.drainer.now;
  output = refl;
  runs = λ knows. begun g.O.Write.contents c.args.self.now.output c.args.drainer.now c.args.self.now.writer c.args.self.now.failed knows;
}

pub loop-preserved : goal.loop-preserved
loop-preserved g c = record {
  ring = same_drainer_trans c.args.drainer.now c.loop.drainer c.drain_once.new.drainer c.loop.invariant.ring c.in_default.ensures.ring;
  output = c.in_default.ensures.output ∙ c.loop.invariant.output;
  runs = λ knows. next g.O.Write.contents _ _ _ _ _ _ _ _ _ _ c.loop.invariant.output (c.loop.invariant.runs knows) c.in_default.ensures.drains c.in_default.ensures.failed;
}

pub returns-in-Some-drain_once-clause-runs : goal.returns-in-Some-drain_once-clause-runs
returns-in-Some-drain_once-clause-runs g c = λ knows. ends g.O.Write.contents _ _ _ _ _ _ _ _ _ _ c.loop.invariant.output (c.loop.invariant.runs knows) c.in-Some-drain_once.ensures.drains
