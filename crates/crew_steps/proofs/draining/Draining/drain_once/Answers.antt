use Rattle.std.proofs.Common.{inr, sym, ◌∙◌}
use Rattle.crew_steps.proofs.Turns.{obeyed}
use Rattle.crew_steps.proofs.draining.Draining.drain_once.Goals as goal

pub returns-then-obey-clause-drains : goal.returns-then-obey-clause-drains
returns-then-obey-clause-drains g c = inr (
  c.in-Some.told,
  sym c.obey.ensures.goes ∙ c.if-obey.true,
  obeyed g.O.Write.contents c.args.self.now.output c.args.self.now.failed c.args.drainer.now c.fill-popped.new.drainer c.reported.new.self c.obey.new.drainer c.args.self.now.writer c.tell.new.self.writer c.obey.new.self.writer c.fill-popped.ensures.0 c.in-Some.told c.fates.result
      c.fill-popped.ensures.1 c.fates.ensures c.in-Some.ensures.told c.reported.ensures.kept c.reported.ensures.unreported c.in-Some.ensures.kept.0 c.obey.ensures.does,
)

pub returns-else-obey-clause-drains : goal.returns-else-obey-clause-drains
returns-else-obey-clause-drains g c = (
  c.obey.ensures.ends c.if-obey.false,
  obeyed g.O.Write.contents c.args.self.now.output c.args.self.now.failed c.args.drainer.now c.fill-popped.new.drainer c.reported.new.self c.obey.new.drainer c.args.self.now.writer c.tell.new.self.writer c.obey.new.self.writer c.fill-popped.ensures.0 c.in-Some.told c.fates.result
      c.fill-popped.ensures.1 c.fates.ensures c.in-Some.ensures.told c.reported.ensures.kept c.reported.ensures.unreported c.in-Some.ensures.kept.0 c.obey.ensures.does,
)
