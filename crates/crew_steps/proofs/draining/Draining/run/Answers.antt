use Rattle.std.proofs.Common.{subst, sym}
use Rattle.output_ring.specs.declared.drainer.Drainer.{Drainer}
use Rattle.crew_steps.specs.Turns.{HasRun, RunsToEnd}
use Rattle.crew_steps.proofs.Known.{run_known}
use Rattle.crew_steps.proofs.draining.Draining.run.Goals as goal

pub returns-clause-runs : goal.returns-clause-runs
returns-clause-runs g c = λ knows.
    subst (λ (d : Drainer). RunsToEnd g.O.Write.contents c.args.self.output c.args.drainer c.args.self.writer d) (sym c.end.ensures)
    (c.keep_draining-told.result, c.keep_draining-told.new.self.writer, c.keep_draining-told.ensures.runs knows)

pub returns-clause-known : goal.returns-clause-known
returns-clause-known g c = λ knows.
    subst (λ (d : Drainer). HasRun c.args.self.output c.args.drainer d) (sym c.end.ensures)
    (run_known g.O.Write.contents _ _ _ _ (c.keep_draining-told.result, c.keep_draining-told.new.self.writer, c.keep_draining-told.ensures.runs knows))
