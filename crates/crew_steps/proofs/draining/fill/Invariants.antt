use Rattle.std.proofs.Common.{List}
use Rattle.output_ring.specs.declared.frames.CutFrame.{CutFrame}
use Rattle.crew_steps.specs.Turns.{Pops}
use Rattle.crew_steps.proofs.draining.fill.Given as goal

abbrev pub invariant-loop : goal.invariant-loop
invariant-loop l = (came : List CutFrame) × Pops l.initial.drainer l.drainer came
