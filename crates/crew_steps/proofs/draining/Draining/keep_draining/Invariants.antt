use Rattle.std.proofs.Common.{◌≡◌}
use Rattle.output_ring.specs.Rings.{SameDrainer, has_failed}
use Rattle.crew_steps.proofs.Turns.{Running}
use Rattle.crew_steps.proofs.draining.Draining.keep_draining.Given as goal

abbrev pub invariant-loop : goal.invariant-loop
invariant-loop g l = record {
  ring : SameDrainer l.initial.drainer l.drainer;
  output : l.self.output ≡ l.initial.self.output;
  runs : l.initial.self.failed ≡ has_failed l.initial.drainer → Running g.O.Write.contents l.initial.self.output l.initial.drainer l.initial.self.writer l.self.failed l.drainer l.self.writer;
}
