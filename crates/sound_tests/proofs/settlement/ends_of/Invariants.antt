use Rattle.output_ring.specs.Rings.{SameDrainer}
use Rattle.sound_tests.proofs.settlement.ends_of.Given as goal

abbrev pub invariant-loop-turn : goal.invariant-loop-turn
invariant-loop-turn l = SameDrainer l.initial.drainer l.drainer
