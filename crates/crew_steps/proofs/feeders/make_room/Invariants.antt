use Rattle.crew_steps.specs.Feeding.{TakesNone}
use Rattle.crew_steps.proofs.feeders.make_room.Given as goal

abbrev pub invariant-loop : goal.invariant-loop
invariant-loop g l = TakesNone l.initial.feeder l.feeder
