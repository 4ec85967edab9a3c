use Rattle.std.proofs.Common.{◌≡◌}
use Rattle.crew_steps.specs.Rounds.{first_from}
use Rattle.crew_steps.proofs.rounds.first_from.Given as goal

abbrev pub invariant-loop-index : goal.invariant-loop-index
invariant-loop-index l = first_from l.present_partitions l.from ≡ first_from l.present_partitions l.index
