use Rattle.std.specs.Prelude.{map}
use Rattle.kept_state.specs.HeardPartitions.{HasHeardAll}
use Rattle.kept_state.proofs.partitions.partitions_of.Given as goal

abbrev pub invariant-answers : goal.invariant-answers
invariant-answers l = HasHeardAll (map (λ line. line.now) l.yielded) l.heard
