use Rattle.std.specs.Prelude.{◌≡◌, codes, map}
use Rattle.kept_state.specs.Partitions.{values}
use Rattle.kept_state.proofs.partitions.names_of.Given as goal

abbrev pub invariant-answer : goal.invariant-answer
invariant-answer l = l.names.items ≡ values (codes "partition: ") (map (λ line. line.now) l.yielded)
