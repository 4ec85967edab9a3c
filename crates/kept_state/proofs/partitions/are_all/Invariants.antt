use Rattle.std.specs.Prelude.{◌≡◌, drop, map}
use Rattle.kept_state.specs.Partitions.{same_texts}
use Rattle.kept_state.specs.declared.partitions.HeardPartition.{HeardPartition}
use Rattle.kept_state.proofs.partitions.are_all.Given as goal

abbrev pub invariant-loop-at : goal.invariant-loop-at
invariant-loop-at l =
    same_texts (drop l.at l.listed) (map (λ (p : HeardPartition). p.name) (drop l.at l.partitions))
    ≡ same_texts l.listed (map (λ (p : HeardPartition). p.name) l.partitions)
