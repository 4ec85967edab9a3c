use Rattle.std.specs.Prelude.{◌≡◌, ◌++◌}
use Rattle.std.specs.Vec.Iter.{into_iter_items}
use Rattle.kept_state.specs.Partitions.{IsTurnedOn, Pairwise}
use Rattle.kept_state.proofs.partitions.switched_on.Given as goal

abbrev pub invariant-kept : goal.invariant-kept
invariant-kept l = record {
  next : goal.iterator-kept.can_next l.partition-iterator;
  finite : goal.iterator-kept.is_finite l.partition-iterator;
  pairs : Pairwise (IsTurnedOn l.named) l.yielded l.all.items;
  left : l.yielded ++ into_iter_items l.partition-iterator ≡ l.fn.partitions.items;
}
