use Rattle.std.specs.Prelude.{◌≡◌, ◌++◌}
use Rattle.std.specs.Vec.Iter.{into_iter_items}
use Rattle.kept_state.specs.HeardPartitions.{KeepsOf}
use Rattle.kept_state.specs.Partitions.{Pairwise}
use Rattle.kept_state.proofs.partitions.each_kept_by.Given as goal

abbrev pub invariant-heard : goal.invariant-heard
invariant-heard l = record {
  next : goal.iterator-heard.can_next l.partition-iterator;
  finite : goal.iterator-heard.is_finite l.partition-iterator;
  pairs : Pairwise KeepsOf l.yielded l.all.items;
  left : l.yielded ++ into_iter_items l.partition-iterator ≡ l.fn.partitions.items;
}
