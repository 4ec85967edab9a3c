use Rattle.std.proofs.Common.{◌≡◌, ◌+◌, map, take, drop, vec_len, vec_capacity}
use Rattle.std.specs.Vec.Iter.{into_iter_items, into_iter_len}
use Rattle.output_ring.specs.Rings.{EndsFeeder}
use Rattle.crew_steps.specs.Each.{Each}
use Rattle.crew.specs.Closing.{LeavesRun}
use Rattle.crew.specs.Rows.{first_of_run}
use Rattle.crew.proofs.settling.join_outputs.Given as goal

abbrev pub invariant-loop-run : goal.invariant-loop-run
invariant-loop-run g l = record {
  capacity : vec_capacity l.rings ≡ vec_capacity l.initial.rings;
  count : vec_len l.rings + into_iter_len l.run-iterator ≡ into_iter_len l.initial.run-iterator;
  rest : drop (vec_len l.rings) (into_iter_items l.initial.run-iterator) ≡ into_iter_items l.run-iterator;
  ends : Each EndsFeeder (map first_of_run (into_iter_items l.run-iterator)) (into_iter_items l.ends);
  joined : Each LeavesRun (take (vec_len l.rings) (into_iter_items l.initial.run-iterator)) l.rings.items;
  parts : (l.shares.written.parts + into_iter_len l.run-iterator ≡ 9) × (l.shares.discarded.parts + into_iter_len l.run-iterator ≡ 9);
}
