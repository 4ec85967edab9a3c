use Rattle.std.proofs.Common.{◌≡◌, ◌+◌, take, drop, vec_len, vec_capacity}
use Rattle.std.specs.Vec.Iter.{into_iter_items, into_iter_len}
use Rattle.output_ring.specs.Rings.{EndsFeeder}
use Rattle.crew_steps.specs.Decoding.{EndsAs}
use Rattle.crew_steps.specs.Each.{Each}
use Rattle.crew_steps.proofs.feeders.finish_all.Given as goal

abbrev pub invariant-loop-feeder : goal.invariant-loop-feeder
invariant-loop-feeder l = record {
  capacity : vec_capacity l.ends ≡ vec_capacity l.initial.ends;
  count : vec_len l.ends + into_iter_len l.feeder-iterator ≡ into_iter_len l.initial.feeder-iterator;
  rest : drop (vec_len l.ends) (into_iter_items l.initial.feeder-iterator) ≡ into_iter_items l.feeder-iterator;
  rings : Each EndsFeeder (take (vec_len l.ends) (into_iter_items l.initial.feeder-iterator)) l.ends.items;
  ends : Each EndsAs (take (vec_len l.ends) (into_iter_items l.initial.feeder-iterator)) l.ends.items;
}
