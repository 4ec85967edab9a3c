use Rattle.std.proofs.Common.{◌≡◌, ◌+◌, ◌≤◌, take, drop, vec_len, vec_capacity}
use Rattle.std.specs.Vec.Iter.{into_iter_items, into_iter_len}
use Rattle.crew_steps.specs.Each.{Each}
use Rattle.crew_steps.specs.OutputSetups.{IsSetupOf}
use Rattle.crew_steps.proofs.new_rings.output_setups.Given as goal

abbrev pub invariant-loop-writer : goal.invariant-loop-writer
invariant-loop-writer g l = record {
  room : vec_len l.output_setups + into_iter_len l.writer-iterator ≤ vec_capacity l.output_setups;
  count : vec_len l.output_setups + into_iter_len l.writer-iterator ≡ into_iter_len l.initial.writer-iterator;
  rest : drop (vec_len l.output_setups) (into_iter_items l.initial.writer-iterator) ≡ into_iter_items l.writer-iterator;
  output_setups : Each (IsSetupOf l.frames) (take (vec_len l.output_setups) (into_iter_items l.initial.writer-iterator)) l.output_setups.items;
}
