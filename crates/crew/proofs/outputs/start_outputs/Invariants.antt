use Rattle.std.proofs.Common.{◌≡◌, ◌+◌, ◌++◌, map, vec_len}
use Rattle.std.specs.List.{range_with_len}
use Rattle.std.specs.Vec.Iter.{into_iter_items, into_iter_len}
use Rattle.crew.specs.Rows.{drainer_of_run, first_of_run, output_of_run}
use Rattle.crew_steps.specs.OutputSetups.{feeder_of_setup, drainer_of_setup}
use Rattle.crew.proofs.outputs.start_outputs.Given as goal

abbrev pub invariant-loop-output_setup : goal.invariant-loop-output_setup
invariant-loop-output_setup g l = record {
  parts : (l.written.parts + vec_len l.runs ≡ 9) × (l.discarded.parts + vec_len l.runs ≡ 9) × (l.written.amount ≡ 0) × (l.discarded.amount ≡ 0);
  count : (vec_len l.runs + into_iter_len l.output_setup-iterator ≡ into_iter_len l.initial.output_setup-iterator) × (vec_len l.feeders ≡ vec_len l.runs);
  numbers : map output_of_run l.runs.items ≡ range_with_len 0 (vec_len l.runs);
  runs : map first_of_run l.runs.items ++ map feeder_of_setup (into_iter_items l.output_setup-iterator) ≡ map feeder_of_setup (into_iter_items l.initial.output_setup-iterator);
  drainers : map drainer_of_run l.runs.items ++ map drainer_of_setup (into_iter_items l.output_setup-iterator) ≡ map drainer_of_setup (into_iter_items l.initial.output_setup-iterator);
  feeders : l.feeders.items ++ map feeder_of_setup (into_iter_items l.output_setup-iterator) ≡ map feeder_of_setup (into_iter_items l.initial.output_setup-iterator);
}
