use Rattle.std.proofs.Common.{rules, ◌∙◌, vec_len}
use Rattle.std.specs.Vec.Iter.{into_iter_items}
use Rattle.output_ring.specs.Rings.{EndsFeeder}
use Rattle.crew.specs.Closing.{LeavesRun}
use Rattle.crew.specs.Rows.{first_of_run}
use Rattle.crew_steps.proofs.Eaches.{each_next, each_rest, next_taken}
use Rattle.crew.proofs.settling.join_outputs.Goals as goal

pub join_output-left-requires : goal.join_output-left-requires
join_output-left-requires g c =
    (each_rest EndsFeeder first_of_run _ _ _ _ c.in-Some.run' c.in-Some-next.end c.in-Some.ensures.steps.0 c.in-Some-next.ensures.items c.loop-run.invariant.ends).0

pub loop-run-preserved : goal.loop-run-preserved
loop-run-preserved g c =
    let was = c.loop-run.invariant in
    let all = into_iter_items c.into_iter-run-iterator.result in
    let step = was.rest ∙ c.in-Some.ensures.steps.0 in record {
      capacity = search rules;
      count = search rules;
      rest = (next_taken all (vec_len c.loop-run.rings) (vec_len c.push_reserved.new.self) c.in-Some.run' _ c.push_reserved.ensures.len step).1;
      ends = (each_rest EndsFeeder first_of_run _ _ _ _ c.in-Some.run' c.in-Some-next.end c.in-Some.ensures.steps.0 c.in-Some-next.ensures.items was.ends).1;
      joined = each_next LeavesRun all c.loop-run.rings.items _ (vec_len c.loop-run.rings) (vec_len c.push_reserved.new.self) c.in-Some.run' c.join_output-left.result.ring _ c.push_reserved.ensures.len step c.push_reserved.ensures.items was.joined c.join_output-left.ensures;
      parts = search rules;
    }
