use Rattle.std.proofs.Common.{rules, ◌∙◌, vec_len}
use Rattle.std.specs.Vec.Iter.{into_iter_items}
use Rattle.crew_steps.specs.OutputSetups.{IsSetupOf}
use Rattle.crew_steps.proofs.Eaches.{each_next, next_taken}
use Rattle.crew_steps.proofs.new_rings.output_setups.Goals as goal

pub loop-writer-preserved : goal.loop-writer-preserved
loop-writer-preserved g c =
    let was = c.loop-writer.invariant in
    let all = into_iter_items c.into_iter-writer-iterator.result in
    let step = was.rest ∙ c.in-Some.ensures.steps.0 in record {
      room = search rules;
      count = search rules;
      rest = (next_taken all (vec_len c.loop-writer.output_setups) (vec_len c.push_reserved.new.self) c.in-Some.writer _ c.push_reserved.ensures.len step).1;
      output_setups = each_next (IsSetupOf c.args.frames) all c.loop-writer.output_setups.items _ (vec_len c.loop-writer.output_setups) (vec_len c.push_reserved.new.self) c.in-Some.writer c.in_ok-output_setup.output_setup _ c.push_reserved.ensures.len step c.push_reserved.ensures.items was.output_setups c.in_ok-output_setup.ensures;
    }
