use Rattle.std.proofs.Common.{rules, ◌∙◌, vec_len}
use Rattle.std.specs.Vec.Iter.{into_iter_items}
use Rattle.output_ring.specs.Rings.{EndsFeeder}
use Rattle.crew_steps.specs.Decoding.{EndsAs}
use Rattle.crew_steps.proofs.Eaches.{each_next, next_taken}
use Rattle.crew_steps.proofs.feeders.finish_all.Goals as goal

pub loop-feeder-preserved : goal.loop-feeder-preserved
loop-feeder-preserved c =
    let was = c.loop-feeder.invariant in
    let all = into_iter_items c.into_iter-feeder-iterator.result in
    let step = was.rest ∙ c.in-Some.ensures.steps.0 in record {
      capacity = search rules;
      count = search rules;
      rest = (next_taken all (vec_len c.loop-feeder.ends) (vec_len c.push_reserved.new.self) c.in-Some.feeder _ c.push_reserved.ensures.len step).1;
      rings = each_next EndsFeeder all c.loop-feeder.ends.items _ (vec_len c.loop-feeder.ends) (vec_len c.push_reserved.new.self) c.in-Some.feeder c.finish.result _ c.push_reserved.ensures.len step c.push_reserved.ensures.items was.rings c.finish.ensures.ring;
      ends = each_next EndsAs all c.loop-feeder.ends.items _ (vec_len c.loop-feeder.ends) (vec_len c.push_reserved.new.self) c.in-Some.feeder c.finish.result _ c.push_reserved.ensures.len step c.push_reserved.ensures.items was.ends (c.finish.ensures.took, c.finish.ensures.owed);
    }
