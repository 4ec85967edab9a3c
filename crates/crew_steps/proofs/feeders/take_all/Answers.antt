use Rattle.std.proofs.Common.{rules, arith, ◌≡◌, ◌+◌, subst, sym, ◌∙◌}
use Rattle.crew_steps.specs.Feeding.{TakesItsOwn, fed_frames}
use Rattle.crew_steps.proofs.Indices.{so_far_all, so_far_next, so_far_none}
use Rattle.crew_steps.proofs.feeders.take_all.Goals as goal

pub loop-i-init : goal.loop-i-init
loop-i-init g c = so_far_none (TakesItsOwn (fed_frames c.args.feed.now c.args.frames.now)) 0 _

pub loop-i-preserved : goal.loop-i-preserved
loop-i-preserved g c =
    let own = fed_frames c.args.feed.now c.args.frames.now in
    let here : c.loop-i.i ≡ 0 + c.loop-i.i = omega arith in
    so_far_next (TakesItsOwn own) c.loop-i.i 0 c.loop-i.i c.args.feeders.now.items c.loop-i.feeders.items c.index_mut.result.now c.take_one.new.feeder here (search rules)
    (λ x is. subst (λ z. TakesItsOwn own c.loop-i.i z c.take_one.new.feeder) (c.index_mut.ensures.value ∙ sym is) c.take_one.ensures)
    c.loop-i.invariant

pub returns : goal.returns
returns g c = so_far_all (TakesItsOwn (fed_frames c.args.feed.now c.args.frames.now)) c.loop-i.i 0 c.args.feeders.now.items c.loop-i.feeders.items (search rules) c.loop-i.invariant
