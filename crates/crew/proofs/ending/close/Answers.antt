use Rattle.std.proofs.Common.{rules, ◌≡◌, ◌∙◌, ap, length, sym, subst, vec_len}
use Rattle.std.specs.List.{range_with_len}
use Rattle.output_ring.specs.Rings.{EndsFeeder}
use Rattle.crew.specs.Closing.{LeavesRun}
use Rattle.frame_ledger.specs.Shares.{HasAllParts}
use Rattle.crew_steps.specs.Each.{Each}
use Rattle.crew_steps.proofs.Eaches.{each_length}
use Rattle.crew.proofs.ending.close.Goals as goal

pub join_outputs-rings-requires-clause-ends : goal.join_outputs-rings-requires-clause-ends
join_outputs-rings-requires-clause-ends g c = subst (λ fs. Each EndsFeeder fs c.join-ends.result.ends.items) (sym c.args.crew.rings) c.join-ends.ensures.0

pub settle_all-requires-clause-few : goal.settle_all-requires-clause-few
settle_all-requires-clause-few g c = let e = each_length LeavesRun _ _ c.join_outputs-rings.ensures.rings in search rules

pub settle_all-requires-clause-room : goal.settle_all-requires-clause-room
settle_all-requires-clause-room g c = let e = each_length LeavesRun _ _ c.join_outputs-rings.ensures.rings in search rules

pub returns-clause-settled : goal.returns-clause-settled
returns-clause-settled g c =
    let whole : HasAllParts c.join-ends.result.share.parts c.join_outputs-rings.new.shares = search rules in
    let long : vec_len c.args.crew.outputs ≡ length c.args.crew.outputs.items = search rules in (
      c.join_outputs-rings.result.items,
      record { decoded = c.join-ends.result.share; outputs = c.join_outputs-rings.new.shares },
      c.args.crew.numbers ∙ ap (range_with_len 0) long,
      c.join_outputs-rings.ensures.rings,
      whole,
      c.settle_all.ensures,
    )
