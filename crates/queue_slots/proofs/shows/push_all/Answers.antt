use Rattle.std.proofs.Common.{ap, sym, ◌∙◌, ◌++◌, ◌∷◌, [], ◌+◌, append_assoc}
use Rattle.std.specs.List.{range_with_len}
use Rattle.queue_slots.proofs.Changes.{range_with_len-push}
use Rattle.queue_slots.proofs.shows.push_all.Goals as goal

pub loop-step-preserved : goal.loop-step-preserved
loop-step-preserved c =
    c.in_ok-push.ensures.items ∙ ap (λ x. x ++ ((c.args.at + c.loop-step.step) ∷ [])) c.loop-step.invariant ∙ append_assoc c.args.positions.now.items (range_with_len c.args.at c.loop-step.step) _
    ∙ ap (λ x. c.args.positions.now.items ++ x) (sym (range_with_len-push c.args.at c.loop-step.step))
