use Rattle.std.proofs.Common.{ap, ◌∙◌}
use Rattle.partition.specs.Image.{image_of_state}
use Rattle.partition.specs.Step.{told_by}
use Rattle.transitions.specs.Transitions.{TransitionData}
use Rattle.partition.proofs.happen.write_transition.Goals as goal

pub returns-clause-notices : goal.returns-clause-notices
returns-clause-notices g c =
    c.tell_written.ensures.notices
    ∙ ap (λ (t : TransitionData). (told_by (image_of_state c.args.state.now) c.write_out.new.event t).notices) c.in_ok-transition.ensures.transition
