use Rattle.std.proofs.Common.{◌∙◌, ap}
use Rattle.connected_clients.specs.Clients.{move_of, moved, staying}
use Rattle.partition.specs.Image.{Image, image_of_state}
use Rattle.transitions.specs.Transitions.{TransitionData}
use Rattle.partition.proofs.Still.{still_notices, still_report, still_step}
use Rattle.partition.proofs.happen.answer_sender.Goals as goal

pub returns-clause-image : goal.returns-clause-image
returns-clause-image c =
    let i : Image = image_of_state c.args.state.now in
    still_step i c.args.event.now c.args.transition c.requires.still c.ended_after-state.result c.move_sender.new.clients.items c.requires.up_to_date c.ended_after-state.ensures c.rest.ensures.same
    (c.move_sender.ensures ∙ (λ j. moved (c.sender_number.ensures j) (move_of (c.into_telling-response.ensures.response j)) (staying (c.sender_number.ensures j) (c.into_telling-response.ensures.response j) i.clients)))

pub returns-clause-report : goal.returns-clause-report
returns-clause-report c =
    let i : Image = image_of_state c.args.state.now in
    c.into_report-report.ensures ∙ ap (λ (t : TransitionData). t.report) c.transition.view_is ∙ still_report i c.args.event.now c.args.transition c.requires.still

pub returns-clause-notices : goal.returns-clause-notices
returns-clause-notices c = still_notices (image_of_state c.args.state.now) c.args.event.now c.args.transition c.requires.still c.requires.up_to_date
