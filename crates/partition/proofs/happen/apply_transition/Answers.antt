use Rattle.std.proofs.Common.{sym, rules}
use Rattle.partition.specs.Image.{Image, image_of_state}
use Rattle.transitions.specs.declared.shelf_calls.ShelfWrite.TheVariants.{Nothing}
use Rattle.connected_clients.specs.Rooms.{listed}
use Rattle.connected_clients.specs.Fingerprint.{raised_in}
use Rattle.partition.proofs.Raised.{Shown, stepped, noticed, shown_by}
use Rattle.partition.proofs.UpToDate.{unwritten}
use Rattle.partition.proofs.happen.apply_transition.Goals as goal

pub returns-clause-image : goal.returns-clause-image
returns-clause-image c =
    let i : Image = image_of_state c.args.state.now in
    let shown : Shown i c.args.event.now c.args.transition c.carry_out.new.parts c.carry_out.new.library (raised_in c.changed-raised.result) c.args.transition.response =
    shown_by i c.args.event.now c.args.transition c.carry_out.new.parts c.carry_out.new.library (raised_in c.changed-raised.result) c.args.transition.response
    c.moved_client-moved_client.result c.changes_songs-database.result c.changes_listeners-subscription.result Nothing c.in-Ok.made.0.before c.changed-raised.result (search rules) (search rules) (search rules) (search rules) (sym (unwritten c.args.transition.written c.requires.unwritten)) (search rules) in
    stepped i c.args.event.now c.args.transition c.carry_out.new.parts c.carry_out.new.library (raised_in c.changed-raised.result) c.in_ok-telling.telling.response c.in-Ok.made.1 c.ended_after-state.result c.tell.new.clients.items
    (search rules) (search rules) (search rules) c.ended_after-state.ensures (search rules) shown (search rules)

pub returns-clause-notices : goal.returns-clause-notices
returns-clause-notices c =
    let i : Image = image_of_state c.args.state.now in
    let shown : Shown i c.args.event.now c.args.transition c.carry_out.new.parts c.carry_out.new.library (raised_in c.changed-raised.result) c.args.transition.response =
    shown_by i c.args.event.now c.args.transition c.carry_out.new.parts c.carry_out.new.library (raised_in c.changed-raised.result) c.args.transition.response
    c.moved_client-moved_client.result c.changes_songs-database.result c.changes_listeners-subscription.result Nothing c.in-Ok.made.0.before c.changed-raised.result (search rules) (search rules) (search rules) (search rules) (sym (unwritten c.args.transition.written c.requires.unwritten)) (search rules) in
    noticed i c.args.event.now c.args.transition c.carry_out.new.parts c.carry_out.new.library (raised_in c.changed-raised.result) c.in_ok-telling.telling.response (listed c.tell.result.notices)
    (search rules) (search rules) (search rules) shown (search rules)
