use Rattle.std.proofs.Common.{◌≡◌, ◌∙◌, false, ap, rules}
use Rattle.idle_notes.specs.declared.sets.Subsystems.{Subsystems}
use Rattle.partition_table.specs.declared.crossing.Crossing.TheVariants.{Stays}
use Rattle.player_state.specs.declared.state.Client.{Client}
use Rattle.connected_clients.specs.Clients.{clients_after, notices_after}
use Rattle.partition.specs.Image.{Image, image_of_state}
use Rattle.partition.specs.Step.{moved_client, sender_number, index_at}
use Rattle.transitions.specs.Transitions.{TransitionData}
use Rattle.connected_clients.specs.Rooms.{listed}
use Rattle.connected_clients.specs.Fingerprint.{fingerprint, raised_by_fingerprint, raised_in}
use Rattle.partition.proofs.Written.{written_notices, written_step}
use Rattle.partition.proofs.happen.tell_written.Goals as goal

pub returns-clause-image : goal.returns-clause-image
returns-clause-image c =
    let i : Image = image_of_state c.args.state.now in
    let raised : Client → Subsystems = raised_in c.changed-raised.result in
    let written_is : c.transition.inside.written ≡ c.args.transition.written = ap (λ (t : TransitionData). t.written) c.transition.view_is in
    let goes : c.moved_client-moved_client.result ≡ moved_client (sender_number c.args.event.now) c.args.transition.response = search rules in
    let before : c.args.prepared.before ≡ fingerprint Stays (index_at i c.args.event.now) i.parts i.shared.library = search rules in
    let shown : raised ≡ raised_in (raised_by_fingerprint (moved_client (sender_number c.args.event.now) c.args.transition.response) false false c.args.transition.written (fingerprint Stays (index_at i c.args.event.now) i.parts i.shared.library) i.parts i.shared.library) =
    ap raised_in c.changed-raised.ensures ∙ (λ j. raised_in (raised_by_fingerprint (goes j) false false (written_is j) (before j) i.parts i.shared.library)) in
    written_step i c.args.event.now c.args.transition c.requires.alone raised shown c.ended_after-state.result c.tell.new.clients.items c.ended_after-state.ensures c.rest.ensures.same
    (c.tell.ensures.clients ∙ (λ j. clients_after (c.sender_number-number.ensures j) raised (c.into_telling-telling.ensures.response j) i.clients))

pub returns-clause-notices : goal.returns-clause-notices
returns-clause-notices c =
    let i : Image = image_of_state c.args.state.now in
    let raised : Client → Subsystems = raised_in c.changed-raised.result in
    let written_is : c.transition.inside.written ≡ c.args.transition.written = ap (λ (t : TransitionData). t.written) c.transition.view_is in
    let goes : c.moved_client-moved_client.result ≡ moved_client (sender_number c.args.event.now) c.args.transition.response = search rules in
    let before : c.args.prepared.before ≡ fingerprint Stays (index_at i c.args.event.now) i.parts i.shared.library = search rules in
    let shown : raised ≡ raised_in (raised_by_fingerprint (moved_client (sender_number c.args.event.now) c.args.transition.response) false false c.args.transition.written (fingerprint Stays (index_at i c.args.event.now) i.parts i.shared.library) i.parts i.shared.library) =
    ap raised_in c.changed-raised.ensures ∙ (λ j. raised_in (raised_by_fingerprint (goes j) false false (written_is j) (before j) i.parts i.shared.library)) in
    written_notices i c.args.event.now c.args.transition c.requires.alone raised shown (listed c.tell.result.notices)
    (c.tell.ensures.notices ∙ (λ j. notices_after (c.sender_number-number.ensures j) raised (c.into_telling-telling.ensures.response j) i.clients))
