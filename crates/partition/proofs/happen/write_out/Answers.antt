use Rattle.std.proofs.Common.{◌≡◌, ◌∙◌, true, false, Option, Some, Err, refl, ap, sym, subst, rules}
use Rattle.shelf.specs.Maps.{Changes}
use Rattle.transitions.specs.declared.shelf_calls.ShelfWrite.{ShelfWrite}
use Rattle.mpd_command.specs.declared.name.Name.{Name}
use Rattle.shelf.specs.declared.faults.ShelfFault.{ShelfFault}
use Rattle.transitions.specs.declared.asked.ListPlace.{ListPlace}
use Rattle.transitions.specs.declared.shelf_calls.StoreReply.{StoreReply}
use Rattle.transitions.specs.Answers.{refused_by_shelf, stays}
use Rattle.transitions.specs.Transitions.{TransitionData}
use Rattle.transitions.specs.Shelves.{IsAnswered, is_out_of_memory, is_written, maps_after}
use Rattle.player_events.specs.Events.{store_reply_at, with_store_reply}
use Rattle.partition.specs.Image.{Image, image_of_state}
use Rattle.partition.specs.Step.{transition}
use Rattle.transitions.specs.Transitions.{quiet}
use Rattle.partition.proofs.Writing.{hears, refused_transition}
use Rattle.partition.proofs.happen.write_out.Goals as goal

pub returns : goal.returns
returns g c =
    let i : Image = image_of_state c.args.state.now in
    let writes : is_written (transition i c.args.event.now).written ≡ true =
    ap (λ (t : TransitionData). is_written t.written) (sym c.requires.transition) ∙ c.requires.written in
    let heard : StoreReply = record { read = (store_reply_at c.args.event.now).read; refused = Some c.in-Err.fault } in
    let heard_is : store_reply_at c.refuse.new.self ≡ heard = ap store_reply_at c.refuse.ensures ∙ hears i c.args.event.now writes heard in
    let refused_is : (store_reply_at c.refuse.new.self).refused ≡ Some c.in-Err.fault = ap (λ (h : StoreReply). h.refused) heard_is in
    let written_is : c.transition.inside.written ≡ c.args.transition.written = ap (λ (t : TransitionData). t.written) c.transition.view_is in
    record {
      event = c.refuse.ensures ∙ ap (λ (r : Option ShelfFault). with_store_reply c.args.event.now (record (store_reply_at c.args.event.now) { refused = r })) (sym refused_is);
      transition = c.only.ensures ∙ ap quiet (c.into_response.ensures ∙ ap (λ (r : ListPlace × Option Name). stays (refused_by_shelf r.0 r.1 c.in-Err.fault)) c.requires.refusals)
          ∙ sym (refused_transition i c.args.event.now c.in-Err.fault writes c.requires.unrefused)
          ∙ ap (transition i) (sym c.refuse.ensures);
      alone = rw c.only.ensures refl;
      changes = rw refused_is (subst (λ (w : ShelfWrite). Changes (g.S.Shelf.standing c.args.shelf.now) (g.S.Shelf.standing c.write.new.shelf) false (maps_after w (g.S.Shelf.standing c.args.shelf.now).maps)) written_is c.in-Err.ensures.changes);
      answers = λ trusted. rw refused_is (subst (λ (w : ShelfWrite). IsAnswered (g.S.Shelf.failed c.args.shelf.now c.write.new.shelf) (g.S.Shelf.standing c.args.shelf.now).maps w (Err c.in-Err.fault)) written_is (c.in-Err.ensures.answers trusted));
      ample = (let none : is_out_of_memory (Some c.in-Err.fault) ≡ false = search rules in ap is_out_of_memory refused_is ∙ none);
      unchanged = tt;
    }
