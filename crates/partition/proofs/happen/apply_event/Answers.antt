use Rattle.std.proofs.Common.{◌≡◌, ◌∙◌, inr, false, Result, Ok, Err, ap, sym, subst, rules}
use Rattle.std.specs.Prelude.{IfErr, IfOk, OnErr, OnOk}
use Rattle.shelf.specs.Maps.{Trusted}
use Rattle.player_events.specs.declared.event.Event.{Event}
use Rattle.partition.specs.Image.{Image, image_of_state}
use Rattle.transitions.specs.Transitions.{TransitionData}
use Rattle.connected_clients.specs.Rooms.{listed}
use Rattle.transitions.specs.Shelves.{IsRead, is_written}
use Rattle.player_events.specs.Events.{with_store_reply, store_reply_at}
use Rattle.partition.specs.Step.{question_of, told_by, transition}
use Rattle.partition.proofs.Lending.{uncalled}
use Rattle.partition.proofs.Serving.{heard_read, heard_so, serves_unwritten, serves_written, unchanged}
use Rattle.partition.proofs.Writing.{hears_last}
use Rattle.partition.proofs.happen.apply_event.Goals as goal

on_ok : {X E : Type 0} {Z : Type 0} (r : Result X E) → Z → OnOk r Z
on_ok (Ok x) z = z
on_ok (Err e) z = tt

on_err : {X E : Type 0} {Z : Type 0} (r : Result X E) → Z → OnErr r Z
on_err (Ok x) z = tt
on_err (Err e) z = z

if_err : {X E : Type 0} {Q : E → Type 0} (r : Result X E) → ((e : E) → Q e) → IfErr r Q
if_err (Ok x) q = tt
if_err (Err e) q = q e

on_ok_from : {X E : Type 0} {P Q R Z : Type 0} (r : Result X E) → (P → Q → R → Z) → OnOk r P → OnOk r Q → OnOk r R → OnOk r Z
on_ok_from (Ok x) more p q s = more p q s
on_ok_from (Err e) more p q s = tt

pub returns-in_err-transition-clause-unchanged : goal.returns-in_err-transition-clause-unchanged
returns-in_err-transition-clause-unchanged g c =
    on_err c.from_residual-in_err-transition.result (unchanged g.S.Shelf.standing g.S.Shelf.failed c.args.shelf.now c.ask_shelf.new.shelf c.ask_shelf.new.shelf _ _
    c.ask_shelf.ensures.changes (uncalled (g.S.Shelf.standing c.ask_shelf.new.shelf) (g.S.Shelf.standing c.args.shelf.now).maps))

pub returns-then-is_written-clause-event : goal.returns-then-is_written-clause-event
returns-then-is_written-clause-event g c =
    heard_so c.args.event.now c.write_transition.new.event _
    (c.write_transition.ensures.event ∙ ap (λ (e : Event). with_store_reply e (record (store_reply_at c.hear.new.self) { refused = (store_reply_at c.write_transition.new.event).refused })) c.hear.ensures
    ∙ hears_last c.args.event.now (heard_read c.in_ok-read.read) (record (store_reply_at c.hear.new.self) { refused = (store_reply_at c.write_transition.new.event).refused }))

pub returns-then-is_written-clause-shelf : goal.returns-then-is_written-clause-shelf
returns-then-is_written-clause-shelf g c =
    let i : Image = image_of_state c.args.state.now in
    on_ok_from c.write_transition.result
    (λ changes answers ample.
    serves_written g.S.Shelf.standing g.S.Shelf.failed i c.args.event.now c.write_transition.new.event c.in_ok-read.read (store_reply_at c.write_transition.new.event).refused c.in_ok-transition.transition.written
    c.args.shelf.now c.ask_shelf.new.shelf c.write_transition.new.shelf c.in_ok-read.ensures.changes
    (subst (λ ks. Trusted (g.S.Shelf.standing c.args.shelf.now) (g.S.Shelf.standing c.ask_shelf.new.shelf)
    → IsRead (g.S.Shelf.failed c.args.shelf.now c.ask_shelf.new.shelf) (g.S.Shelf.standing c.args.shelf.now).maps (question_of i.shared.library ks c.args.event.now) c.in_ok-read.read) c.deref.ensures.value c.in_ok-read.ensures.read)
    (ap (λ (t : TransitionData). t.written) (c.in_ok-transition.ensures.transition ∙ ap (transition i) c.hear.ensures))
    (c.write_transition.ensures.event ∙ ap (λ (e : Event). with_store_reply e (record (store_reply_at e) { refused = (store_reply_at c.write_transition.new.event).refused })) c.hear.ensures)
    changes answers ample)
    c.write_transition.ensures.changes c.write_transition.ensures.answers c.write_transition.ensures.ample

pub returns-clause-event : goal.returns-clause-event
returns-clause-event g c =
    heard_so c.args.event.now c.hear.new.self (heard_read c.in_ok-read.read)
    c.hear.ensures

pub returns-clause-notices : goal.returns-clause-notices
returns-clause-notices g c =
    let i : Image = image_of_state c.args.state.now in
    subst (λ (t : TransitionData). IfOk c.apply_transition.result (λ applied. listed applied.notices ≡ (told_by i c.hear.new.self t).notices))
    c.in_ok-transition.ensures.transition c.apply_transition.ensures.notices

pub returns-clause-shelf : goal.returns-clause-shelf
returns-clause-shelf g c =
    let i : Image = image_of_state c.args.state.now in
    let none : is_written c.in_ok-transition.transition.written ≡ false = search rules in
    on_ok c.apply_transition.result
    (serves_unwritten g.S.Shelf.standing g.S.Shelf.failed i c.args.event.now c.hear.new.self c.in_ok-read.read c.args.shelf.now c.ask_shelf.new.shelf c.in_ok-read.ensures.changes
    (subst (λ ks. Trusted (g.S.Shelf.standing c.args.shelf.now) (g.S.Shelf.standing c.ask_shelf.new.shelf)
    → IsRead (g.S.Shelf.failed c.args.shelf.now c.ask_shelf.new.shelf) (g.S.Shelf.standing c.args.shelf.now).maps (question_of i.shared.library ks c.args.event.now) c.in_ok-read.read) c.deref.ensures.value c.in_ok-read.ensures.read)
    (sym (ap (λ (t : TransitionData). is_written t.written) (c.in_ok-transition.ensures.transition ∙ ap (transition i) c.hear.ensures)) ∙ none)
    c.hear.ensures)

pub returns-clause-cause : goal.returns-clause-cause
returns-clause-cause g c =
    let i : Image = image_of_state c.args.state.now in
    let none : is_written c.in_ok-transition.transition.written ≡ false = search rules in
    if_err c.apply_transition.result (λ fault. inr
    (serves_unwritten g.S.Shelf.standing g.S.Shelf.failed i c.args.event.now c.hear.new.self c.in_ok-read.read c.args.shelf.now c.ask_shelf.new.shelf c.in_ok-read.ensures.changes
    (subst (λ ks. Trusted (g.S.Shelf.standing c.args.shelf.now) (g.S.Shelf.standing c.ask_shelf.new.shelf)
    → IsRead (g.S.Shelf.failed c.args.shelf.now c.ask_shelf.new.shelf) (g.S.Shelf.standing c.args.shelf.now).maps (question_of i.shared.library ks c.args.event.now) c.in_ok-read.read) c.deref.ensures.value c.in_ok-read.ensures.read)
    (sym (ap (λ (t : TransitionData). is_written t.written) (c.in_ok-transition.ensures.transition ∙ ap (transition i) c.hear.ensures)) ∙ none)
    c.hear.ensures))

pub returns-clause-unchanged : goal.returns-clause-unchanged
returns-clause-unchanged g c =
    on_err c.apply_transition.result (unchanged g.S.Shelf.standing g.S.Shelf.failed c.args.shelf.now c.ask_shelf.new.shelf c.ask_shelf.new.shelf _ _
    c.ask_shelf.ensures.changes (uncalled (g.S.Shelf.standing c.ask_shelf.new.shelf) (g.S.Shelf.standing c.args.shelf.now).maps))
