use Rattle.std.proofs.Common.{is_ok, ◌∙◌, Bool, true}
use Rattle.std.proofs.lemmas.Result.{err_from_is_err_and, IfErr-weaker}
use Rattle.sqlite.specs.Effect.{Database}
use Rattle.sqlite.specs.declared.error.Error.{Error}
use Rattle.sqlite.specs.Held.{state}
use Rattle.sqlite.specs.State.{State}
use Rattle.shelf_database.specs.Opens.{Leads, IsStoppedFor, NoReason, HasNothing, HasStickers, HasFormer, MakesNotes, HasNoNumber, NotesNumber, HasTables}
use Rattle.shelf_database.proofs.MakingLemmas.{leads_then}
use Rattle.shelf_database.proofs.MakingBlame.{IsLater, later, later_then, stopped_after}
use Rattle.shelf_database.proofs.profile.fill.Goals as goal

-- the four tables, which are all empty
tables_made : (was db late : Database) → HasStickers was → MakesNotes was db → NotesNumber db late → HasTables late
tables_made was db late empty made noted = record {
  schema = noted.schema;
  sound = noted.sound;
  number = noted.number;
  lists = noted.lists ∙ made.lists ∙ empty.2;
  stickers = noted.stickers ∙ made.stickers ∙ empty.3;
  notes = noted.notes ∙ made.notes;
}

narrowed : (old new : State) (is_done : Bool) → Leads HasFormer MakesNotes old new is_done → Leads HasStickers MakesNotes old new is_done
narrowed old new is_done leads = record { done = λ clean is inside before. leads.done clean is inside before.0; kept = leads.kept; survives = leads.survives }

pub returns-clause-leads : goal.returns-clause-leads
returns-clause-leads g c =
    let old = state g.S.Store c.args.transaction.now.conn.now in
    let former = state g.S.Store c.make_former.new.transaction.conn.now in
    let notes = state g.S.Store c.make_notes.new.transaction.conn.now in
    let new = state g.S.Store c.note_number.new.transaction.conn.now in
    let last = later notes new _ c.note_number.ensures.leads.survives in
    let second = later_then former notes new (later former notes _ c.in_ok-make_notes.ensures.leads.survives) last in
    leads_then HasNothing HasStickers (λ was. HasStickers) (λ was. HasTables) (λ was. HasTables) old former new (is_ok c.note_number.result) (λ was db first made. made) (λ was db late first made done. done) second.0 c.in_ok-make_former.ensures.leads
    (leads_then HasStickers HasNoNumber MakesNotes NotesNumber (λ was. HasTables) former notes new (is_ok c.note_number.result) (λ was db first made. record { schema = made.schema; sound = made.sound; profile = made.profile ∙ first.1 })
    (λ was db late first made done. tables_made was db late first made done) last.0 (narrowed former notes true c.in_ok-make_notes.ensures.leads) c.note_number.ensures.leads)

pub returns-in_err-make_former-clause-blamed : goal.returns-in_err-make_former-clause-blamed
returns-in_err-make_former-clause-blamed g c =
    let how = err_from_is_err_and c.from_residual.result c.from_residual.ensures.1 in
    rw (how.1, how.2) c.in_err-make_former.ensures.blamed

module _ (old former new : State) (leads : Leads HasNothing (λ was. HasStickers) old former true) where
  in_notes : (e : Error) → IsLater former new → IsStoppedFor HasFormer NoReason former new e → IsStoppedFor HasNothing NoReason old new e
  in_notes e after stops = stopped_after HasNothing HasFormer (λ was. HasStickers) NoReason NoReason old former new e (λ was db first made. made.0) (λ was db first made why. why) leads after stops

pub returns-in_err-make_notes-clause-blamed : goal.returns-in_err-make_notes-clause-blamed
returns-in_err-make_notes-clause-blamed g c =
    let how = err_from_is_err_and c.from_residual-in_err-make_notes.result c.from_residual-in_err-make_notes.ensures.1 in
    let old = state g.S.Store c.args.transaction.now.conn.now in
    let former = state g.S.Store c.make_former.new.transaction.conn.now in
    let new = state g.S.Store c.make_notes.new.transaction.conn.now in
    rw (how.1, how.2) (in_notes old former new c.in_ok-make_former.ensures.leads _ (later former new _ c.in_err-make_notes.ensures.leads.survives) c.in_err-make_notes.ensures.blamed)

pub returns-clause-blamed : goal.returns-clause-blamed
returns-clause-blamed g c =
    let old = state g.S.Store c.args.transaction.now.conn.now in
    let former = state g.S.Store c.make_former.new.transaction.conn.now in
    let notes = state g.S.Store c.make_notes.new.transaction.conn.now in
    let new = state g.S.Store c.note_number.new.transaction.conn.now in
    let last = later notes new _ c.note_number.ensures.leads.survives in
    let second = later_then former notes new (later former notes _ c.in_ok-make_notes.ensures.leads.survives) last in
    IfErr-weaker c.note_number.result (IsStoppedFor HasNoNumber NoReason notes new) (IsStoppedFor HasNothing NoReason old new) (λ e stops.
    stopped_after HasNothing HasStickers (λ was. HasStickers) NoReason NoReason old former new e (λ was db first made. made) (λ was db first made why. why) c.in_ok-make_former.ensures.leads second
    (stopped_after HasStickers HasNoNumber MakesNotes NoReason NoReason former notes new e (λ was db first made. record { schema = made.schema; sound = made.sound; profile = made.profile ∙ first.1 }) (λ was db first made why. why) (narrowed former notes true c.in_ok-make_notes.ensures.leads) last stops)) c.note_number.ensures.blamed
