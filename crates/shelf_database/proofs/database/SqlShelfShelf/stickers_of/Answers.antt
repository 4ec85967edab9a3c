use Rattle.std.proofs.Common.{◌≡◌, Option, true, inl, rules}
use Rattle.sqlite.specs.Held.{state}
use Rattle.shelf.specs.declared.faults.ShelfFault.{ShelfFault}
use Rattle.shelf.specs.Calls.{StickersOf}
use Rattle.shelf.specs.Maps.{refusal_of_target}
use Rattle.shelf_database.specs.Tables.{note_maps}
use Rattle.shelf_database.specs.Faults.{HasFailed, StoreFailed}
use Rattle.shelf_database.specs.Notes.{no_note_refusal}
use Rattle.shelf_database.proofs.AskLemmas.{handed_on, refused_answers}
use Rattle.shelf_database.proofs.ThereLemmas.{changes_there, answers_there, target_alone}
use Rattle.shelf_database.proofs.database.SqlShelfShelf.stickers_of.Goals as goal

pub returns-in_err-has_target-clause-changes : goal.returns-in_err-has_target-clause-changes
returns-in_err-has_target-clause-changes g c = rw (handed_on c.from_residual.result _ c.from_residual.ensures.1) (c.in_err-has_target.ensures.refused.changes _)

pub returns-in_err-has_target-clause-answers : goal.returns-in_err-has_target-clause-answers
returns-in_err-has_target-clause-answers g c = λ trusted.
    let old = state g.S.Store c.args.self.now.connection in
    let new = state g.S.Store c.has_target.new.connection in
    rw (handed_on c.from_residual.result _ c.from_residual.ensures.1) (refused_answers (Unit {0}) old new (HasFailed old new) (StoreFailed old new (StickersOf c.args.kind c.args.target.now)) (refusal_of_target (note_maps old.now.trees) c.args.kind c.args.target.now) c.in_err-has_target.field-0.0 (λ failed. inl failed) c.in_err-has_target.ensures.refused trusted)

pub returns-clause-changes : goal.returns-clause-changes
returns-clause-changes g c =
    changes_there g.S.Store c.args.self.now.connection c.has_target.new.connection c.in_ok-has_target.ensures.reads (state g.S.Store c.notes_of.new.connection) (StickersOf c.args.kind c.args.target.now) c.notes_of.result c.notes_of.ensures.changes

pub returns-clause-answers : goal.returns-clause-answers
returns-clause-answers g c = λ trusted.
    let old = state g.S.Store c.args.self.now.connection in
    let first : Option ShelfFault = refusal_of_target (note_maps old.now.trees) c.args.kind c.args.target.now in
    let is : c.in_ok-has_target.field-0 ≡ true = search rules in
    target_alone first (StoreFailed old (state g.S.Store c.notes_of.new.connection) (StickersOf c.args.kind c.args.target.now)) c.notes_of.result (answers_there g.S.Store c.args.self.now.connection c.has_target.new.connection c.in_ok-has_target.ensures.reads (state g.S.Store c.notes_of.new.connection) (StickersOf c.args.kind c.args.target.now) c.notes_of.result first (no_note_refusal) c.notes_of.ensures.changes
    (λ clean ready. rw is at (c.in_ok-has_target.ensures.found clean ready)) c.notes_of.ensures.answers trusted)
