use Rattle.std.proofs.Common.{◌≡◌, Option, true, inl, rules}
use Rattle.sqlite.specs.Held.{state}
use Rattle.shelf.specs.declared.faults.ShelfFault.{ShelfFault}
use Rattle.shelf.specs.Calls.{DeleteStickers}
use Rattle.shelf.specs.Maps.{refusal_of_target}
use Rattle.shelf_database.specs.Tables.{note_maps}
use Rattle.shelf_database.specs.Faults.{HasFailed, StoreFailed}
use Rattle.shelf_database.proofs.AskLemmas.{handed_on, for_this, answers_all_fault}
use Rattle.shelf_database.proofs.ThereLemmas.{changes_there, all_answers_there}
use Rattle.shelf_database.proofs.database.SqlShelfShelf.delete_stickers.Goals as goal

pub returns-in_err-has_target-clause-changes : goal.returns-in_err-has_target-clause-changes
returns-in_err-has_target-clause-changes g c = rw (handed_on c.from_residual.result _ c.from_residual.ensures.1) (c.in_err-has_target.ensures.refused.changes _)

pub returns-in_err-has_target-clause-answers : goal.returns-in_err-has_target-clause-answers
returns-in_err-has_target-clause-answers g c = λ trusted.
    let old = state g.S.Store c.args.self.now.connection in
    let new = state g.S.Store c.has_target.new.connection in
    let fault = c.in_err-has_target.field-0.0 in
    let told = for_this (HasFailed old new) (StoreFailed old new (DeleteStickers c.args.kind c.args.target.now)) fault (λ failed. inl failed) (c.in_err-has_target.ensures.refused.told trusted.0 trusted.1.ready) in
    rw (handed_on c.from_residual.result _ c.from_residual.ensures.1) (answers_all_fault (Unit {0}) (StoreFailed old new (DeleteStickers c.args.kind c.args.target.now)) (refusal_of_target (note_maps old.now.trees) c.args.kind c.args.target.now) _ fault told)

pub returns-clause-changes : goal.returns-clause-changes
returns-clause-changes g c =
    changes_there g.S.Store c.args.self.now.connection c.has_target.new.connection c.in_ok-has_target.ensures.reads (state g.S.Store c.delete_notes.new.connection) (DeleteStickers c.args.kind c.args.target.now) c.delete_notes.result c.delete_notes.ensures.changes

pub returns-clause-answers : goal.returns-clause-answers
returns-clause-answers g c = λ trusted.
    let old = state g.S.Store c.args.self.now.connection in
    let first : Option ShelfFault = refusal_of_target (note_maps old.now.trees) c.args.kind c.args.target.now in
    let is : c.in_ok-has_target.field-0 ≡ true = search rules in
    all_answers_there g.S.Store c.args.self.now.connection c.has_target.new.connection c.in_ok-has_target.ensures.reads (state g.S.Store c.delete_notes.new.connection) c.args.kind c.args.target.now c.delete_notes.result first c.delete_notes.ensures.changes
    (λ clean ready. rw is at (c.in_ok-has_target.ensures.found clean ready)) c.delete_notes.ensures.answers trusted
