use Rattle.std.proofs.Common.{◌≡◌, true, is_some, is_ok, inl, rules, refl, sym, ◌∙◌}
use Rattle.std.proofs.lemmas.Result.{IfErr-weaker}
use Rattle.sqlite.specs.Held.{state}
use Rattle.shelf.specs.Calls.{Remove}
use Rattle.shelf_database.specs.Tables.{note_maps}
use Rattle.shelf_database.specs.Faults.{HasFailed, StoreFailed}
use Rattle.shelf.specs.Maps.{with_removed, refusal_of_list}
use Rattle.shelf_database.proofs.AskLemmas.{handed_on, for_this, refused_answers, answers_done}
use Rattle.shelf_database.proofs.QueryLemmas.{ready_same, read_then_by}
use Rattle.shelf_database.proofs.ThereLemmas.{failed_then}
use Rattle.shelf_database.proofs.database.SqlShelfShelf.remove.Goals as goal

pub returns-in_err-has_list-clause-changes : goal.returns-in_err-has_list-clause-changes
returns-in_err-has_list-clause-changes g c = rw (handed_on c.from_residual.result _ c.from_residual.ensures.1) (c.in_err-has_list.ensures.refused.changes _)

pub returns-in_err-has_list-clause-answers : goal.returns-in_err-has_list-clause-answers
returns-in_err-has_list-clause-answers g c = λ trusted.
    let old = state g.S.Store c.args.self.now.connection in
    let new = state g.S.Store c.has_list.new.connection in
    rw (handed_on c.from_residual.result _ c.from_residual.ensures.1) (refused_answers (Unit {0}) old new (HasFailed old new) (StoreFailed old new (Remove c.args.name.now)) (refusal_of_list (note_maps old.now.trees) c.args.name.now) c.in_err-has_list.field-0.0 (λ failed. inl failed) c.in_err-has_list.ensures.refused trusted)

pub returns-clause-changes : goal.returns-clause-changes
returns-clause-changes g c =
    read_then_by (state g.S.Store c.args.self.now.connection) (state g.S.Store c.has_list.new.connection) (state g.S.Store c.remove_list.new.connection) (is_ok c.remove_list.result) (λ maps. with_removed maps c.args.name.now) c.in_ok-has_list.ensures.reads c.remove_list.ensures.changes

pub returns-clause-answers : goal.returns-clause-answers
returns-clause-answers g c = λ trusted.
    let old = state g.S.Store c.args.self.now.connection in
    let mid = state g.S.Store c.has_list.new.connection in
    let new = state g.S.Store c.remove_list.new.connection in
    let reads = c.in_ok-has_list.ensures.reads in
    let clean = c.remove_list.ensures.changes.clean trusted.0 in
    let ready = ready_same old mid trusted.1.ready (reads.same clean trusted.1.ready) in
    let there : is_some ((note_maps old.now.trees).lists c.args.name.now) ≡ true = sym (c.in_ok-has_list.ensures.found clean trusted.1.ready) ∙ search rules in
    let failed : Type 0 = StoreFailed old new (Remove c.args.name.now) in
    let blames = IfErr-weaker c.remove_list.result _ _ (λ fault told. for_this (StoreFailed mid new (Remove c.args.name.now)) failed fault (λ why. failed_then old mid new (Remove c.args.name.now) reads clean trusted why) told) (c.remove_list.ensures.blamed trusted.0 ready) in
    answers_done failed (refusal_of_list (note_maps old.now.trees) c.args.name.now) c.remove_list.result (rw there refl) blames
