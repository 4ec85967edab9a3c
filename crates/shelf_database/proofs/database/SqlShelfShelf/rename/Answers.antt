use Rattle.std.proofs.Common.{◌≡◌, ℕ, List, true, false, is_some, is_ok, rules, sym, subst, ◌∙◌, inl, inr}
use Rattle.std.proofs.lemmas.Result.{IfErr-weaker}
use Rattle.sqlite.specs.State.{State, HasCleanDisk}
use Rattle.sqlite.specs.Effect.{Database}
use Rattle.sqlite.specs.Held.{state}
use Rattle.shelf.specs.Calls.{Rename}
use Rattle.shelf.specs.Maps.{with_renamed, refusal_of_rename}
use Rattle.shelf_database.proofs.FaultLemmas.{failed_after}
use Rattle.shelf_database.proofs.QueryLemmas.{ready_same, read_then}
use Rattle.shelf_database.specs.Faults.{HasFailed, CannotDo, StoreFailed}
use Rattle.shelf_database.specs.Tables.{note_maps, IsReady, Reads}
use Rattle.shelf_database.specs.Moves.{HasNames}
use Rattle.shelf_database.proofs.AskLemmas.{handed_on, refused_answers, for_this, answers_fault, answers_done}
use Rattle.shelf_database.proofs.RenameChanges.{rename_changes}
use Rattle.shelf_database.proofs.database.SqlShelfShelf.rename.Goals as goal

pub returns-in_err-has_list-clause-changes : goal.returns-in_err-has_list-clause-changes
returns-in_err-has_list-clause-changes g c = rw (handed_on c.from_residual.result _ c.from_residual.ensures.1) (c.in_err-has_list.ensures.refused.changes _)

pub returns-in_err-has_list-2-clause-changes : goal.returns-in_err-has_list-2-clause-changes
returns-in_err-has_list-2-clause-changes g c =
    let old = state g.S.Store c.args.self.now.connection in
    let after = with_renamed (note_maps old.now.trees) c.args.name.now c.args.new_name.now in
    rw (handed_on c.from_residual-in_err-has_list-2.result _ c.from_residual-in_err-has_list-2.ensures.1)
    (read_then old (state g.S.Store c.has_list.new.connection) (state g.S.Store c.has_list-2.new.connection) false after c.in_ok-has_list.ensures.reads (c.in_err-has_list-2.ensures.refused.changes after))

pub returns-in_err-has_list-clause-answers : goal.returns-in_err-has_list-clause-answers
returns-in_err-has_list-clause-answers g c = λ trusted.
    let old = state g.S.Store c.args.self.now.connection in
    let new = state g.S.Store c.has_list.new.connection in
    rw (handed_on c.from_residual.result _ c.from_residual.ensures.1) (refused_answers (Unit {0}) old new (HasFailed old new) (StoreFailed old new (Rename c.args.name.now c.args.new_name.now)) (refusal_of_rename (note_maps old.now.trees) c.args.name.now c.args.new_name.now)
    c.in_err-has_list.field-0.0 (λ failed. inl failed) c.in_err-has_list.ensures.refused trusted)

pub returns-in_err-has_list-2-clause-answers : goal.returns-in_err-has_list-2-clause-answers
returns-in_err-has_list-2-clause-answers g c = λ trusted.
    let old = state g.S.Store c.args.self.now.connection in
    let mid = state g.S.Store c.has_list.new.connection in
    let new = state g.S.Store c.has_list-2.new.connection in
    let ready = trusted.1.ready in
    let reads = c.in_ok-has_list.ensures.reads in
    let refuses = c.in_err-has_list-2.ensures.refused in
    let clean = (refuses.changes (note_maps old.now.trees)).clean trusted.0 in
    let failed : Type 0 = StoreFailed old new (Rename c.args.name.now c.args.new_name.now) in
    let told = for_this (HasFailed mid new) failed c.in_err-has_list-2.field-0.0 (λ why. inl (failed_after old mid new reads clean ready why)) (refuses.told trusted.0 (ready_same old mid ready (reads.same clean ready))) in
    rw (handed_on c.from_residual-in_err-has_list-2.result _ c.from_residual-in_err-has_list-2.ensures.1)
    (answers_fault (Unit {0}) failed (refusal_of_rename (note_maps old.now.trees) c.args.name.now c.args.new_name.now) c.in_err-has_list-2.field-0.0 told)

-- the two queries say which of the names are there
can_rename : (old mid late : State) (name other : List ℕ) → Reads old mid → Reads mid late → HasCleanDisk late → IsReady old → (HasCleanDisk mid → IsReady old → is_some ((note_maps old.now.trees).lists name) ≡ true)
    → (HasCleanDisk late → IsReady mid → is_some ((note_maps mid.now.trees).lists other) ≡ false) → HasNames name other late.now
can_rename old mid late name other first second clean ready there free =
    let same = first.same (second.clean clean) ready in
    let then_ready = ready_same old mid ready same in
    let again = second.same clean then_ready in
    record {
      shelf = (ready_same mid late then_ready again).shelf;
      there = subst (λ (d : Database). is_some ((note_maps d.trees).lists name) ≡ true) (sym (again.0.now_is ∙ same.0.now_is)) (there (second.clean clean) ready);
      free = subst (λ (d : Database). is_some ((note_maps d.trees).lists other) ≡ false) (sym again.0.now_is) (free clean then_ready);
    }

pub returns-clause-changes : goal.returns-clause-changes
returns-clause-changes g c =
    let old = state g.S.Store c.args.self.now.connection in
    let mid = state g.S.Store c.has_list.new.connection in
    let late = state g.S.Store c.has_list-2.new.connection in
    let new = state g.S.Store c.rename_list.new.connection in
    let first = c.in_ok-has_list.ensures.reads in
    let second = c.in_ok-has_list-2.ensures.reads in
    let there : c.in_ok-has_list.field-0 ≡ true = search rules in
    let free : c.in_ok-has_list-2.field-0 ≡ false = search rules in
    rename_changes old mid late new c.args.name.now c.args.new_name.now (is_ok c.rename_list.result) first second
    (λ clean ready. sym (c.in_ok-has_list.ensures.found clean ready) ∙ there) (λ clean ready. sym (c.in_ok-has_list-2.ensures.found clean ready) ∙ free) c.rename_list.ensures.changes c.rename_list.ensures.survives

pub returns-clause-answers : goal.returns-clause-answers
returns-clause-answers g c = λ trusted.
    let old = state g.S.Store c.args.self.now.connection in
    let mid = state g.S.Store c.has_list.new.connection in
    let late = state g.S.Store c.has_list-2.new.connection in
    let new = state g.S.Store c.rename_list.new.connection in
    let first = c.in_ok-has_list.ensures.reads in
    let second = c.in_ok-has_list-2.ensures.reads in
    let name = c.args.name.now in
    let other = c.args.new_name.now in
    let clean : HasCleanDisk late = (c.rename_list.ensures.survives).0 trusted.0 in
    let ready = trusted.1.ready in
    let same = first.same (second.clean clean) ready in
    let then_ready = ready_same old mid ready same in
    let again = second.same clean then_ready in
    let late_ready = ready_same mid late then_ready again in
    let now : late.now ≡ old.now = again.0.now_is ∙ same.0.now_is in
    let has = can_rename old mid late name other first second clean ready (λ c1 r1. sym (c.in_ok-has_list.ensures.found c1 r1) ∙ search rules) (λ c1 r1. sym (c.in_ok-has_list-2.ensures.found c1 r1) ∙ search rules) in
    let there = subst (λ (d : Database). is_some ((note_maps d.trees).lists name) ≡ true) now has.there in
    let lacks = subst (λ (d : Database). is_some ((note_maps d.trees).lists other) ≡ false) now has.free in
    let failed : Type 0 = StoreFailed old new (Rename name other) in
    let blames = IfErr-weaker c.rename_list.result _ _ (λ fault told. for_this (StoreFailed late new (Rename name other)) failed fault (λ why. elim why [
      | inl store ↦ inl (failed_after old mid new first (second.clean clean) ready (failed_after mid late new second clean then_ready store))
      | inr cannot ↦ inr (subst (λ (d : Database). CannotDo d.trees (Rename name other)) now cannot)
    ]) told) (c.rename_list.ensures.blamed (λ c1 r1. has) trusted.0 late_ready) in
    answers_done failed (refusal_of_rename (note_maps old.now.trees) name other) c.rename_list.result (search (rules, there, lacks)) blames
