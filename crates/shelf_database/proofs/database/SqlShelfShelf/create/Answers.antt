use Rattle.std.proofs.Common.{Some, is_ok, inl, inr, subst, ◌≡◌, rules, sym, ◌∙◌, is_some, false}
use Rattle.sqlite.specs.Held.{state}
use Rattle.sqlite.specs.Effect.{Database}
use Rattle.shelf.specs.Maps.{Maps, refusal_of_create, with_list}
use Rattle.shelf.specs.Calls.{Put, Create}
use Rattle.shelf_database.specs.Tables.{note_maps}
use Rattle.shelf_database.specs.Faults.{HasFailed, CannotDo, StoreFailed}
use Rattle.shelf_database.proofs.AskLemmas.{handed_on, refused_answers}
use Rattle.shelf_database.proofs.QueryLemmas.{own_same, read_then_by}
use Rattle.shelf_database.proofs.FaultLemmas.{answers_for, failed_after}
use Rattle.shelf_database.proofs.database.SqlShelfShelf.create.Goals as goal

pub returns-clause-changes : goal.returns-clause-changes
returns-clause-changes g c =
    let made : Maps → Maps = λ maps. with_list maps c.args.name.now (Some c.args.uris.now) in
    read_then_by (state g.S.Store c.args.self.now.connection) (state g.S.Store c.has_list.new.connection) (state g.S.Store c.put.new.self.connection) (is_ok c.put.result) made
    c.in_ok-has_list.ensures.reads c.put.ensures.changes

pub returns-in_err-has_list-clause-changes : goal.returns-in_err-has_list-clause-changes
returns-in_err-has_list-clause-changes g c = rw (handed_on c.from_residual.result _ c.from_residual.ensures.1) (c.in_err-has_list.ensures.refused.changes _)

pub returns-in_err-has_list-clause-answers : goal.returns-in_err-has_list-clause-answers
returns-in_err-has_list-clause-answers g c = λ trusted.
    let old = state g.S.Store c.args.self.now.connection in
    let new = state g.S.Store c.has_list.new.connection in
    rw (handed_on c.from_residual.result _ c.from_residual.ensures.1) (refused_answers (Unit {0}) old new (HasFailed old new) (StoreFailed old new (Create c.args.name.now c.args.uris.now))
    (refusal_of_create (note_maps old.now.trees) c.args.name.now) c.in_err-has_list.field-0.0 (λ failed. inl failed) c.in_err-has_list.ensures.refused trusted)

pub returns-clause-answers : goal.returns-clause-answers
returns-clause-answers g c = λ trusted.
    let old = state g.S.Store c.args.self.now.connection in
    let mid = state g.S.Store c.has_list.new.connection in
    let new = state g.S.Store c.put.new.self.connection in
    let uris = c.args.uris.now in
    let clean = c.put.ensures.changes.clean trusted.0 in
    let reads = c.in_ok-has_list.ensures.reads in
    let same = reads.same clean trusted.1.ready in
    let free : is_some ((note_maps old.now.trees).lists c.args.name.now) ≡ false = sym (c.in_ok-has_list.ensures.found clean trusted.1.ready) ∙ search rules in
    let put_failed : StoreFailed mid new (Put c.args.name.now uris) → StoreFailed old new (Create c.args.name.now uris) = λ failed. elim failed [
      | inl store ↦ inl (failed_after old mid new reads clean trusted.1.ready store)
      | inr unstorable ↦ inr (subst (λ (d : Database). CannotDo d.trees (Create c.args.name.now uris)) same.0.now_is unstorable)
    ] in
    let told = answers_for _ (StoreFailed old new (Create c.args.name.now uris)) _ c.put.result put_failed (c.put.ensures.answers (trusted.0, own_same old mid trusted.1 same)) in
    rw free told
