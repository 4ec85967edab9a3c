use Rattle.std.proofs.Common.{[], ◌∷◌, map, string_bytes, sym, ◌∙◌, is_ok, inl, refl, true}
use Rattle.std.proofs.lemmas.Result.{IfOk-weaker}
use Rattle.std.proofs.lemmas.Simd.{map-map}
use Rattle.sqlite.specs.declared.types.Value.TheVariants.{Text}
use Rattle.sqlite.specs.Held.{state}
use Rattle.shelf.specs.Calls.{Lists}
use Rattle.shelf.specs.Maps.{no_refusal}
use Rattle.shelf_database.specs.Faults.{HasFailed, LacksText, StoreFailed}
use Rattle.shelf_database.proofs.AskLemmas.{asked_reads, asked_answer, asked_refuses, refused_answers, handed_on}
use Rattle.shelf_database.proofs.BlameLemmas.{names_asked}
use Rattle.shelf_database.proofs.FaultLemmas.{answers_for}
use Rattle.shelf_database.proofs.HoldsLemmas.{one_never_lacks}
use Rattle.shelf_database.proofs.LacksLemmas.{names_lack}
use Rattle.shelf_database.proofs.QueryLemmas.{read_changes}
use Rattle.shelf_database.proofs.ShownLemmas.{lists_shown}
use Rattle.shelf_database.proofs.database.SqlShelfShelf.lists.Goals as goal

pub returns-in_err-rows-clause-changes : goal.returns-in_err-rows-clause-changes
returns-in_err-rows-clause-changes g c =
    let refuses = asked_refuses _ _ names_asked (state g.S.Store c.args.self.now.connection) (state g.S.Store c.ask.new.connection) c.ask.ensures.survives c.in_err-rows.field-0.0 c.in_err-rows.ensures.refused in
    rw (handed_on c.from_residual.result _ c.from_residual.ensures.1) (refuses.changes _)

pub returns-in_err-rows-clause-answers : goal.returns-in_err-rows-clause-answers
returns-in_err-rows-clause-answers g c = λ trusted.
    let old = state g.S.Store c.args.self.now.connection in
    let new = state g.S.Store c.ask.new.connection in
    let refuses = asked_refuses _ _ names_asked old new c.ask.ensures.survives c.in_err-rows.field-0.0 c.in_err-rows.ensures.refused in
    rw (handed_on c.from_residual.result _ c.from_residual.ensures.1) (refused_answers (Unit {0}) old new (HasFailed old new) (StoreFailed old new Lists) no_refusal c.in_err-rows.field-0.0 (λ failed. inl failed) refuses trusted)

pub returns-clause-changes : goal.returns-clause-changes
returns-clause-changes g c =
    let old = state g.S.Store c.args.self.now.connection in
    let new = state g.S.Store c.ask.new.connection in
    read_changes old new (is_ok c.texts_of.result) (asked_reads _ _ names_asked old new c.ask.ensures.survives c.in_ok-rows.rows.items c.in_ok-rows.ensures.shown)

pub returns-clause-names : goal.returns-clause-names
returns-clause-names g c = λ trusted.
    let old = state g.S.Store c.args.self.now.connection in
    let rows = c.in_ok-rows.rows.items in
    let answer = asked_answer _ _ names_asked old (state g.S.Store c.ask.new.connection) c.ask.ensures.survives rows trusted.1.ready (c.in_ok-rows.ensures.shown trusted.0) in
    IfOk-weaker c.texts_of.result _ _ (λ names texts. lists_shown old.now rows (map string_bytes names.items) trusted.1.ready.shelf answer (texts ∙ sym (map-map Text string_bytes names.items))) (rw c.deref.ensures.value at c.texts_of.ensures.texts)

pub returns-clause-answers : goal.returns-clause-answers
returns-clause-answers g c = λ trusted.
    let old = state g.S.Store c.args.self.now.connection in
    let new = state g.S.Store c.ask.new.connection in
    let rows = c.in_ok-rows.rows.items in
    let answer = asked_answer _ _ names_asked old new c.ask.ensures.survives rows trusted.1.ready (c.in_ok-rows.ensures.shown trusted.0) in
    answers_for (LacksText (0 ∷ []) (λ _. true) rows) (StoreFailed old new Lists) _ c.texts_of.result (λ lacks. absurd (one_never_lacks (1 ∷ 2 ∷ []) 1 (λ _. true) (old.now.trees 1) trusted.1.texts.lists (inl refl) (names_lack old.now.trees rows answer lacks))) (rw c.deref.ensures.value at c.texts_of.ensures.answers)
