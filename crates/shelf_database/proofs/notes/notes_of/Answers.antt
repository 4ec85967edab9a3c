use Rattle.std.proofs.Common.{[], ◌∷◌, map, sym, ◌∙◌, is_ok, inl, inr, refl, true}
use Rattle.std.proofs.lemmas.Simd.{map-map}
use Rattle.sqlite.specs.declared.types.Value.TheVariants.{Text}
use Rattle.sqlite.specs.Held.{state}
use Rattle.shelf.specs.Entries.{entry_texts}
use Rattle.shelf.specs.Calls.{StickersOf}
use Rattle.shelf.specs.Maps.{no_refusal}
use Rattle.shelf_database.specs.Tables.{of_target}
use Rattle.shelf_database.specs.Faults.{HasFailed, LacksText, StoreFailed}
use Rattle.shelf_database.proofs.AskLemmas.{asked_reads, asked_answer, asked_refuses, refused_answers, handed_on}
use Rattle.shelf_database.proofs.BlameLemmas.{of_target_asked}
use Rattle.shelf_database.proofs.FaultLemmas.{answers_for}
use Rattle.shelf_database.proofs.HoldsLemmas.{both_never_lack}
use Rattle.shelf_database.proofs.LacksLemmas.{of_target_lack}
use Rattle.shelf_database.proofs.QueryLemmas.{read_changes}
use Rattle.shelf_database.proofs.ShownLemmas.{IfOk-both, of_target_shown}
use Rattle.shelf_database.proofs.notes.notes_of.Goals as goal

pub returns-in_err-rows-clause-changes : goal.returns-in_err-rows-clause-changes
returns-in_err-rows-clause-changes g c =
    let refuses = asked_refuses _ _ (of_target_asked c.args.kind c.args.target.now) (state g.S.Store c.args.connection.now) (state g.S.Store c.ask.new.connection) (rw (c.params-to_sql.ensures, c.params-to_sql-2.ensures, c.kind_text-word.ensures) at c.ask.ensures.survives) c.in_err-rows.field-0.0 (rw (c.params-to_sql.ensures, c.params-to_sql-2.ensures, c.kind_text-word.ensures) at c.in_err-rows.ensures.refused) in
    rw (handed_on c.from_residual.result _ c.from_residual.ensures.1) (refuses.changes _)

pub returns-in_err-rows-clause-answers : goal.returns-in_err-rows-clause-answers
returns-in_err-rows-clause-answers g c = λ trusted.
    let old = state g.S.Store c.args.connection.now in
    let new = state g.S.Store c.ask.new.connection in
    let refuses = asked_refuses _ _ (of_target_asked c.args.kind c.args.target.now) old new (rw (c.params-to_sql.ensures, c.params-to_sql-2.ensures, c.kind_text-word.ensures) at c.ask.ensures.survives) c.in_err-rows.field-0.0 (rw (c.params-to_sql.ensures, c.params-to_sql-2.ensures, c.kind_text-word.ensures) at c.in_err-rows.ensures.refused) in
    rw (handed_on c.from_residual.result _ c.from_residual.ensures.1) (refused_answers (Unit {0}) old new (HasFailed old new) (StoreFailed old new (StickersOf c.args.kind c.args.target.now)) no_refusal c.in_err-rows.field-0.0 (λ failed. inl failed) refuses trusted)

pub returns-clause-changes : goal.returns-clause-changes
returns-clause-changes g c =
    let old = state g.S.Store c.args.connection.now in
    let new = state g.S.Store c.ask.new.connection in
    read_changes old new (is_ok c.entries_of.result) (asked_reads _ _ (of_target_asked c.args.kind c.args.target.now) old new (rw (c.params-to_sql.ensures, c.params-to_sql-2.ensures, c.kind_text-word.ensures) at c.ask.ensures.survives) c.in_ok-rows.rows.items (rw (c.params-to_sql.ensures, c.params-to_sql-2.ensures, c.kind_text-word.ensures) at c.in_ok-rows.ensures.shown))

pub returns-clause-entries : goal.returns-clause-entries
returns-clause-entries g c = λ trusted.
    let old = state g.S.Store c.args.connection.now in
    let rows = c.in_ok-rows.rows.items in
    let answer = asked_answer _ _ (of_target_asked c.args.kind c.args.target.now) old (state g.S.Store c.ask.new.connection) (rw (c.params-to_sql.ensures, c.params-to_sql-2.ensures, c.kind_text-word.ensures) at c.ask.ensures.survives) rows trusted.1.ready (rw (c.params-to_sql.ensures, c.params-to_sql-2.ensures, c.kind_text-word.ensures) at (c.in_ok-rows.ensures.shown trusted.0)) in
    IfOk-both c.entries_of.result _ _ _ (λ entries keys values. of_target_shown c.args.kind c.args.target.now old.now trusted.1.ready.shelf rows (map entry_texts entries.items)
    (keys ∙ sym (map-map (λ e. Text e.0) entry_texts entries.items)) (values ∙ sym (map-map (λ e. Text e.1) entry_texts entries.items)) answer) (rw c.deref.ensures.value at c.entries_of.ensures.keys) (rw c.deref.ensures.value at c.entries_of.ensures.values)

pub returns-clause-answers : goal.returns-clause-answers
returns-clause-answers g c = λ trusted.
    let old = state g.S.Store c.args.connection.now in
    let new = state g.S.Store c.ask.new.connection in
    let rows = c.in_ok-rows.rows.items in
    let answer = asked_answer _ _ (of_target_asked c.args.kind c.args.target.now) old new (rw (c.params-to_sql.ensures, c.params-to_sql-2.ensures, c.kind_text-word.ensures) at c.ask.ensures.survives) rows trusted.1.ready (rw (c.params-to_sql.ensures, c.params-to_sql-2.ensures, c.kind_text-word.ensures) at (c.in_ok-rows.ensures.shown trusted.0)) in
    answers_for (LacksText (0 ∷ 1 ∷ []) (λ _. true) rows) (StoreFailed old new (StickersOf c.args.kind c.args.target.now)) _ c.entries_of.result (λ lacks. absurd (both_never_lack (1 ∷ 2 ∷ 3 ∷ 4 ∷ []) 3 4 (of_target c.args.kind c.args.target.now) (old.now.trees 5) trusted.1.texts.notes (inr (inr (inl refl))) (inr (inr (inr (inl refl)))) (of_target_lack old.now.trees rows c.args.kind c.args.target.now answer lacks))) (rw c.deref.ensures.value at c.entries_of.ensures.answers)
