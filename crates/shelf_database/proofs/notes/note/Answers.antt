use Rattle.std.proofs.Common.{◌≡◌, ◌⊎◌, inl, inr, [], ◌∷◌, Some, None, true, false, find, option_map, string_bytes, rules, refl, ap, ◌∙◌}
use Rattle.sqlite.specs.Order.{column, bytes}
use Rattle.sqlite.specs.Held.{state}
use Rattle.shelf.specs.Calls.{StickerOf}
use Rattle.shelf_database.specs.Notes.{refusal_of_note}
use Rattle.shelf_database.specs.Faults.{HasFailed, LacksText, CannotDo, StoreFailed}
use Rattle.shelf_database.specs.Tables.{note_maps, has_key}
use Rattle.shelf_database.proofs.AskLemmas.{handed_on, text_reads, text_refuses, asked_answer, refused_answers}
use Rattle.shelf_database.proofs.BlameLemmas.{value_asked}
use Rattle.shelf_database.proofs.FoundLemmas.{note_shown, first_is}
use Rattle.shelf_database.proofs.HoldsLemmas.{one_never_lacks, failed_only}
use Rattle.shelf_database.proofs.LacksLemmas.{value_lacks}
use Rattle.shelf_database.proofs.QueryLemmas.{read_changes}
use Rattle.shelf_database.proofs.notes.note.Goals as goal

pub returns-in_err-value-clause-changes : goal.returns-in_err-value-clause-changes
returns-in_err-value-clause-changes g c =
    let old = state g.S.Store c.args.connection.now in
    let new = state g.S.Store c.first_text.new.connection in
    let refuses = text_refuses _ _ (value_asked c.args.kind c.args.target.now c.args.name.now) old new (rw (c.params-to_sql.ensures, c.params-to_sql-2.ensures, c.params-to_sql-3.ensures, c.kind_text-word.ensures) at c.first_text.ensures.survives) (LacksText (4 ∷ []) (has_key c.args.kind c.args.target.now c.args.name.now) (old.now.trees 5)) c.in_err-value.field-0.0 (λ rows answer lacks. value_lacks old.now.trees rows c.args.kind c.args.target.now c.args.name.now answer lacks) (rw (c.params-to_sql.ensures, c.params-to_sql-2.ensures, c.params-to_sql-3.ensures, c.kind_text-word.ensures) at c.in_err-value.ensures.refused) in
    rw (handed_on c.from_residual.result _ c.from_residual.ensures.1) (refuses.changes _)

pub returns-in_err-value-clause-answers : goal.returns-in_err-value-clause-answers
returns-in_err-value-clause-answers g c = λ trusted.
    let old = state g.S.Store c.args.connection.now in
    let new = state g.S.Store c.first_text.new.connection in
    let lacking : Type 0 = LacksText (4 ∷ []) (has_key c.args.kind c.args.target.now c.args.name.now) (old.now.trees 5) in
    let never : lacking → ⊥ = one_never_lacks (1 ∷ 2 ∷ 3 ∷ 4 ∷ []) 4 (has_key c.args.kind c.args.target.now c.args.name.now) (old.now.trees 5) trusted.1.texts.notes (inr (inr (inr (inl refl)))) in
    let refuses = text_refuses _ _ (value_asked c.args.kind c.args.target.now c.args.name.now) old new (rw (c.params-to_sql.ensures, c.params-to_sql-2.ensures, c.params-to_sql-3.ensures, c.kind_text-word.ensures) at c.first_text.ensures.survives) (LacksText (4 ∷ []) (has_key c.args.kind c.args.target.now c.args.name.now) (old.now.trees 5)) c.in_err-value.field-0.0 (λ rows answer lacks. value_lacks old.now.trees rows c.args.kind c.args.target.now c.args.name.now answer lacks) (rw (c.params-to_sql.ensures, c.params-to_sql-2.ensures, c.params-to_sql-3.ensures, c.kind_text-word.ensures) at c.in_err-value.ensures.refused) in
    rw (handed_on c.from_residual.result _ c.from_residual.ensures.1) (refused_answers (Unit {0}) old new (HasFailed old new ⊎ lacking) (StoreFailed old new (StickerOf c.args.kind c.args.target.now c.args.name.now)) (refusal_of_note c.args.kind c.args.target.now c.args.name.now (note_maps old.now.trees)) c.in_err-value.field-0.0 (failed_only (HasFailed old new) lacking (CannotDo old.now.trees (StickerOf c.args.kind c.args.target.now c.args.name.now)) never) refuses trusted)

pub returns-in-Some-clause-changes : goal.returns-in-Some-clause-changes
returns-in-Some-clause-changes g c =
    let old = state g.S.Store c.args.connection.now in
    let new = state g.S.Store c.first_text.new.connection in
    read_changes old new true (text_reads _ _ (value_asked c.args.kind c.args.target.now c.args.name.now) old new (rw (c.params-to_sql.ensures, c.params-to_sql-2.ensures, c.params-to_sql-3.ensures, c.kind_text-word.ensures) at c.first_text.ensures.survives) (λ clean. let h = (rw (c.params-to_sql.ensures, c.params-to_sql-2.ensures, c.params-to_sql-3.ensures, c.kind_text-word.ensures) at c.in_ok-value.ensures.shown) clean in (h.0, h.1)))

pub returns-in-None-clause-changes : goal.returns-in-None-clause-changes
returns-in-None-clause-changes g c =
    let old = state g.S.Store c.args.connection.now in
    let new = state g.S.Store c.first_text.new.connection in
    read_changes old new false (text_reads _ _ (value_asked c.args.kind c.args.target.now c.args.name.now) old new (rw (c.params-to_sql.ensures, c.params-to_sql-2.ensures, c.params-to_sql-3.ensures, c.kind_text-word.ensures) at c.first_text.ensures.survives) (λ clean. let h = (rw (c.params-to_sql.ensures, c.params-to_sql-2.ensures, c.params-to_sql-3.ensures, c.kind_text-word.ensures) at c.in_ok-value.ensures.shown) clean in (h.0, h.1)))

pub returns-in-None-clause-answers : goal.returns-in-None-clause-answers
returns-in-None-clause-answers g c = λ trusted.
    let old = state g.S.Store c.args.connection.now in
    let new = state g.S.Store c.first_text.new.connection in
    let h = (rw (c.params-to_sql.ensures, c.params-to_sql-2.ensures, c.params-to_sql-3.ensures, c.kind_text-word.ensures) at c.in_ok-value.ensures.shown) trusted.0 in
    let rows = note_shown c.args.kind c.args.target.now c.args.name.now old.now h.0 trusted.1.ready.shelf (asked_answer _ _ (value_asked c.args.kind c.args.target.now c.args.name.now) old new (rw (c.params-to_sql.ensures, c.params-to_sql-2.ensures, c.params-to_sql-3.ensures, c.kind_text-word.ensures) at c.first_text.ensures.survives) h.0 trusted.1.ready h.1) in
    let none : c.in_ok-value.field-0 ≡ None = search rules in
    let missing : option_map (λ r. bytes (column r 4)) (find (has_key c.args.kind c.args.target.now c.args.name.now) (old.now.trees 5)) ≡ None = first_is 4 (find (has_key c.args.kind c.args.target.now c.args.name.now) (old.now.trees 5)) h.0 _ rows h.2 ∙ ap (option_map string_bytes) none in
    rw missing refl

pub returns-in-Some-clause-answers : goal.returns-in-Some-clause-answers
returns-in-Some-clause-answers g c = λ trusted.
    let old = state g.S.Store c.args.connection.now in
    let new = state g.S.Store c.first_text.new.connection in
    let h = (rw (c.params-to_sql.ensures, c.params-to_sql-2.ensures, c.params-to_sql-3.ensures, c.kind_text-word.ensures) at c.in_ok-value.ensures.shown) trusted.0 in
    let rows = note_shown c.args.kind c.args.target.now c.args.name.now old.now h.0 trusted.1.ready.shelf (asked_answer _ _ (value_asked c.args.kind c.args.target.now c.args.name.now) old new (rw (c.params-to_sql.ensures, c.params-to_sql-2.ensures, c.params-to_sql-3.ensures, c.kind_text-word.ensures) at c.first_text.ensures.survives) h.0 trusted.1.ready h.1) in
    let some : c.in_ok-value.field-0 ≡ Some c.in-Some.value = search rules in
    let there : option_map (λ r. bytes (column r 4)) (find (has_key c.args.kind c.args.target.now c.args.name.now) (old.now.trees 5)) ≡ Some (string_bytes c.in-Some.value) = first_is 4 (find (has_key c.args.kind c.args.target.now c.args.name.now) (old.now.trees 5)) h.0 _ rows h.2 ∙ ap (option_map string_bytes) some in
    rw there refl

pub returns-in-Some-clause-value : goal.returns-in-Some-clause-value
returns-in-Some-clause-value g c = λ trusted.
    let old = state g.S.Store c.args.connection.now in
    let new = state g.S.Store c.first_text.new.connection in
    let h = (rw (c.params-to_sql.ensures, c.params-to_sql-2.ensures, c.params-to_sql-3.ensures, c.kind_text-word.ensures) at c.in_ok-value.ensures.shown) trusted.0 in
    let rows = note_shown c.args.kind c.args.target.now c.args.name.now old.now h.0 trusted.1.ready.shelf (asked_answer _ _ (value_asked c.args.kind c.args.target.now c.args.name.now) old new (rw (c.params-to_sql.ensures, c.params-to_sql-2.ensures, c.params-to_sql-3.ensures, c.kind_text-word.ensures) at c.first_text.ensures.survives) h.0 trusted.1.ready h.1) in
    let some : c.in_ok-value.field-0 ≡ Some c.in-Some.value = search rules in
    first_is 4 (find (has_key c.args.kind c.args.target.now c.args.name.now) (old.now.trees 5)) h.0 _ rows h.2 ∙ ap (option_map string_bytes) some
