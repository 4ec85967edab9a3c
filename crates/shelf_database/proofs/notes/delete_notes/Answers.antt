use Rattle.std.proofs.Common.{◌⊎◌, List, [], ◌∷◌, is_ok, inl, inr, refl, arith, rules}
use Rattle.sqlite.specs.declared.types.Value.{Value}
use Rattle.sqlite.specs.declared.types.Value.TheVariants.{Text}
use Rattle.sqlite.specs.Held.{state}
use Rattle.sqlite.specs.State.{HasCleanDisk}
use Rattle.shelf.specs.Calls.{DeleteStickers}
use Rattle.shelf.specs.Maps.{Maps, with_stickers, no_stickers, no_refusal}
use Rattle.shelf_database.specs.Tables.{kind_text, note_maps, of_target}
use Rattle.shelf_database.specs.Faults.{HasFailed, LacksText, CannotDo, StoreFailed}
use Rattle.shelf_database.proofs.AskLemmas.{handed_on, for_this, statement_changes, change_blames, answers_all_fault, answers_all_done}
use Rattle.shelf_database.proofs.BlameLemmas.{failed_alone}
use Rattle.shelf_database.proofs.DeleteBlame.{delete_all_whole, deletion_of_all_refused}
use Rattle.shelf_database.proofs.DeleteLemmas.{deletion}
use Rattle.shelf_database.proofs.FaultLemmas.{failed_after}
use Rattle.shelf_database.proofs.HoldsLemmas.{one_never_lacks, failed_only}
use Rattle.shelf_database.proofs.QueryLemmas.{ready_same, read_then_by}
use Rattle.shelf_database.proofs.RemoveLemmas.{deletes_all}
use Rattle.shelf_database.proofs.Statements.{delete_all_text, delete_all_is, target_terms}
use Rattle.shelf_database.proofs.TextLemmas.{target_test}
use Rattle.shelf_database.proofs.notes.delete_notes.Goals as goal

pub returns-in_err-has_notes-clause-changes : goal.returns-in_err-has_notes-clause-changes
returns-in_err-has_notes-clause-changes g c = rw (handed_on c.from_residual.result _ c.from_residual.ensures.1) (c.in_err-has_notes.ensures.refused.changes _)

pub returns-in_err-has_notes-clause-answers : goal.returns-in_err-has_notes-clause-answers
returns-in_err-has_notes-clause-answers g c = λ trusted.
    let old = state g.S.Store c.args.connection.now in
    let new = state g.S.Store c.has_notes.new.connection in
    let kind = c.args.kind in
    let target = c.args.target.now in
    let lacking : Type 0 = LacksText (3 ∷ []) (of_target kind target) (old.now.trees 5) in
    let never : lacking → ⊥ = one_never_lacks (1 ∷ 2 ∷ 3 ∷ 4 ∷ []) 3 (of_target kind target) (old.now.trees 5) trusted.1.texts.notes (inr (inr (inl refl))) in
    let fault = c.in_err-has_notes.field-0.0 in
    let told = for_this (HasFailed old new ⊎ lacking) (StoreFailed old new (DeleteStickers kind target)) fault (failed_only (HasFailed old new) lacking (CannotDo old.now.trees (DeleteStickers kind target)) never) (c.in_err-has_notes.ensures.refused.told trusted.0 trusted.1.ready) in
    rw (handed_on c.from_residual.result _ c.from_residual.ensures.1) (answers_all_fault (Unit {0}) (StoreFailed old new (DeleteStickers kind target)) no_refusal _ fault told)

pub returns-clause-changes : goal.returns-clause-changes
returns-clause-changes g c =
    let mid = state g.S.Store c.has_notes.new.connection in
    let new = state g.S.Store c.change.new.connection in
    let params : List Value = Text (kind_text c.args.kind) ∷ Text c.args.target.now ∷ [] in
    let command = deletion params 5 target_terms (of_target c.args.kind c.args.target.now) (target_test c.args.kind c.args.target.now) 3 in
    let made : Maps → Maps = λ maps. with_stickers maps c.args.kind c.args.target.now no_stickers in
    read_then_by (state g.S.Store c.args.connection.now) mid new (is_ok c.change.result) made c.in_ok-has_notes.ensures.reads
    (statement_changes delete_all_text params command delete_all_is tt mid new c.change.result (rw (c.params-to_sql.ensures, c.params-to_sql-2.ensures, c.kind_text-word.ensures) at c.change.ensures.ran) (made (note_maps mid.now.trees)) (λ ready. deletes_all mid c.args.kind c.args.target.now ready.shelf) (rw (c.params-to_sql.ensures, c.params-to_sql-2.ensures, c.kind_text-word.ensures) at c.change.ensures.survives))

pub returns-clause-answers : goal.returns-clause-answers
returns-clause-answers g c = λ trusted.
    let old = state g.S.Store c.args.connection.now in
    let mid = state g.S.Store c.has_notes.new.connection in
    let new = state g.S.Store c.change.new.connection in
    let params : List Value = Text (kind_text c.args.kind) ∷ Text c.args.target.now ∷ [] in
    let command = deletion params 5 target_terms (of_target c.args.kind c.args.target.now) (target_test c.args.kind c.args.target.now) 3 in
    let kept = c.change.ensures.survives.clean in
    let clean : HasCleanDisk mid = omega (arith, trusted.0, kept) in
    let reads = c.in_ok-has_notes.ensures.reads in
    let ready = ready_same old mid trusted.1.ready (reads.same clean trusted.1.ready) in
    let blames = change_blames delete_all_text params command delete_all_is tt mid new c.change.result (rw (c.params-to_sql.ensures, c.params-to_sql-2.ensures, c.kind_text-word.ensures) at c.change.ensures.ran) _ (StoreFailed old new (DeleteStickers c.args.kind c.args.target.now)) (delete_all_whole c.args.kind c.args.target.now) (deletion_of_all_refused mid c.args.kind c.args.target.now ready) ready trusted.0
    (λ why. inl (failed_after old mid new reads clean trusted.1.ready (failed_alone mid new why))) in
    answers_all_done (StoreFailed old new (DeleteStickers c.args.kind c.args.target.now)) no_refusal _ c.change.result refl (c.in_ok-has_notes.ensures.found clean trusted.1.ready (search rules)) blames
