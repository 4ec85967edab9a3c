use Rattle.std.proofs.Common.{◌≡◌, List, [], ◌∷◌, None, true, is_some, is_ok, inl, arith, rules, refl, sym, ◌∙◌}
use Rattle.sqlite.specs.declared.types.Value.{Value}
use Rattle.sqlite.specs.declared.types.Value.TheVariants.{Text}
use Rattle.sqlite.specs.Held.{state}
use Rattle.sqlite.specs.State.{HasCleanDisk}
use Rattle.shelf.specs.Calls.{DeleteSticker}
use Rattle.shelf.specs.Maps.{Maps, with_sticker}
use Rattle.shelf_database.specs.Notes.{refusal_of_note}
use Rattle.shelf_database.specs.Tables.{kind_text, note_maps, has_key}
use Rattle.shelf_database.specs.Faults.{HasFailed, StoreFailed}
use Rattle.shelf_database.proofs.AskLemmas.{handed_on, statement_changes, change_blames, refused_answers, answers_done}
use Rattle.shelf_database.proofs.BlameLemmas.{failed_alone}
use Rattle.shelf_database.proofs.DeleteBlame.{delete_whole, deletion_of_one_refused}
use Rattle.shelf_database.proofs.DeleteLemmas.{deletion}
use Rattle.shelf_database.proofs.FaultLemmas.{failed_after}
use Rattle.shelf_database.proofs.QueryLemmas.{ready_same, read_then_by}
use Rattle.shelf_database.proofs.RemoveLemmas.{deletes_note}
use Rattle.shelf_database.proofs.Statements.{delete_text, delete_is, key_terms}
use Rattle.shelf_database.proofs.TextLemmas.{key_test}
use Rattle.shelf_database.proofs.notes.delete_note.Goals as goal

pub returns-in_err-has_note-clause-changes : goal.returns-in_err-has_note-clause-changes
returns-in_err-has_note-clause-changes g c = rw (handed_on c.from_residual.result _ c.from_residual.ensures.1) (c.in_err-has_note.ensures.refused.changes _)

pub returns-in_err-has_note-clause-answers : goal.returns-in_err-has_note-clause-answers
returns-in_err-has_note-clause-answers g c = λ trusted.
    let old = state g.S.Store c.args.connection.now in
    let new = state g.S.Store c.has_note.new.connection in
    rw (handed_on c.from_residual.result _ c.from_residual.ensures.1) (refused_answers (Unit {0}) old new (HasFailed old new) (StoreFailed old new (DeleteSticker c.args.kind c.args.target.now c.args.name.now)) (refusal_of_note c.args.kind c.args.target.now c.args.name.now (note_maps old.now.trees)) c.in_err-has_note.field-0.0 (λ failed. inl failed) c.in_err-has_note.ensures.refused trusted)

pub returns-clause-changes : goal.returns-clause-changes
returns-clause-changes g c =
    let mid = state g.S.Store c.has_note.new.connection in
    let new = state g.S.Store c.change.new.connection in
    let params : List Value = Text (kind_text c.args.kind) ∷ Text c.args.target.now ∷ Text c.args.name.now ∷ [] in
    let command = deletion params 5 key_terms (has_key c.args.kind c.args.target.now c.args.name.now) (key_test c.args.kind c.args.target.now c.args.name.now) 3 in
    let made : Maps → Maps = λ maps. with_sticker maps c.args.kind c.args.target.now c.args.name.now None in
    read_then_by (state g.S.Store c.args.connection.now) mid new (is_ok c.change.result) made c.in_ok-has_note.ensures.reads
    (statement_changes delete_text params command delete_is tt mid new c.change.result (rw (c.params-to_sql.ensures, c.params-to_sql-2.ensures, c.params-to_sql-3.ensures, c.kind_text-word.ensures) at c.change.ensures.ran) (made (note_maps mid.now.trees)) (λ ready. deletes_note mid c.args.kind c.args.target.now ready.shelf c.args.name.now) (rw (c.params-to_sql.ensures, c.params-to_sql-2.ensures, c.params-to_sql-3.ensures, c.kind_text-word.ensures) at c.change.ensures.survives))

pub returns-clause-answers : goal.returns-clause-answers
returns-clause-answers g c = λ trusted.
    let old = state g.S.Store c.args.connection.now in
    let mid = state g.S.Store c.has_note.new.connection in
    let new = state g.S.Store c.change.new.connection in
    let params : List Value = Text (kind_text c.args.kind) ∷ Text c.args.target.now ∷ Text c.args.name.now ∷ [] in
    let command = deletion params 5 key_terms (has_key c.args.kind c.args.target.now c.args.name.now) (key_test c.args.kind c.args.target.now c.args.name.now) 3 in
    let kept = c.change.ensures.survives.clean in
    let clean : HasCleanDisk mid = omega (arith, trusted.0, kept) in
    let reads = c.in_ok-has_note.ensures.reads in
    let ready = ready_same old mid trusted.1.ready (reads.same clean trusted.1.ready) in
    let blames = change_blames delete_text params command delete_is tt mid new c.change.result (rw (c.params-to_sql.ensures, c.params-to_sql-2.ensures, c.params-to_sql-3.ensures, c.kind_text-word.ensures) at c.change.ensures.ran) _ (StoreFailed old new (DeleteSticker c.args.kind c.args.target.now c.args.name.now)) (delete_whole c.args.kind c.args.target.now c.args.name.now) (deletion_of_one_refused mid c.args.kind c.args.target.now ready c.args.name.now) ready trusted.0
    (λ why. inl (failed_after old mid new reads clean trusted.1.ready (failed_alone mid new why))) in
    let there : is_some ((note_maps old.now.trees).stickers c.args.kind c.args.target.now c.args.name.now) ≡ true = sym (c.in_ok-has_note.ensures.found clean trusted.1.ready) ∙ search rules in
    answers_done (StoreFailed old new (DeleteSticker c.args.kind c.args.target.now c.args.name.now)) (refusal_of_note c.args.kind c.args.target.now c.args.name.now (note_maps old.now.trees)) c.change.result (rw there refl) blames
