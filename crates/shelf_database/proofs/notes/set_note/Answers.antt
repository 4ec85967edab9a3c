use Rattle.std.proofs.Common.{ℕ, List, [], ◌∷◌, Some, refl, rules}
use Rattle.sqlite.specs.declared.types.Value.{Value}
use Rattle.sqlite.specs.declared.types.Value.TheVariants.{Text}
use Rattle.sqlite.specs.Source.TheVariants.{Values}
use Rattle.sqlite.specs.Command.{Command}
use Rattle.sqlite.specs.Command.TheVariants.{InsertOr}
use Rattle.sqlite.specs.Held.{state}
use Rattle.sqlite.specs.Listing.{understood}
use Rattle.sqlite_schema.specs.declared.command.Conflict.TheVariants.{Replace}
use Rattle.sqlite_tied.specs.Compute.{everything}
use Rattle.shelf.specs.Maps.{with_sticker}
use Rattle.shelf.specs.Calls.{SetSticker}
use Rattle.shelf.specs.declared.kinds.StickerKind.{StickerKind}
use Rattle.shelf_database.specs.Notes.{refusal_of_note_name}
use Rattle.shelf_database.specs.Tables.{kind_text, note_maps}
use Rattle.shelf_database.specs.Faults.{StoreFailed}
use Rattle.shelf_database.proofs.AskLemmas.{statement_changes, change_blames, answers_done}
use Rattle.shelf_database.proofs.BlameLemmas.{IsWhole}
use Rattle.shelf_database.proofs.PutBlame.{set_refused}
use Rattle.shelf_database.proofs.PutNoteLemmas.{puts_note}
use Rattle.shelf_database.proofs.Statements.{set_text, set_is, note_values}
use Rattle.shelf_database.proofs.notes.set_note.Goals as goal

abbrev command : Command
command = InsertOr 3 Replace (Values note_values 5) []

pub returns-clause-changes : goal.returns-clause-changes
returns-clause-changes g c =
    let old = state g.S.Store c.args.connection.now in
    let params : List Value = Text (kind_text c.args.kind) ∷ Text c.args.target.now ∷ Text c.args.name.now ∷ Text c.args.value.now ∷ [] in
    statement_changes set_text params command set_is tt old (state g.S.Store c.change.new.connection) c.change.result (rw (c.params-to_sql.ensures, c.params-to_sql-2.ensures, c.params-to_sql-3.ensures, c.params-to_sql-4.ensures, c.kind_text-word.ensures) at c.change.ensures.ran)
    (with_sticker (note_maps old.now.trees) c.args.kind c.args.target.now c.args.name.now (Some c.args.value.now)) (λ ready. puts_note old c.args.kind c.args.target.now c.args.name.now c.args.value.now c.utf8.target c.utf8.name c.utf8.value ready.shelf)
    (rw (c.params-to_sql.ensures, c.params-to_sql-2.ensures, c.params-to_sql-3.ensures, c.params-to_sql-4.ensures, c.kind_text-word.ensures) at c.change.ensures.survives)

set_whole : (kind : StickerKind) (target name value : List ℕ) → IsWhole set_text (Text (kind_text kind) ∷ Text target ∷ Text name ∷ Text value ∷ [])
unfolding understood everything
set_whole kind target name value = (refl, refl)

pub returns-clause-answers : goal.returns-clause-answers
returns-clause-answers g c = λ trusted.
    let old = state g.S.Store c.args.connection.now in
    let new = state g.S.Store c.change.new.connection in
    let kind = c.args.kind in
    let target = c.args.target.now in
    let name = c.args.name.now in
    let value = c.args.value.now in
    let failed : Type 0 = StoreFailed old new (SetSticker kind target name value) in
    answers_done failed (refusal_of_note_name name (note_maps old.now.trees)) c.change.result (search rules)
    (change_blames set_text (Text (kind_text kind) ∷ Text target ∷ Text name ∷ Text value ∷ []) command set_is tt old new c.change.result (rw (c.params-to_sql.ensures, c.params-to_sql-2.ensures, c.params-to_sql-3.ensures, c.params-to_sql-4.ensures, c.kind_text-word.ensures) at c.change.ensures.ran) _ failed (set_whole kind target name value)
    (set_refused old kind target name value trusted.1.ready) trusted.1.ready trusted.0 (λ why. why))
