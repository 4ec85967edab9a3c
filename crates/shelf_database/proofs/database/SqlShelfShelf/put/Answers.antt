use Rattle.std.proofs.Common.{◌⊎◌, ℕ, List, [], ◌∷◌, Some, refl, subst, rules}
use Rattle.sqlite.specs.declared.types.Value.{Value}
use Rattle.sqlite.specs.declared.types.Value.TheVariants.{Int, Text}
use Rattle.sqlite.specs.Source.TheVariants.{Values}
use Rattle.sqlite.specs.Command.{Command}
use Rattle.sqlite.specs.Command.TheVariants.{InsertOr}
use Rattle.sqlite.specs.Held.{state}
use Rattle.sqlite.specs.Edit.{next_rowid}
use Rattle.sqlite.specs.Listing.{understood}
use Rattle.sqlite_schema.specs.declared.command.Conflict.TheVariants.{Replace}
use Rattle.sqlite_tied.specs.Compute.{everything}
use Rattle.shelf.specs.Maps.{with_list, refusal_of_put}
use Rattle.shelf.specs.Calls.{Put}
use Rattle.shelf_database.specs.Tables.{note_maps, IsReady}
use Rattle.shelf_database.specs.Faults.{HasFailed, IsUnstorable, StoreFailed}
use Rattle.shelf_database.proofs.AskLemmas.{statement_changes, change_blames, answers_done}
use Rattle.shelf_database.proofs.BlameLemmas.{IsWhole}
use Rattle.shelf_database.proofs.PutBlame.{put_refused}
use Rattle.shelf_database.proofs.PutListLemmas.{puts_list, list_values}
use Rattle.shelf_database.proofs.Statements.{put_text, put_is}
use Rattle.shelf_database.proofs.WriteLemmas.{DoesSo}
use Rattle.shelf_database.proofs.database.SqlShelfShelf.put.Goals as goal

abbrev command : Command
command = InsertOr 1 Replace (Values list_values 3) []

pub returns-clause-changes : goal.returns-clause-changes
returns-clause-changes g c =
    let old = state g.S.Store c.args.self.now.connection in
    let text = c.text.result.now in
    let params : List Value = Text c.args.name.now ∷ Text text ∷ [] in
    let does : IsReady old → DoesSo old put_text params command (with_list (note_maps old.now.trees) c.args.name.now (Some c.args.uris.now)) =
    λ ready. subst (λ lines. DoesSo old put_text params command (with_list (note_maps old.now.trees) c.args.name.now (Some lines))) c.text.ensures.uris (puts_list old c.args.name.now text c.utf8.name c.text.utf8 ready.shelf) in
    statement_changes put_text params command put_is tt old (state g.S.Store c.change.new.connection) c.change.result (rw (c.params-to_sql.ensures, c.params-to_sql-2.ensures) at c.change.ensures.ran) _ does
    (rw (c.params-to_sql.ensures, c.params-to_sql-2.ensures) at c.change.ensures.survives)

put_whole : (name text : List ℕ) → IsWhole put_text (Text name ∷ Text text ∷ [])
unfolding understood everything
put_whole name text = (refl, refl)

pub returns-clause-answers : goal.returns-clause-answers
returns-clause-answers g c = λ trusted.
    let old = state g.S.Store c.args.self.now.connection in
    let new = state g.S.Store c.change.new.connection in
    let name = c.args.name.now in
    let text = c.text.result.now in
    let failed : Type 0 = StoreFailed old new (Put name c.args.uris.now) in
    answers_done failed (refusal_of_put name) c.change.result (search rules)
    (change_blames put_text (Text name ∷ Text text ∷ []) command put_is tt old new c.change.result (rw (c.params-to_sql.ensures, c.params-to_sql-2.ensures) at c.change.ensures.ran) _ failed (put_whole name text)
    (put_refused old name text trusted.1.ready) trusted.1.ready trusted.0 (λ why. subst (λ t. HasFailed old new ⊎ IsUnstorable (Int (next_rowid (old.now.trees 1)) ∷ Text name ∷ Text t ∷ [])) c.text.ensures.text why))
