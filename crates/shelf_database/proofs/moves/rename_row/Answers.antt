use Rattle.std.proofs.Common.{[], ◌∷◌, Ok}
use Rattle.std.proofs.lemmas.Result.{err_from_is_err_and}
use Rattle.sqlite.specs.declared.types.Value.TheVariants.{Text}
use Rattle.sqlite.specs.Held.{state}
use Rattle.shelf_database.specs.Tables.{shelf_schema}
use Rattle.shelf_database.specs.Moves.{HasNames, KeepsTheRow, RenamesRow}
use Rattle.shelf_database.proofs.MakingBlame.{stopped_for}
use Rattle.shelf_database.proofs.MakingLemmas.{leads_by, kept_at}
use Rattle.shelf_database.proofs.RenameBlame.{rename_refused, rename_whole}
use Rattle.shelf_database.proofs.RenameLemmas.{renaming, renames_list}
use Rattle.shelf_database.proofs.Statements.{rename_text, rename_is}
use Rattle.shelf_database.proofs.moves.rename_row.Goals as goal

pub returns-clause-leads : goal.returns-clause-leads
returns-clause-leads g c =
    let old = state g.S.Store c.args.transaction.now.conn.now in
    let new = state g.S.Store c.execute.new.self.conn.now in
    let name = c.args.name.now in
    let other = c.args.new_name.now in
    leads_by (HasNames name other) (RenamesRow name other) shelf_schema (λ db has. has.shelf.schema) rename_text (Text name ∷ Text other ∷ []) renaming rename_is (λ before after text params count ran. ran) old new
    (λ tally has does sound. renames_list old name other has c.utf8.new_name tally new.now does sound)
    (Ok c.in_ok-execute.field-0) (rw (c.params-to_sql.ensures, c.params-to_sql-2.ensures) at c.in_ok-execute.ensures.runs) (λ outside. kept_at g.S.Store c.args.transaction.now.conn.now c.execute.new.self.conn.now (c.in_ok-execute.ensures.ended outside).1) c.execute.ensures.survives

pub returns-in_err-execute-clause-blamed : goal.returns-in_err-execute-clause-blamed
returns-in_err-execute-clause-blamed g c =
    let old = state g.S.Store c.args.transaction.now.conn.now in
    let new = state g.S.Store c.execute.new.self.conn.now in
    let name = c.args.name.now in
    let other = c.args.new_name.now in
    let how = err_from_is_err_and c.from_residual.result c.from_residual.ensures.1 in
    rw (how.1, how.2) (stopped_for (HasNames name other) (KeepsTheRow name other) shelf_schema (λ db has. has.shelf.schema) rename_text (Text name ∷ Text other ∷ []) renaming tt rename_is (rename_whole name other) (λ s stop has does. rename_refused s name other has stop does) old new
    c.in_err-execute.field-0.0 (rw (c.params-to_sql.ensures, c.params-to_sql-2.ensures) at c.in_err-execute.ensures.runs))
