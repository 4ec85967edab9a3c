use Rattle.std.proofs.Common.{[], ◌∷◌, Ok, inl}
use Rattle.std.proofs.lemmas.Result.{err_from_is_err_and}
use Rattle.sqlite.specs.declared.types.Value.TheVariants.{Text}
use Rattle.sqlite.specs.Held.{state}
use Rattle.shelf_database.specs.Tables.{shelf_schema, IsShelf}
use Rattle.shelf_database.specs.Opens.{NoReason}
use Rattle.shelf_database.specs.Moves.{RemovesRow}
use Rattle.shelf_database.proofs.DeleteBlame.{remove_whole}
use Rattle.shelf_database.proofs.MakingBlame.{stopped_for}
use Rattle.shelf_database.proofs.MakingLemmas.{leads_by, kept_at}
use Rattle.shelf_database.proofs.Statements.{remove_text, remove_is}
use Rattle.shelf_database.proofs.StepLemmas.{removal, removes_row, removal_sure}
use Rattle.shelf_database.proofs.moves.remove_row.Goals as goal

pub returns-clause-leads : goal.returns-clause-leads
returns-clause-leads g c =
    let old = state g.S.Store c.args.transaction.now.conn.now in
    let new = state g.S.Store c.execute.new.self.conn.now in
    leads_by IsShelf (RemovesRow c.args.name.now) shelf_schema (λ db is. is.schema) remove_text (Text c.args.name.now ∷ []) (removal c.args.name.now) remove_is (λ before after text params count ran. ran) old new (λ tally is does sound. removes_row old c.args.name.now is tally new.now does sound)
    (Ok c.in_ok-execute.field-0) (rw c.params-to_sql.ensures at c.in_ok-execute.ensures.runs) (λ outside. kept_at g.S.Store c.args.transaction.now.conn.now c.execute.new.self.conn.now (c.in_ok-execute.ensures.ended outside).1) c.execute.ensures.survives

pub returns-in_err-execute-clause-blamed : goal.returns-in_err-execute-clause-blamed
returns-in_err-execute-clause-blamed g c =
    let old = state g.S.Store c.args.transaction.now.conn.now in
    let new = state g.S.Store c.execute.new.self.conn.now in
    let how = err_from_is_err_and c.from_residual.result c.from_residual.ensures.1 in
    rw (how.1, how.2) (stopped_for IsShelf NoReason shelf_schema (λ db is. is.schema) remove_text (Text c.args.name.now ∷ []) (removal c.args.name.now) tt remove_is (remove_whole c.args.name.now) (λ s stop is does. inl (removal_sure s c.args.name.now is stop does)) old new c.in_err-execute.field-0.0 (rw c.params-to_sql.ensures at c.in_err-execute.ensures.runs))
