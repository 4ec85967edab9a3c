use Rattle.std.proofs.Common.{Ok}
use Rattle.std.proofs.lemmas.Result.{err_from_is_err_and}
use Rattle.sqlite.specs.Command.TheVariants.{CreateTable}
use Rattle.sqlite.specs.Held.{state}
use Rattle.shelf_database.specs.Opens.{profile_schema, HasProfile, HasLists}
use Rattle.shelf_database.proofs.MakingLemmas.{leads, kept_at}
use Rattle.shelf_database.proofs.MakingBlame.{stopped}
use Rattle.shelf_database.proofs.TablesBlame.{list_bare, lists_sure}
use Rattle.shelf_database.proofs.TablesLemmas.{list_text, list_means, makes_lists}
use Rattle.shelf_database.proofs.profile.make_lists.Goals as goal

pub returns-clause-leads : goal.returns-clause-leads
returns-clause-leads g c =
    let old = c.args.transaction.now.conn.now in
    let new = c.execute.new.self.conn.now in
    leads HasProfile HasLists profile_schema (λ db has. has.0) list_text CreateTable list_means (λ old new text params count ran. ran) makes_lists (state g.S.Store old) (state g.S.Store new)
    (Ok c.in_ok-execute.field-0) c.in_ok-execute.ensures.runs (λ outside. kept_at g.S.Store old new (c.in_ok-execute.ensures.ended outside).1) c.execute.ensures.survives

pub returns-in_err-execute-clause-blamed : goal.returns-in_err-execute-clause-blamed
returns-in_err-execute-clause-blamed g c =
    let old = state g.S.Store c.args.transaction.now.conn.now in
    let new = state g.S.Store c.execute.new.self.conn.now in
    let how = err_from_is_err_and c.from_residual.result c.from_residual.ensures.1 in
    rw (how.1, how.2) (stopped HasProfile profile_schema (λ db has. has.0) list_text CreateTable tt list_means list_bare lists_sure old new c.in_err-execute.field-0.0 c.in_err-execute.ensures.runs)
