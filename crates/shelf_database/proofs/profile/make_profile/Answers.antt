use Rattle.std.proofs.Common.{Ok}
use Rattle.std.proofs.lemmas.Result.{err_from_is_err_and}
use Rattle.sqlite.specs.Command.TheVariants.{CreateTable}
use Rattle.sqlite.specs.Held.{state}
use Rattle.shelf_database.specs.Tables.{no_schema}
use Rattle.shelf_database.specs.Opens.{HasNothing, HasProfile}
use Rattle.shelf_database.proofs.MakingLemmas.{leads, kept_at}
use Rattle.shelf_database.proofs.MakingBlame.{stopped}
use Rattle.shelf_database.proofs.TablesBlame.{profile_bare, profile_sure}
use Rattle.shelf_database.proofs.TablesLemmas.{profile_text, profile_means, makes_profile}
use Rattle.shelf_database.proofs.profile.make_profile.Goals as goal

pub returns-clause-leads : goal.returns-clause-leads
returns-clause-leads g c =
    let old = c.args.transaction.now.conn.now in
    let new = c.execute.new.self.conn.now in
    leads HasNothing HasProfile no_schema (λ db has. has) profile_text CreateTable profile_means (λ old new text params count ran. ran) makes_profile (state g.S.Store old) (state g.S.Store new)
    (Ok c.in_ok-execute.field-0) c.in_ok-execute.ensures.runs (λ outside. kept_at g.S.Store old new (c.in_ok-execute.ensures.ended outside).1) c.execute.ensures.survives

pub returns-in_err-execute-clause-blamed : goal.returns-in_err-execute-clause-blamed
returns-in_err-execute-clause-blamed g c =
    let old = state g.S.Store c.args.transaction.now.conn.now in
    let new = state g.S.Store c.execute.new.self.conn.now in
    let how = err_from_is_err_and c.from_residual.result c.from_residual.ensures.1 in
    rw (how.1, how.2) (stopped HasNothing no_schema (λ db has. has) profile_text CreateTable tt profile_means profile_bare profile_sure old new c.in_err-execute.field-0.0 c.in_err-execute.ensures.runs)
