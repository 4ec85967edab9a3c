use Rattle.std.proofs.Common.{inl, [], Ok}
use Rattle.std.proofs.lemmas.Result.{err_from_is_err_and}
use Rattle.sqlite.specs.Listing.{understood}
use Rattle.sqlite.specs.Held.{state}
use Rattle.sqlite.proofs.Callers.{statement_of}
use Rattle.shelf_database.specs.Tables.{shelf_schema}
use Rattle.shelf_database.specs.Opens.{HasRows, Clears, forget_query}
use Rattle.shelf_database.proofs.RunLemmas.{each_one}
use Rattle.shelf_database.proofs.MakingLemmas.{leads_by, kept_at}
use Rattle.shelf_database.proofs.MakingBlame.{stopped}
use Rattle.shelf_database.proofs.Statements.{forget_text, forget_is}
use Rattle.shelf_database.proofs.EmptiedLemmas.{number_clearing, clears_number, forgetting_sure, forget_whole}
use Rattle.shelf_database.proofs.profile.clear_number.Goals as goal

pub returns-clause-leads : goal.returns-clause-leads
returns-clause-leads g c =
    let old = state g.S.Store c.args.transaction.now.conn.now in
    let new = state g.S.Store c.execute.new.self.conn.now in
    leads_by (HasRows 0) (Clears 0) shelf_schema (λ db has. has.0) forget_text [] number_clearing forget_is (λ old new text params count ran. ran) old new
    (λ tally before does sound. clears_number old (statement_of forget_text (understood shelf_schema forget_text)) tally new.now before does sound)
    (Ok c.in_ok-execute.field-0) c.in_ok-execute.ensures.runs (λ outside. kept_at g.S.Store c.args.transaction.now.conn.now c.execute.new.self.conn.now (c.in_ok-execute.ensures.ended outside).1) c.execute.ensures.survives

pub returns-in_err-execute-clause-blamed : goal.returns-in_err-execute-clause-blamed
returns-in_err-execute-clause-blamed g c =
    let old = state g.S.Store c.args.transaction.now.conn.now in
    let new = state g.S.Store c.execute.new.self.conn.now in
    let how = err_from_is_err_and c.from_residual.result c.from_residual.ensures.1 in
    rw (how.1, how.2) (stopped (HasRows 0) shelf_schema (λ db has. has.0) forget_text number_clearing tt forget_is forget_whole forgetting_sure old new c.in_err-execute.field-0.0 c.in_err-execute.ensures.runs)

pub returns-clause-ran : goal.returns-clause-ran
returns-clause-ran g c = λ clean inside.
    each_one g.S.Store forget_query c.args.transaction.now.conn.now c.execute.new.self.conn.now c.in_ok-execute.field-0 (c.in_ok-execute.ensures.runs clean inside)

pub returns-in_err-execute-clause-ran : goal.returns-in_err-execute-clause-ran
returns-in_err-execute-clause-ran g c =
    let how = err_from_is_err_and c.from_residual.result c.from_residual.ensures.1 in
    rw (how.1, how.2) (λ clean inside. inl (c.in_err-execute.ensures.runs clean inside))
