use Rattle.std.proofs.Common.{inl, [], Ok}
use Rattle.std.proofs.lemmas.Result.{err_from_is_err_and}
use Rattle.sqlite.specs.Command.TheVariants.{CreateTable}
use Rattle.sqlite.specs.Held.{state}
use Rattle.sqlite.specs.State.{mode_of}
use Rattle.shelf_database.specs.Tables.{former_schema}
use Rattle.shelf_database.specs.Opens.{HasFormer, MakesNotes, note_query}
use Rattle.shelf_database.proofs.RunLemmas.{each_one}
use Rattle.shelf_database.proofs.MakingLemmas.{leads_by, kept_at}
use Rattle.shelf_database.proofs.MakingBlame.{stopped}
use Rattle.shelf_database.proofs.TablesBlame.{note_bare, notes_sure}
use Rattle.shelf_database.proofs.TablesLemmas.{note_text, note_means, makes_notes}
use Rattle.shelf_database.proofs.profile.make_notes.Goals as goal

pub returns-clause-leads : goal.returns-clause-leads
returns-clause-leads g c =
    let old = state g.S.Store c.args.transaction.now.conn.now in
    let new = state g.S.Store c.execute.new.self.conn.now in
    leads_by HasFormer MakesNotes former_schema (λ db has. has) note_text [] CreateTable note_means (λ old new text params count ran. ran) old new (λ tally before does sound. makes_notes old.step_limit (mode_of old) tally old.now new.now before does sound)
    (Ok c.in_ok-execute.field-0) c.in_ok-execute.ensures.runs (λ outside. kept_at g.S.Store c.args.transaction.now.conn.now c.execute.new.self.conn.now (c.in_ok-execute.ensures.ended outside).1) c.execute.ensures.survives

pub returns-in_err-execute-clause-blamed : goal.returns-in_err-execute-clause-blamed
returns-in_err-execute-clause-blamed g c =
    let old = state g.S.Store c.args.transaction.now.conn.now in
    let new = state g.S.Store c.execute.new.self.conn.now in
    let how = err_from_is_err_and c.from_residual.result c.from_residual.ensures.1 in
    rw (how.1, how.2) (stopped HasFormer former_schema (λ db has. has) note_text CreateTable tt note_means note_bare notes_sure old new c.in_err-execute.field-0.0 c.in_err-execute.ensures.runs)

pub returns-clause-ran : goal.returns-clause-ran
returns-clause-ran g c = λ clean inside.
    each_one g.S.Store note_query c.args.transaction.now.conn.now c.execute.new.self.conn.now c.in_ok-execute.field-0 (c.in_ok-execute.ensures.runs clean inside)

pub returns-in_err-execute-clause-ran : goal.returns-in_err-execute-clause-ran
returns-in_err-execute-clause-ran g c =
    let how = err_from_is_err_and c.from_residual.result c.from_residual.ensures.1 in
    rw (how.1, how.2) (λ clean inside. inl (c.in_err-execute.ensures.runs clean inside))
