use Rattle.std.proofs.Common.{is_ok}
use Rattle.std.proofs.lemmas.Result.{err_from_is_err_and, IfErr-weaker}
use Rattle.sqlite.specs.Held.{state}
use Rattle.shelf_database.specs.Tables.{IsShelf}
use Rattle.shelf_database.specs.Opens.{NoReason, IsStoppedFor}
use Rattle.shelf_database.specs.Moves.{RemovesRow, ClearsNotes, RemovesAll}
use Rattle.shelf_database.proofs.MakingLemmas.{leads_then}
use Rattle.shelf_database.proofs.MakingBlame.{later, stopped_after}
use Rattle.shelf_database.proofs.StepLemmas.{removes_all}
use Rattle.shelf_database.proofs.moves.remove_rows.Goals as goal

pub returns-clause-leads : goal.returns-clause-leads
returns-clause-leads g c =
    let name = c.args.name.now in
    let mid = state g.S.Store c.remove_row.new.transaction.conn.now in
    let new = state g.S.Store c.clear_notes.new.transaction.conn.now in
    leads_then IsShelf IsShelf (RemovesRow name) (ClearsNotes name) (RemovesAll name) (state g.S.Store c.args.transaction.now.conn.now) mid new (is_ok c.clear_notes.result) (λ was db is one. one.carries.shelf)
    (λ was db late is one two. removes_all name was db late one two) (later mid new _ c.clear_notes.ensures.leads.survives).0 c.in_ok-remove_row.ensures.leads c.clear_notes.ensures.leads

pub returns-in_err-remove_row-clause-blamed : goal.returns-in_err-remove_row-clause-blamed
returns-in_err-remove_row-clause-blamed g c =
    let how = err_from_is_err_and c.from_residual.result c.from_residual.ensures.1 in
    rw (how.1, how.2) c.in_err-remove_row.ensures.blamed

pub returns-clause-blamed : goal.returns-clause-blamed
returns-clause-blamed g c =
    let name = c.args.name.now in
    let old = state g.S.Store c.args.transaction.now.conn.now in
    let mid = state g.S.Store c.remove_row.new.transaction.conn.now in
    let new = state g.S.Store c.clear_notes.new.transaction.conn.now in
    IfErr-weaker c.clear_notes.result (IsStoppedFor IsShelf NoReason mid new) (IsStoppedFor IsShelf NoReason old new) (λ e stops.
    stopped_after IsShelf IsShelf (RemovesRow name) NoReason NoReason old mid new e (λ was db is one. one.carries.shelf) (λ was db is one why. why) c.in_ok-remove_row.ensures.leads (later mid new _ c.clear_notes.ensures.leads.survives) stops) c.clear_notes.ensures.blamed
