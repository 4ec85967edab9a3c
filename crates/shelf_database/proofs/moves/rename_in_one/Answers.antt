use Rattle.std.proofs.Common.{◌≡◌, ◌≢◌, sym, subst, rules}
use Rattle.std.proofs.lemmas.Result.{err_from_is_err_and}
use Rattle.sqlite.specs.declared.error.Error.TheVariants.{SqliteFailure}
use Rattle.sqlite.specs.declared.error.ErrorCode.TheVariants as code
use Rattle.sqlite.specs.Held.{state}
use Rattle.sqlite.specs.State.{HasCleanDisk}
use Rattle.shelf.specs.Calls.{Rename}
use Rattle.shelf.specs.Maps.{with_renamed}
use Rattle.shelf_database.specs.Faults.{StoreFailed}
use Rattle.shelf_database.specs.Tables.{note_maps, IsReady}
use Rattle.shelf_database.specs.Moves.{HasNames, RenamesAll, KeepsTheName}
use Rattle.shelf_database.proofs.TransactionLemmas.{clean_from_start, committed_changes, dropped_failed}
use Rattle.shelf_database.proofs.moves.rename_in_one.Goals as goal

pub returns-clause-changes : goal.returns-clause-changes
returns-clause-changes g c = λ can.
    let held = c.args.connection.now in
    let begun = c.transaction-transaction.result.conn.now in
    let begins = c.transaction-transaction.ensures.begun in
    let filled = state g.S.Store c.rename_rows.new.transaction.conn.now in
    let new = state g.S.Store c.commit.new.self.0 in
    let leads = c.in_ok-rename_rows.ensures.leads in
    let it = committed_changes g.S.Store held begun begins filled new (HasNames c.args.name.now c.args.new_name.now) (RenamesAll c.args.name.now c.args.new_name.now) leads c.commit.result c.commit.ensures.ended c.commit.ensures.ok c.commit.ensures.err c.commit.ensures.survives
    (with_renamed (note_maps (state g.S.Store held).now.trees) c.args.name.now c.args.new_name.now) (λ clean ready. can (clean_from_start g.S.Store held begun begins filled new _ _ leads.survives c.commit.ensures.survives clean) ready) (λ db clean ready made. made) in
    search (rules, it)

pub returns-in_err-rename_rows-clause-blamed : goal.returns-in_err-rename_rows-clause-blamed
returns-in_err-rename_rows-clause-blamed g c = λ can.
    let held = c.args.connection.now in
    let begun = c.transaction-transaction.result.conn.now in
    let begins = c.transaction-transaction.ensures.begun in
    let filled = state g.S.Store c.rename_rows.new.transaction.conn.now in
    let new = state g.S.Store c.drop-transaction.new.self.0 in
    let leads = c.in_err-rename_rows.ensures.leads in
    let how = err_from_is_err_and c.from_residual.result c.from_residual.ensures.1 in
    let it : HasCleanDisk new → IsReady (state g.S.Store held) → c.in_err-rename_rows.field-0.0 ≢ SqliteFailure code.OutOfMemory → StoreFailed (state g.S.Store held) new (Rename c.args.name.now c.args.new_name.now) = λ clean ready other.
    dropped_failed g.S.Store held begun begins filled new (HasNames c.args.name.now c.args.new_name.now) (RenamesAll c.args.name.now c.args.new_name.now) leads c.drop-transaction.ensures.undone c.drop-transaction.ensures.survives
    (with_renamed (note_maps (state g.S.Store held).now.trees) c.args.name.now c.args.new_name.now) (KeepsTheName c.args.name.now c.args.new_name.now) c.in_err-rename_rows.field-0.0 c.in_err-rename_rows.ensures.blamed clean
    (can (clean_from_start g.S.Store held begun begins filled new _ _ leads.survives c.drop-transaction.ensures.survives clean) ready) other in
    let same : c.connection-1.given.0 ≡ c.drop-transaction.new.self.0 = search rules in
    rw (how.1, how.2) (λ clean ready other. subst (λ h. HasCleanDisk (state g.S.Store h) → StoreFailed (state g.S.Store held) (state g.S.Store h) (Rename c.args.name.now c.args.new_name.now)) (sym same) (λ known. it known ready other) clean)
