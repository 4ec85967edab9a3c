use Rattle.std.proofs.Common.{◌≢◌}
use Rattle.sqlite.specs.declared.error.Error.TheVariants.{SqliteFailure}
use Rattle.sqlite.specs.declared.error.ErrorCode.TheVariants as code
use Rattle.sqlite.specs.Held.{state}
use Rattle.shelf.specs.Calls.{Rename}
use Rattle.shelf_database.specs.Faults.{StoreFailed}
use Rattle.shelf_database.proofs.AskLemmas.{told, for_this}
use Rattle.shelf_database.proofs.moves.rename_list.Goals as goal

pub returns-in-Err-clause-blamed : goal.returns-in-Err-clause-blamed
returns-in-Err-clause-blamed g c = λ can clean ready.
    let old = state g.S.Store c.args.connection.now in
    let new = state g.S.Store c.rename_in_one.new.connection in
    let e = c.in-Err.error in
    for_this (e ≢ SqliteFailure code.OutOfMemory) (StoreFailed old new (Rename c.args.name.now c.args.new_name.now)) c.fault.result (λ other. c.in-Err.ensures.blamed can clean ready other) (told c.fault.result e c.fault.ensures.named c.fault.ensures.memory)
