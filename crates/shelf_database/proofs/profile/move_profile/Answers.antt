use Rattle.std.proofs.Common.{inl, inr, pos, Some, false, true, ap, sym, ◌≡◌, ◌≢◌, ◌∙◌}
use Rattle.std.proofs.lemmas.Result.{err_from_is_err_and}
use Rattle.sqlite.specs.declared.error.Error.TheVariants.{SqliteFailure}
use Rattle.sqlite.specs.declared.error.ErrorCode.TheVariants as code
use Rattle.sqlite.specs.Held.{state}
use Rattle.shelf_database.specs.Tables.{number_of}
use Rattle.shelf_database.proofs.FormerLemmas.{opens_former_read, opens_former_moved, stuck_through, stops_through}
use Rattle.shelf_database.proofs.profile.move_profile.Goals as goal

pub returns-in_err-rows-clause-unmoved : goal.returns-in_err-rows-clause-unmoved
returns-in_err-rows-clause-unmoved g c =
    let how = err_from_is_err_and c.from_residual.result c.from_residual.ensures.1 in
    rw (how.1, how.2) (λ clean former one store. inl (c.in_err-rows.ensures.blamed clean (inr former) store))

pub returns-in_err-is_number-clause-opens : goal.returns-in_err-is_number-clause-opens
returns-in_err-is_number-clause-opens g c = λ some none.
    let old = state g.S.Store c.args.connection.now in
    let new = state g.S.Store c.numbers.new.connection in
    let how = err_from_is_err_and c.from_residual-in_err-is_number.result c.from_residual-in_err-is_number.ensures.1 in
    rw (how.1) (opens_former_read old new some none (λ trees opened left. g.met.S.Store.settled c.args.connection.now.store trees opened left) c.in_ok-rows.ensures.reads c.in_ok-rows.ensures.spares)

pub returns-in_err-is_number-clause-unmoved : goal.returns-in_err-is_number-clause-unmoved
returns-in_err-is_number-clause-unmoved g c =
    let how = err_from_is_err_and c.from_residual-in_err-is_number.result c.from_residual-in_err-is_number.ensures.1 in
    rw (how.1, how.2) (λ clean former one store. absurd (
    let memory = c.in_err-is_number.ensures.refused (ap (number_of 0) c.deref.ensures.value ∙ c.in_ok-rows.ensures.shown clean (inr former) ∙ one) in
    let both = sym store ∙ memory in cc))

pub returns-in-Ok-clause-opens : goal.returns-in-Ok-clause-opens
returns-in-Ok-clause-opens g c = λ some none.
    let old = state g.S.Store c.args.connection.now in
    let mid = state g.S.Store c.numbers.new.connection in
    let new = state g.S.Store c.move_in_one.new.connection in
    opens_former_moved old mid new true some none (λ trees opened left. g.met.S.Store.settled c.args.connection.now.store trees opened left) c.in_ok-rows.ensures.reads c.in_ok-rows.ensures.spares c.in-Ok.ensures.moves

pub returns-clause-opens : goal.returns-clause-opens
returns-clause-opens g c = λ some none.
    let old = state g.S.Store c.args.connection.now in
    let mid = state g.S.Store c.numbers.new.connection in
    let new = state g.S.Store c.move_in_one.new.connection in
    opens_former_moved old mid new false some none (λ trees opened left. g.met.S.Store.settled c.args.connection.now.store trees opened left) c.in_ok-rows.ensures.reads c.in_ok-rows.ensures.spares c.in-Err.ensures.moves

pub returns-clause-unmoved : goal.returns-clause-unmoved
returns-clause-unmoved g c = λ clean former one store.
    let old = state g.S.Store c.args.connection.now in
    let mid = state g.S.Store c.numbers.new.connection in
    let new = state g.S.Store c.move_in_one.new.connection in
    let other : c.in-Err.error ≢ SqliteFailure code.OutOfMemory = λ memory. (let both = sym store ∙ c.fault.ensures.memory memory in cc) in
    stuck_through old mid new c.in_ok-rows.ensures.reads c.in_ok-rows.ensures.spares c.in-Err.ensures.moves c.in-Err.error other c.in-Err.ensures.blamed clean former

pub returns-clause-other : goal.returns-clause-other
returns-clause-other g c = λ clean outside store.
    let old = c.args.connection.now in
    let mid = c.numbers.new.connection in
    let new = c.move_in_one.new.connection in
    let other : c.in-Err.error ≢ SqliteFailure code.OutOfMemory = λ memory. (let both = sym store ∙ c.fault.ensures.memory memory in cc) in
    let one : number_of 0 c.in_ok-rows.rows.items ≡ Some (pos 1) = sym (ap (number_of 0) c.deref.ensures.value) ∙ c.in_ok-is_number.ensures.accepted in
    inr (inr (stops_through g.S.Store old mid new c.in_ok-rows.ensures.reads c.in-Err.ensures.moves c.in_ok-rows.rows.items c.in_ok-rows.ensures.told one c.in-Err.error other c.in-Err.ensures.other clean outside))
