use Rattle.std.proofs.Common.{rules, inl, inr}
use Rattle.std.proofs.lemmas.Result.{err_from_is_err_and, IfErr-weaker}
use Rattle.sqlite.specs.Held.{state}
use Rattle.shelf_database.specs.Opens.{IsFormerShelf, HasMoved, KeepsOne, IsStuck, StopsMove}
use Rattle.shelf_database.proofs.MakingBlame.{later}
use Rattle.shelf_database.proofs.CommitLemmas.{commits_answered, begun_inside, undone_for, uncommitted_for, stopped_moving, filled_inside}
use Rattle.shelf_database.proofs.profile.move_in_one.Goals as goal

pub returns-clause-moves : goal.returns-clause-moves
returns-clause-moves g c =
    let held = c.args.connection.now in
    let filled = state g.S.Store c.move_rows.new.transaction.conn.now in
    let new = state g.S.Store c.commit.new.self.0 in
    let it = commits_answered g.S.Store held c.transaction-transaction.result.conn.now c.transaction-transaction.ensures.begun filled new IsFormerShelf HasMoved c.in_ok-move_rows.ensures.leads c.commit.ensures.survives c.commit.ensures.ended
    c.commit.result c.commit.ensures.ok c.commit.ensures.err in
    search (rules, it)

pub returns-in_err-move_rows-clause-blamed : goal.returns-in_err-move_rows-clause-blamed
returns-in_err-move_rows-clause-blamed g c =
    let how = err_from_is_err_and c.from_residual.result c.from_residual.ensures.1 in
    let held = c.args.connection.now in
    let begins = c.transaction-transaction.ensures.begun in
    let filled = state g.S.Store c.move_rows.new.transaction.conn.now in
    let new = state g.S.Store c.drop-transaction.new.self.0 in
    let after = later filled new _ c.drop-transaction.ensures.survives in
    let it : IsStuck (state g.S.Store held) new c.in_err-move_rows.field-0.0 = record {
      why = λ clean former other.
          undone_for g.S.Store held c.transaction-transaction.result.conn.now begins filled new after IsFormerShelf KeepsOne _ c.in_err-move_rows.ensures.blamed clean former.shelf other;
    } in
    rw (how.1, how.2) (search (rules, it))

pub returns-in_err-move_rows-clause-other : goal.returns-in_err-move_rows-clause-other
returns-in_err-move_rows-clause-other g c =
    let how = err_from_is_err_and c.from_residual.result c.from_residual.ensures.1 in
    let held = c.args.connection.now in
    let begun = c.transaction-transaction.result.conn.now in
    let begins = c.transaction-transaction.ensures.begun in
    let last = c.move_rows.new.transaction.conn.now in
    let filled = state g.S.Store last in
    let new = state g.S.Store c.drop-transaction.new.self.0 in
    let after = later filled new _ c.drop-transaction.ensures.survives in
    let it : StopsMove g.S.Store held c.drop-transaction.new.self.0 c.in_err-move_rows.field-0.0 = record {
      why = λ clean outside other.
          inr (stopped_moving g.S.Store held begun last begins _ (c.in_err-move_rows.ensures.ran (after.0 clean) (begun_inside g.S.Store held begun begins filled new after)));
    } in
    rw (how.1, how.2) (search (rules, it))

pub returns-clause-blamed : goal.returns-clause-blamed
returns-clause-blamed g c =
    let held = c.args.connection.now in
    let begun = c.transaction-transaction.result.conn.now in
    let begins = c.transaction-transaction.ensures.begun in
    let last = c.move_rows.new.transaction.conn.now in
    let filled = state g.S.Store last in
    let new = state g.S.Store c.commit.new.self.0 in
    let after = later filled new _ c.commit.ensures.survives in
    let inside = begun_inside g.S.Store held begun begins filled new after in
    let it = uncommitted_for g.S.Store held begun begins filled new after c.commit.result c.in_ok-move_rows.ensures.leads.survives c.commit.ensures.err in
    IfErr-weaker c.commit.result _ _ (λ e told.
    let so : IsStuck (state g.S.Store held) new e = record { why = λ clean former other. inl (told clean (filled_inside g.S.Store held begun last begins (c.in_ok-move_rows.ensures.ran (after.0 clean) inside)) other) } in
    search (rules, so)) it

pub returns-clause-other : goal.returns-clause-other
returns-clause-other g c =
    let held = c.args.connection.now in
    let begun = c.transaction-transaction.result.conn.now in
    let begins = c.transaction-transaction.ensures.begun in
    let last = c.move_rows.new.transaction.conn.now in
    let filled = state g.S.Store last in
    let new = state g.S.Store c.commit.new.self.0 in
    let after = later filled new _ c.commit.ensures.survives in
    let inside = begun_inside g.S.Store held begun begins filled new after in
    let it = uncommitted_for g.S.Store held begun begins filled new after c.commit.result c.in_ok-move_rows.ensures.leads.survives c.commit.ensures.err in
    IfErr-weaker c.commit.result _ _ (λ e told.
    let so : StopsMove g.S.Store held c.commit.new.self.0 e = record { why = λ clean outside other. inl (told clean (filled_inside g.S.Store held begun last begins (c.in_ok-move_rows.ensures.ran (after.0 clean) inside)) other) } in
    search (rules, so)) it
