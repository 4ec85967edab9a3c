use Rattle.std.proofs.Common.{rules}
use Rattle.std.proofs.lemmas.Result.{err_from_is_err_and, IfErr-weaker}
use Rattle.sqlite.specs.Held.{state}
use Rattle.shelf_database.specs.Opens.{HasTables}
use Rattle.shelf_database.proofs.HoldsLemmas.{empty_texts}
use Rattle.shelf_database.proofs.MakingBlame.{later, unfilled_failed, uncommitted_failed}
use Rattle.shelf_database.proofs.OpensLemmas.{Settles, made_counts, made_stays_open, made_whole, made_tables}
use Rattle.shelf_database.proofs.profile.make_tables.Goals as goal

pub returns-clause-opens : goal.returns-clause-opens
returns-clause-opens g c = λ none.
    let held = c.args.connection.now in
    let begun = c.transaction-transaction.result.conn.now in
    let begins = c.transaction-transaction.ensures.begun in
    let filled = state g.S.Store c.fill.new.transaction.conn.now in
    let new = state g.S.Store c.commit.new.self.0 in
    let leads = c.in_ok-fill.ensures.leads in
    let made = c.commit.ensures.survives in
    let counts = made_counts g.S.Store held begun begins filled new leads.survives _ made in
    let stays_open = made_stays_open g.S.Store held begun begins filled new leads.survives _ made in
    let settles : Settles (state g.S.Store held) = λ trees opened left. g.met.S.Store.settled held.store trees opened left in
    let whole = made_whole g.S.Store held begun begins filled new leads.survives _ made settles none
    (made_tables g.S.Store held begun begins filled new leads.survives _ made leads) in
    search (rules, none, counts, stays_open, whole, empty_texts)

pub returns-in_err-fill-clause-blamed : goal.returns-in_err-fill-clause-blamed
returns-in_err-fill-clause-blamed g c =
    let how = err_from_is_err_and c.from_residual.result c.from_residual.ensures.1 in
    let filled = state g.S.Store c.fill.new.transaction.conn.now in
    let new = state g.S.Store c.drop-transaction.new.self.0 in
    let it = unfilled_failed g.S.Store c.args.connection.now c.transaction-transaction.result.conn.now c.transaction-transaction.ensures.begun filled new (later filled new _ c.drop-transaction.ensures.survives) c.in_err-fill.field-0.0 c.in_err-fill.ensures.blamed in
    rw (how.1, how.2) (search (rules, it))

pub returns-clause-blamed : goal.returns-clause-blamed
returns-clause-blamed g c =
    let filled = state g.S.Store c.fill.new.transaction.conn.now in
    let new = state g.S.Store c.commit.new.self.0 in
    let it = uncommitted_failed g.S.Store c.args.connection.now c.transaction-transaction.result.conn.now c.transaction-transaction.ensures.begun filled new (later filled new _ c.commit.ensures.survives) HasTables c.commit.result c.in_ok-fill.ensures.leads c.commit.ensures.err in
    IfErr-weaker c.commit.result _ _ (λ e told. search (rules, told)) it
