use Rattle.std.proofs.Common.{rules}
use Rattle.sqlite.specs.Held.{state}
use Rattle.shelf.specs.Maps.{with_removed}
use Rattle.shelf_database.specs.Tables.{note_maps, IsShelf}
use Rattle.shelf_database.specs.Moves.{RemovesAll}
use Rattle.shelf_database.proofs.TransactionLemmas.{committed_changes}
use Rattle.shelf_database.proofs.moves.remove_in_one.Goals as goal

pub returns-clause-changes : goal.returns-clause-changes
returns-clause-changes g c =
    let held = c.args.connection.now in
    let after = with_removed (note_maps (state g.S.Store held).now.trees) c.args.name.now in
    let it = committed_changes g.S.Store held c.transaction-transaction.result.conn.now c.transaction-transaction.ensures.begun (state g.S.Store c.remove_rows.new.transaction.conn.now) (state g.S.Store c.commit.new.self.0) IsShelf (RemovesAll c.args.name.now)
    c.in_ok-remove_rows.ensures.leads c.commit.result c.commit.ensures.ended c.commit.ensures.ok c.commit.ensures.err c.commit.ensures.survives after (λ clean ready. ready.shelf) (λ db clean ready made. made) in
    search (rules, it)
