use Rattle.std.proofs.Common.{◌≡◌, Option, find, slice_get, is_some, option_map, rules, sym, ◌∙◌}
use Rattle.sqlite.specs.Order.{Row, column, bytes}
use Rattle.sqlite.specs.Held.{state}
use Rattle.shelf.specs.Lines.{lines_of}
use Rattle.shelf_database.specs.Tables.{has_text}
use Rattle.shelf_database.proofs.AskLemmas.{asked_reads, asked_answer, asked_refuses, handed_on}
use Rattle.shelf_database.proofs.BlameLemmas.{named_asked}
use Rattle.shelf_database.proofs.FoundLemmas.{list_shown, first_found, mapped_some}
use Rattle.shelf_database.proofs.lists.has_list.Goals as goal

pub returns-in_err-rows-clause-refused : goal.returns-in_err-rows-clause-refused
returns-in_err-rows-clause-refused g c =
    rw (handed_on c.from_residual.result _ c.from_residual.ensures.1) (asked_refuses _ _ (named_asked c.args.name.now) (state g.S.Store c.args.connection.now) (state g.S.Store c.ask.new.connection) (rw c.params-to_sql.ensures at c.ask.ensures.survives)
    c.in_err-rows.field-0.0 (rw c.params-to_sql.ensures at c.in_err-rows.ensures.refused))

pub returns-clause-reads : goal.returns-clause-reads
returns-clause-reads g c =
    asked_reads _ _ (named_asked c.args.name.now) (state g.S.Store c.args.connection.now) (state g.S.Store c.ask.new.connection) (rw c.params-to_sql.ensures at c.ask.ensures.survives) c.in_ok-rows.rows.items (rw c.params-to_sql.ensures at c.in_ok-rows.ensures.shown)

pub returns-clause-found : goal.returns-clause-found
returns-clause-found g c = λ clean ready.
    let old = state g.S.Store c.args.connection.now in
    let found : Option Row = find (has_text 1 c.args.name.now) (old.now.trees 1) in
    let rows = list_shown 1 c.args.name.now old.now c.in_ok-rows.rows.items ready.shelf
    (asked_answer _ _ (named_asked c.args.name.now) old (state g.S.Store c.ask.new.connection) (rw c.params-to_sql.ensures at c.ask.ensures.survives) c.in_ok-rows.rows.items ready (rw c.params-to_sql.ensures at (c.in_ok-rows.ensures.shown clean))) in
    let first : c.is_some.result ≡ is_some (slice_get c.in_ok-rows.rows.items 0) = search rules in
    first ∙ first_found 1 found c.in_ok-rows.rows.items rows ∙ sym (mapped_some (λ row. bytes (column row 2)) found) ∙ sym (mapped_some lines_of (option_map (λ row. bytes (column row 2)) found))
