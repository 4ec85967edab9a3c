use Rattle.std.proofs.Common.{◌≡◌, Option, find, slice_get, is_some, rules, sym, ◌∙◌}
use Rattle.sqlite.specs.Order.{Row, column, bytes}
use Rattle.sqlite.specs.Held.{state}
use Rattle.shelf_database.specs.Tables.{has_key}
use Rattle.shelf_database.proofs.AskLemmas.{asked_reads, asked_answer, asked_refuses, handed_on}
use Rattle.shelf_database.proofs.BlameLemmas.{value_asked}
use Rattle.shelf_database.proofs.FoundLemmas.{note_shown, first_found, mapped_some}
use Rattle.shelf_database.proofs.notes.has_note.Goals as goal

pub returns-in_err-rows-clause-refused : goal.returns-in_err-rows-clause-refused
returns-in_err-rows-clause-refused g c =
    rw (handed_on c.from_residual.result _ c.from_residual.ensures.1) (asked_refuses _ _ (value_asked c.args.kind c.args.target.now c.args.name.now) (state g.S.Store c.args.connection.now) (state g.S.Store c.ask.new.connection)
    (rw (c.params-to_sql.ensures, c.params-to_sql-2.ensures, c.params-to_sql-3.ensures, c.kind_text-word.ensures) at c.ask.ensures.survives) c.in_err-rows.field-0.0 (rw (c.params-to_sql.ensures, c.params-to_sql-2.ensures, c.params-to_sql-3.ensures, c.kind_text-word.ensures) at c.in_err-rows.ensures.refused))

pub returns-clause-reads : goal.returns-clause-reads
returns-clause-reads g c =
    asked_reads _ _ (value_asked c.args.kind c.args.target.now c.args.name.now) (state g.S.Store c.args.connection.now) (state g.S.Store c.ask.new.connection) (rw (c.params-to_sql.ensures, c.params-to_sql-2.ensures, c.params-to_sql-3.ensures, c.kind_text-word.ensures) at c.ask.ensures.survives)
    c.in_ok-rows.rows.items (rw (c.params-to_sql.ensures, c.params-to_sql-2.ensures, c.params-to_sql-3.ensures, c.kind_text-word.ensures) at c.in_ok-rows.ensures.shown)

pub returns-clause-found : goal.returns-clause-found
returns-clause-found g c = λ clean ready.
    let old = state g.S.Store c.args.connection.now in
    let found : Option Row = find (has_key c.args.kind c.args.target.now c.args.name.now) (old.now.trees 5) in
    let rows = note_shown c.args.kind c.args.target.now c.args.name.now old.now c.in_ok-rows.rows.items ready.shelf
    (asked_answer _ _ (value_asked c.args.kind c.args.target.now c.args.name.now) old (state g.S.Store c.ask.new.connection) (rw (c.params-to_sql.ensures, c.params-to_sql-2.ensures, c.params-to_sql-3.ensures, c.kind_text-word.ensures) at c.ask.ensures.survives)
    c.in_ok-rows.rows.items ready (rw (c.params-to_sql.ensures, c.params-to_sql-2.ensures, c.params-to_sql-3.ensures, c.kind_text-word.ensures) at (c.in_ok-rows.ensures.shown clean))) in
    let first : c.is_some.result ≡ is_some (slice_get c.in_ok-rows.rows.items 0) = search rules in
    first ∙ first_found 4 found c.in_ok-rows.rows.items rows ∙ sym (mapped_some (λ row. bytes (column row 4)) found)
