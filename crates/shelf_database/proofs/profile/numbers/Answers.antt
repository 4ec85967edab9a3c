use Rattle.std.proofs.Common.{[], inl, inr}
use Rattle.sqlite.specs.Held.{state}
use Rattle.shelf_database.specs.Tables.{former_schema}
use Rattle.shelf_database.proofs.BlameLemmas.{number_asked, number_blamed}
use Rattle.shelf_database.proofs.QueryLemmas.{answer_of, answer_in, shown_in, leaves_in}
use Rattle.shelf_database.proofs.AskLemmas.{asked_reads}
use Rattle.shelf_database.proofs.OpensLemmas.{opens_unread}
use Rattle.shelf_database.proofs.TablesLemmas.{asked_text, asked_is, asked_former, asked_number}
use Rattle.shelf_database.proofs.profile.numbers.Goals as goal

pub returns-in-Ok-clause-reads : goal.returns-in-Ok-clause-reads
returns-in-Ok-clause-reads g c =
    let old = state g.S.Store c.args.connection.now in
    let new = state g.S.Store c.query_all.new.self in
    asked_reads asked_text [] number_asked old new c.in-Ok.ensures.survives c.in-Ok.rows.items c.in-Ok.ensures.ok

pub returns-in-Ok-clause-spares : goal.returns-in-Ok-clause-spares
returns-in-Ok-clause-spares g c =
    let old = state g.S.Store c.args.connection.now in
    let new = state g.S.Store c.query_all.new.self in
    record {
      same = λ clean former. shown_in former_schema asked_text _ _ asked_former [] old new former.shelf.schema c.in-Ok.rows.items (c.in-Ok.ensures.ok clean);
      leaves = λ clean former. leaves_in former_schema asked_text _ _ asked_former [] old new former.shelf.schema c.in-Ok.ensures.survives clean;
    }

pub returns-in-Ok-clause-shown : goal.returns-in-Ok-clause-shown
returns-in-Ok-clause-shown g c = λ clean tables.
    let old = state g.S.Store c.args.connection.now in
    let new = state g.S.Store c.query_all.new.self in
    let rows = c.in-Ok.rows.items in
    asked_number old.now rows (elim tables [
      | inl ready ↦ answer_of asked_text _ _ asked_is [] old new ready rows (c.in-Ok.ensures.ok clean)
      | inr former ↦ answer_in former_schema asked_text _ _ asked_former [] old new former.shelf.schema rows (c.in-Ok.ensures.ok clean)
    ])

pub returns-in-Err-clause-failed : goal.returns-in-Err-clause-failed
returns-in-Err-clause-failed g c = λ some.
    let old = state g.S.Store c.args.connection.now in
    let new = state g.S.Store c.query_all.new.self in
    opens_unread asked_text _ _ asked_is asked_former [] old new c.in-Err.error some (λ trees opened left. g.met.S.Store.settled c.args.connection.now.store trees opened left) c.in-Err.ensures.err c.in-Err.ensures.survives

pub returns-in-Err-clause-blamed : goal.returns-in-Err-clause-blamed
returns-in-Err-clause-blamed g c = λ clean tables fault.
    let old = state g.S.Store c.args.connection.now in
    let new = state g.S.Store c.query_all.new.self in
    number_blamed old new c.in-Err.error tables (λ memory. let none = c.fault.ensures.memory memory in cc) (c.in-Err.ensures.err clean)

pub returns-in-Err-clause-other : goal.returns-in-Err-clause-other
returns-in-Err-clause-other g c = λ clean fault. (c.in-Err.error, λ memory. let none = c.fault.ensures.memory memory in cc, c.in-Err.ensures.err clean)
