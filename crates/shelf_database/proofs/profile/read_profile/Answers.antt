use Rattle.std.proofs.Common.{sym, ap, ◌∙◌}
use Rattle.sqlite.specs.Held.{state}
use Rattle.shelf_database.specs.Tables.{has_notes}
use Rattle.shelf_database.proofs.FormerLemmas.{noted_unmoved}
use Rattle.shelf_database.proofs.profile.read_profile.Goals as goal

pub returns-then-has_notes-clause-unmoved : goal.returns-then-has_notes-clause-unmoved
returns-then-has_notes-clause-unmoved g c =
    let old = state g.S.Store c.args.connection.now in
    let new = state g.S.Store c.read_number.new.connection in
    noted_unmoved old new c.read_number.result (sym (ap has_notes c.schema-2.ensures.value) ∙ sym c.has_notes.ensures ∙ c.if-has_notes.true)
