use Rattle.std.proofs.Common.{◌≡◌, [], ◌∷◌, true, false, is_some, option_map, string_bytes, rules, ◌∙◌}
use Rattle.sqlite.specs.Held.{state}
use Rattle.shelf_database.specs.Tables.{of_target}
use Rattle.shelf_database.specs.Faults.{LacksText}
use Rattle.shelf_database.proofs.AnyRowLemmas.{any_there, none_there}
use Rattle.shelf_database.proofs.AskLemmas.{handed_on, text_reads, text_refuses, asked_answer}
use Rattle.shelf_database.proofs.BlameLemmas.{names_of_target_asked}
use Rattle.shelf_database.proofs.FoundLemmas.{mapped_some}
use Rattle.shelf_database.proofs.LacksLemmas.{names_of_target_lack}
use Rattle.shelf_database.proofs.notes.has_notes.Goals as goal

pub returns-in_err-name-clause-refused : goal.returns-in_err-name-clause-refused
returns-in_err-name-clause-refused g c =
    let old = state g.S.Store c.args.connection.now in
    let new = state g.S.Store c.first_text.new.connection in
    rw (handed_on c.from_residual.result _ c.from_residual.ensures.1) (text_refuses _ _ (names_of_target_asked c.args.kind c.args.target.now) old new (rw (c.params-to_sql.ensures, c.params-to_sql-2.ensures, c.kind_text-word.ensures) at c.first_text.ensures.survives) (LacksText (3 ∷ []) (of_target c.args.kind c.args.target.now) (old.now.trees 5)) c.in_err-name.field-0.0
    (λ rows answer lacks. names_of_target_lack old.now.trees rows c.args.kind c.args.target.now answer lacks) (rw (c.params-to_sql.ensures, c.params-to_sql-2.ensures, c.kind_text-word.ensures) at c.in_err-name.ensures.refused))

pub returns-clause-reads : goal.returns-clause-reads
returns-clause-reads g c =
    text_reads _ _ (names_of_target_asked c.args.kind c.args.target.now) (state g.S.Store c.args.connection.now) (state g.S.Store c.first_text.new.connection) (rw (c.params-to_sql.ensures, c.params-to_sql-2.ensures, c.kind_text-word.ensures) at c.first_text.ensures.survives)
    (λ clean. let h = (rw (c.params-to_sql.ensures, c.params-to_sql-2.ensures, c.kind_text-word.ensures) at c.in_ok-name.ensures.shown) clean in (h.0, h.1))

pub returns-clause-found : goal.returns-clause-found
returns-clause-found g c = λ clean ready is.
    let old = state g.S.Store c.args.connection.now in
    let h = (rw (c.params-to_sql.ensures, c.params-to_sql-2.ensures, c.kind_text-word.ensures) at c.in_ok-name.ensures.shown) clean in
    let answer = asked_answer _ _ (names_of_target_asked c.args.kind c.args.target.now) old (state g.S.Store c.first_text.new.connection) (rw (c.params-to_sql.ensures, c.params-to_sql-2.ensures, c.kind_text-word.ensures) at c.first_text.ensures.survives) h.0 ready h.1 in
    let some : is_some c.in_ok-name.name ≡ true = search (rules, is) in
    any_there c.args.kind c.args.target.now old.now h.0 answer (option_map string_bytes c.in_ok-name.name) h.2 (mapped_some string_bytes c.in_ok-name.name ∙ some)

pub returns-clause-missing : goal.returns-clause-missing
returns-clause-missing g c = λ clean ready is.
    let old = state g.S.Store c.args.connection.now in
    let h = (rw (c.params-to_sql.ensures, c.params-to_sql-2.ensures, c.kind_text-word.ensures) at c.in_ok-name.ensures.shown) clean in
    let answer = asked_answer _ _ (names_of_target_asked c.args.kind c.args.target.now) old (state g.S.Store c.first_text.new.connection) (rw (c.params-to_sql.ensures, c.params-to_sql-2.ensures, c.kind_text-word.ensures) at c.first_text.ensures.survives) h.0 ready h.1 in
    let none : is_some c.in_ok-name.name ≡ false = search (rules, is) in
    none_there c.args.kind c.args.target.now old.now h.0 answer (option_map string_bytes c.in_ok-name.name) h.2 (mapped_some string_bytes c.in_ok-name.name ∙ none)
