use Rattle.std.proofs.Common.{[], ◌∷◌, true, Err, refl}
use Rattle.std.proofs.lemmas.Option.{slice_get_read}
use Rattle.std.proofs.lemmas.Result.{err_from_is_err_and}
use Rattle.sqlite_rules.proofs.ListLemmas.{has_got}
use Rattle.shelf.specs.Maps.{Answers, no_refusal}
use Rattle.shelf_database.specs.Faults.{LacksText}
use Rattle.shelf_database.proofs.FaultLemmas.{refused_so}
use Rattle.shelf_database.proofs.rows.entries_of.Goals as goal

pub returns-in_err-entry_of-clause-answers : goal.returns-in_err-entry_of-clause-answers
returns-in_err-entry_of-clause-answers c =
    let is = slice_get_read c.args.rows.now _ c.loop-row.row-index c.row-item.result refl c.loop-row-test.true c.row-item.is in
    let told : Answers {X = Unit {0}} (LacksText (0 ∷ 1 ∷ []) (λ _. true) c.args.rows.now) no_refusal (Err c.in_err-entry_of.field-0.0) =
    refused_so (Unit {0}) (LacksText (0 ∷ 1 ∷ []) (λ _. true) c.args.rows.now) no_refusal c.in_err-entry_of.field-0.0 c.in_err-entry_of.ensures.named
    (λ fault. let lacks = c.in_err-entry_of.ensures.fault fault in (c.row-item.result, has_got c.args.rows.now c.loop-row.row-index c.row-item.result is, refl, lacks.0, lacks.1, lacks.2)) in
    let how = err_from_is_err_and c.from_residual.result c.from_residual.ensures.1 in
    rw (how.1, how.2) told
