use Rattle.std.proofs.Common.{inr, rules}
use Rattle.shelf_database.proofs.AskLemmas.{handed_on, textless}
use Rattle.shelf_database.proofs.asks.first_text.Goals as goal

pub returns-in_err-text_at-in-Some-clause-refused : goal.returns-in_err-text_at-in-Some-clause-refused
returns-in_err-text_at-in-Some-clause-refused g c = λ clean.
    rw (handed_on c.from_residual-in_err-text_at-in-Some.result _ c.from_residual-in_err-text_at-in-Some.ensures.1)
    (inr (c.in_ok-rows.rows.items, c.in_ok-rows.ensures.shown clean, textless c.in_ok-rows.rows.items c.in-Some.row.now c.in_err-text_at-in-Some.field-0.0 (search rules) c.in_err-text_at-in-Some.ensures.named c.in_err-text_at-in-Some.ensures.fault))
