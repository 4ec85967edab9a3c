use Rattle.std.proofs.Common.{Some, List, ℕ, Option, IfOk, ap, sym, subst, ◌∙◌, ◌≡◌}
use Rattle.wave.proofs.EverydayTexts.{utf8_spelled, other_spelled}
use Rattle.wave.proofs.tag.spelled.Goals as goal

pub returns-in_ok-new-in-Ok : goal.returns-in_ok-new-in-Ok
returns-in_ok-new-in-Ok c =
    ap (λ (t : List ℕ). Some t) (c.in_ok-new-in-Ok.ensures ∙ c.in-Ok.ensures.cases.0) ∙ sym (utf8_spelled c.args.bytes.now c.in-Ok.ensures.cases.1)

pub returns-in-Err : goal.returns-in-Err
returns-in-Err c =
    subst (λ (t : Option (List ℕ)). IfOk c.windows_1252.result (λ text. text ≡ t)) (sym (other_spelled c.args.bytes.now c.in-Err.ensures.cases.0)) c.windows_1252.ensures
