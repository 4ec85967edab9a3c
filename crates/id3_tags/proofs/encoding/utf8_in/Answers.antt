use Rattle.std.proofs.Common.{List, ℕ, Some, ap, ◌∙◌}
use Rattle.id3_tags.proofs.Spelling.{text_of_utf8, no_text_of_utf8}
use Rattle.id3_tags.proofs.encoding.utf8_in.Goals as goal

pub returns-in_ok-new-in-Ok : goal.returns-in_ok-new-in-Ok
returns-in_ok-new-in-Ok c =
    ap (λ (t : List ℕ). Some t) (c.in_ok-new-in-Ok.ensures ∙ c.in-Ok.ensures.cases.0) ∙ text_of_utf8 c.args.bytes.now c.in-Ok.ensures.cases.1

pub returns-in-Err : goal.returns-in-Err
returns-in-Err c = no_text_of_utf8 c.args.bytes.now c.in-Err.ensures.cases.0
