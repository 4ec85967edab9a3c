use Rattle.std.proofs.Common.{◌++◌, List, ℕ, ap, sym, ◌∙◌, arith}
use Rattle.std.proofs.lemmas.Bool.Decides.{nat_tests}
use Rattle.filters.proofs.Truths.{under_none, under_some}
use Rattle.filters.proofs.matching.is_under.Goals as goal

pub returns-in-None : goal.returns-in-None
returns-in-None c = under_none c.args.folder.now c.args.uri.now (grind (arith, nat_tests, c.if-is_empty.false, c.is_empty.ensures))
    (λ rest e. c.in-None.ensures rest (c.as_bytes.ensures.value ∙ e ∙ ap (λ (t : List ℕ). t ++ rest) (sym c.as_bytes-2.ensures.value)))

pub returns-in-Some : goal.returns-in-Some
returns-in-Some c = under_some c.args.folder.now c.args.uri.now c.in-Some.rest.now c.begins_with_slash.result (grind (arith, nat_tests, c.if-is_empty.false, c.is_empty.ensures))
    (sym c.as_bytes.ensures.value ∙ c.in-Some.ensures ∙ ap (λ (t : List ℕ). t ++ c.in-Some.rest.now) c.as_bytes-2.ensures.value) c.begins_with_slash.ensures
