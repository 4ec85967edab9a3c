use Rattle.std.proofs.Common.{◌∙◌, List, ℕ, IsTrue, IfOk, ap, subst, sym}
use Rattle.std.specs.Prelude.{◌↔◌}
use Rattle.filters.specs.declared.matching.Case.{Case}
use Rattle.filters.specs.Truth.{Relates, folded}
use Rattle.filters.proofs.matching.relates.Goals as goal

pub returns-in-Heeded-clause-truth : goal.returns-in-Heeded-clause-truth
returns-in-Heeded-clause-truth c =
    subst (λ (value : List ℕ). IfOk c.has_it.result (λ yes. IsTrue yes ↔ Relates c.args.case c.args.relation value c.args.field c.args.song.now))
    (ap (λ (case : Case). folded case c.args.value.now) (sym c.in-Heeded.is)) c.has_it.ensures.truth

pub returns-in_ok-value-in-Ignored-clause-truth : goal.returns-in_ok-value-in-Ignored-clause-truth
returns-in_ok-value-in-Ignored-clause-truth c =
    subst (λ (value : List ℕ). IfOk c.has_it-in-Ignored.result (λ yes. IsTrue yes ↔ Relates c.args.case c.args.relation value c.args.field c.args.song.now))
    (c.as_str.ensures.value ∙ c.in_ok-value-in-Ignored.ensures ∙ ap (λ (case : Case). folded case c.args.value.now) (sym c.in-Ignored.is)) c.has_it-in-Ignored.ensures.truth
