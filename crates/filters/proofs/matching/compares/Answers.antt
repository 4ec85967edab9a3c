use Rattle.std.proofs.Common.{IsTrue, IfOk, subst, sym}
use Rattle.std.specs.Prelude.{◌↔◌}
use Rattle.filters.specs.declared.expression.Test.{Test}
use Rattle.filters.specs.Truth.{Compares}
use Rattle.filters.proofs.matching.compares.Goals as goal

pub returns-in-Contains-clause-truth : goal.returns-in-Contains-clause-truth
returns-in-Contains-clause-truth c =
    subst (λ (test : Test). IfOk c.relates-in-Contains.result (λ yes. IsTrue yes ↔ Compares c.args.case test c.args.value.now c.args.field c.args.song.now)) (sym c.in-Contains.is) c.relates-in-Contains.ensures.truth
