use Rattle.std.proofs.Common.{◌-◌, arith, refl, vec_len}
use Rattle.kept_state.proofs.Behind.{last_set}
use Rattle.kept_state.specs.Heard.{switched}
use Rattle.kept_state.proofs.answers.switch_last.Goals as goal

pub returns-in-Some : goal.returns-in-Some
returns-in-Some c =
    let there = c.in-Some.ensures.variant.0 refl in
    last_set (switched c.args.is_on) c.args.outputs.now.items c.in-Some.output.now (vec_len c.args.outputs.now - 1) (omega (arith, there)) c.in-Some.ensures.value
