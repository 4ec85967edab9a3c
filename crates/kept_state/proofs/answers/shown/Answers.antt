use Rattle.std.proofs.Common.{◌∙◌, false, sym, ap, arith}
use Rattle.std.proofs.lemmas.Bool.{eq-eqb, ne_eqb}
use Rattle.std.proofs.lemmas.List.{at_drop_more, drop_all}
use Rattle.kept_state.specs.Told.{shown_on}
use Rattle.kept_state.specs.declared.kept.KeptOutput.{KeptOutput}
use Rattle.kept_state.proofs.answers.shown.Goals as goal

abbrev no_output : KeptOutput
no_output = record { number = 0; is_on = false }

pub returns-then-output-number : goal.returns-then-output-number
returns-then-output-number c =
    let here = at_drop_more (shown_on c.args.number) c.args.outputs.now c.loop-output.output-index no_output (omega arith) in
    let is = eq-eqb _ _ c.if-output-number.true in
    sym (rw is at here) ∙ c.loop-output.invariant

pub loop-output-preserved : goal.loop-output-preserved
loop-output-preserved c =
    let here = at_drop_more (shown_on c.args.number) c.args.outputs.now c.loop-output.output-index no_output (omega arith) in
    let other = ne_eqb _ _ c.if-output-number.false in
    sym (rw other at here) ∙ c.loop-output.invariant

pub returns : goal.returns
returns c = sym (ap (shown_on c.args.number) (drop_all c.loop-output.output-index c.args.outputs.now c.loop-output-test.false)) ∙ c.loop-output.invariant
