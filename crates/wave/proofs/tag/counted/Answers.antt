use Rattle.std.proofs.Common.{arith, sym}
use Rattle.std.proofs.lemmas.Bool.Decides.{nat_tests}
use Rattle.wave.proofs.Found.{counts_if, not_text}
use Rattle.wave.proofs.tag.counted.Goals as goal

pub returns-in-Ok : goal.returns-in-Ok
returns-in-Ok c = (counts_if c.args.bytes.now (grind (arith, nat_tests)) (omega arith) (sym c.if-not-has_no_control.ensures) c.in-Ok.ensures.cases.1, c.in-Ok.ensures.cases.0)

pub returns-in-Err : goal.returns-in-Err
returns-in-Err c = not_text c.args.bytes.now c.in-Err.ensures.cases.0
