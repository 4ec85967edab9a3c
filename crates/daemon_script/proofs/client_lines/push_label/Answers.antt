use Rattle.std.proofs.Common.{arith}
use Rattle.std.proofs.lemmas.Grind.{common_steps}
use Rattle.daemon_script.proofs.Numbered.{one_digit}
use Rattle.daemon_script.proofs.client_lines.push_label.Goals as goal

pub returns-then-number-lt10 : goal.returns-then-number-lt10
returns-then-number-lt10 c = rw (one_digit c.args.number (omega arith)) (grind (arith, common_steps))
