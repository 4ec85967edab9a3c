use Rattle.std.proofs.Common.{arith}
use Rattle.std.proofs.lemmas.Grind.{common_steps}
use Rattle.std.proofs.lemmas.List.Edits.{map_over_more}
use Rattle.kept_state.specs.Outputs.{turned_on}
use Rattle.kept_state.proofs.kept.switch_all.Goals as goal

pub loop-output-preserved : goal.loop-output-preserved
loop-output-preserved c = rw c.turn_on.ensures (grind (arith, common_steps, map_over_more (turned_on c.args.named.now)))
