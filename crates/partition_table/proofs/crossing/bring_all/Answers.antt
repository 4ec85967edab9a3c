use Rattle.std.proofs.Common.{arith}
use Rattle.std.proofs.lemmas.Grind.{common_steps}
use Rattle.std.proofs.lemmas.List.Edits.{map_over_more}
use Rattle.partition_table.specs.Parts.{moved_output}
use Rattle.partition_table.proofs.crossing.bring_all.Goals as goal

pub loop-part-preserved : goal.loop-part-preserved
loop-part-preserved c = rw c.bring_one.ensures (grind (arith, common_steps, map_over_more (moved_output c.args.output c.args.to c.args.carried)))
