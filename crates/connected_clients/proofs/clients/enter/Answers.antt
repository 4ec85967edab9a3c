use Rattle.std.proofs.Common.{arith}
use Rattle.std.proofs.lemmas.Grind.{common_steps}
use Rattle.std.proofs.lemmas.List.Edits.{map_over_more}
use Rattle.connected_clients.specs.Clients.{entered}
use Rattle.connected_clients.proofs.clients.enter.Goals as goal

pub loop-client-preserved : goal.loop-client-preserved
loop-client-preserved c = rw c.entered.ensures (grind (arith, common_steps, map_over_more (entered c.args.number c.args.index)))
