use Rattle.std.proofs.Common.{arith}
use Rattle.std.proofs.lemmas.Grind.{common_steps}
use Rattle.std.proofs.lemmas.List.Edits.{map_over_more}
use Rattle.idle_notes.specs.Notes.{fresh}
use Rattle.connected_clients.specs.Clients.{at}
use Rattle.connected_clients.proofs.clients.refresh.Goals as goal

pub loop-client-preserved : goal.loop-client-preserved
loop-client-preserved c = rw c.refreshed.ensures (grind (arith, common_steps, map_over_more (at c.args.number (λ p. fresh))))
