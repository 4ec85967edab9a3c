use Rattle.std.proofs.Common.{◌≡◌, ◌++◌, map, take, drop}
use Rattle.idle_notes.specs.Notes.{fresh}
use Rattle.connected_clients.specs.Clients.{at}
use Rattle.connected_clients.proofs.clients.refresh.Given as goal

abbrev pub invariant-loop-client : goal.invariant-loop-client
invariant-loop-client l = l.clients ≡ map (at l.number (λ p. fresh)) (take l.client-index l.initial.clients) ++ drop l.client-index l.initial.clients
