use Rattle.std.proofs.Common.{◌≡◌, ◌++◌, map, take, drop}
use Rattle.idle_notes.specs.Notes.{waits}
use Rattle.connected_clients.specs.Clients.{at}
use Rattle.connected_clients.proofs.clients.begin_waiting.Given as goal

abbrev pub invariant-loop-client : goal.invariant-loop-client
invariant-loop-client l = l.clients ≡ map (at l.number (waits l.names)) (take l.client-index l.initial.clients) ++ drop l.client-index l.initial.clients
