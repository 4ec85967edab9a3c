use Rattle.std.proofs.Common.{◌≡◌, ◌++◌, map, take, drop}
use Rattle.connected_clients.specs.Clients.{shown}
use Rattle.connected_clients.proofs.clients.show.Given as goal

abbrev pub invariant-loop-client : goal.invariant-loop-client
invariant-loop-client l = l.clients ≡ map (shown l.number l.tags) (take l.client-index l.initial.clients) ++ drop l.client-index l.initial.clients
