use Rattle.std.proofs.Common.{◌≡◌, ◌++◌, map, take, drop}
use Rattle.connected_clients.specs.Clients.{entered}
use Rattle.connected_clients.proofs.clients.enter.Given as goal

abbrev pub invariant-loop-client : goal.invariant-loop-client
invariant-loop-client l = l.clients ≡ map (entered l.number l.index) (take l.client-index l.initial.clients) ++ drop l.client-index l.initial.clients
