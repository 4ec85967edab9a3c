use Rattle.std.proofs.Common.{◌≡◌, ◌++◌, map, take, drop}
use Rattle.connected_clients.specs.Clients.{notified}
use Rattle.connected_clients.specs.Fingerprint.{raised_in}
use Rattle.connected_clients.proofs.clients.notify_all.Given as goal

abbrev pub invariant-loop-client : goal.invariant-loop-client
invariant-loop-client l = l.clients ≡ map (notified (raised_in l.raised)) (take l.client-index l.initial.clients) ++ drop l.client-index l.initial.clients
