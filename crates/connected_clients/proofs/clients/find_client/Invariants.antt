use Rattle.std.proofs.Common.{◌≡◌, drop}
use Rattle.connected_clients.specs.Clients.{client_of}
use Rattle.connected_clients.proofs.clients.find_client.Given as goal

abbrev pub invariant-loop-client : goal.invariant-loop-client
invariant-loop-client l = client_of l.number l.clients ≡ client_of l.number (drop l.client-index l.clients)
