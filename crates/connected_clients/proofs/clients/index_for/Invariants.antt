use Rattle.std.proofs.Common.{◌≡◌, ◌+◌, nat_lt, drop}
use Rattle.std.specs.List.{position_or_len}
use Rattle.connected_clients.proofs.clients.index_for.Given as goal

abbrev pub invariant-loop-client : goal.invariant-loop-client
invariant-loop-client l =
    record {
      index : l.index ≡ l.client-index;
      first : position_or_len (λ client. nat_lt l.number client.number) l.clients ≡ l.client-index + position_or_len (λ client. nat_lt l.number client.number) (drop l.client-index l.clients);
    }
