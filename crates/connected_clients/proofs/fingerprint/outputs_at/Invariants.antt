use Rattle.std.proofs.Common.{◌≡◌, drop}
use Rattle.connected_clients.specs.Fingerprint.{outputs_at}
use Rattle.connected_clients.proofs.fingerprint.outputs_at.Given as goal

abbrev pub invariant-loop-at : goal.invariant-loop-at
invariant-loop-at l = outputs_at l.index l.before ≡ outputs_at l.index (drop l.at-index l.before)
