use Rattle.std.proofs.Common.{◌≡◌, map, take}
use Rattle.connected_clients.specs.Fingerprint.{outputs_in}
use Rattle.connected_clients.proofs.fingerprint.list_outputs.Given as goal

abbrev pub invariant-loop-part : goal.invariant-loop-part
invariant-loop-part l = l.list.items ≡ map outputs_in (take l.part-index l.parts)
