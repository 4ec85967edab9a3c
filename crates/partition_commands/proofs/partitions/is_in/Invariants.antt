use Rattle.std.proofs.Common.{◌≡◌, drop, map}
use Rattle.partition_commands.specs.Partitions.{is_in, seated}
use Rattle.partition_commands.proofs.partitions.is_in.Given as goal

abbrev pub invariant-loop-client : goal.invariant-loop-client
invariant-loop-client l = is_in l.index (map seated l.clients) ≡ is_in l.index (map seated (drop l.client-index l.clients))
