use Rattle.std.proofs.Common.{◌≡◌, drop, map}
use Rattle.partition_table.specs.Parts.{holding, known}
use Rattle.partition_table.proofs.parts.holding.Given as goal

abbrev pub invariant-loop-part : goal.invariant-loop-part
invariant-loop-part l = holding l.output (map known l.parts) ≡ holding l.output (map known (drop l.part-index l.parts))
