use Rattle.std.proofs.Common.{◌≡◌, drop, map}
use Rattle.partition_table.specs.Parts.{has_index, known}
use Rattle.partition_table.proofs.parts.has_index.Given as goal

abbrev pub invariant-loop-part : goal.invariant-loop-part
invariant-loop-part l = has_index l.index (map known l.parts) ≡ has_index l.index (map known (drop l.part-index l.parts))
