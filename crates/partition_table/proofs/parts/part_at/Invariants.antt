use Rattle.std.proofs.Common.{◌≡◌, drop}
use Rattle.partition_table.specs.Parts.{part_at}
use Rattle.partition_table.proofs.parts.part_at.Given as goal

abbrev pub invariant-loop-part : goal.invariant-loop-part
invariant-loop-part l = part_at l.index l.parts ≡ part_at l.index (drop l.part-index l.parts)
