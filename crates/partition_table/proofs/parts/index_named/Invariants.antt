use Rattle.std.proofs.Common.{◌≡◌, drop, map}
use Rattle.partition_table.specs.Parts.{known, named}
use Rattle.partition_table.proofs.parts.index_named.Given as goal

abbrev pub invariant-loop-part : goal.invariant-loop-part
invariant-loop-part l = named l.name (map known l.parts) ≡ named l.name (map known (drop l.part-index l.parts))
