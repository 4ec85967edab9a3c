use Rattle.std.proofs.Common.{◌≡◌, drop, map}
use Rattle.partition_table.specs.Parts.{holds_any_in, known, known_at}
use Rattle.partition_table.proofs.parts.holds_any.Given as goal

abbrev pub invariant-loop-part : goal.invariant-loop-part
invariant-loop-part l =
    holds_any_in (known_at l.index (map known l.parts)) ≡ holds_any_in (known_at l.index (map known (drop l.part-index l.parts)))
