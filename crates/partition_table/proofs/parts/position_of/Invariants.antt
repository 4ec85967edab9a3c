use Rattle.std.proofs.Common.{◌≡◌, ◌+◌, ◌==◌, drop}
use Rattle.std.specs.List.{position_or_len}
use Rattle.partition_table.proofs.parts.position_of.Given as goal

abbrev pub invariant-loop-part : goal.invariant-loop-part
invariant-loop-part l =
    record {
      position : l.position ≡ l.part-index;
      first : position_or_len (λ part. part.index == l.index) l.parts ≡ l.part-index + position_or_len (λ part. part.index == l.index) (drop l.part-index l.parts);
    }
