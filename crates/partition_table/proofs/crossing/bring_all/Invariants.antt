use Rattle.std.proofs.Common.{◌≡◌, ◌++◌, map, take, drop}
use Rattle.partition_table.specs.Parts.{moved_output}
use Rattle.partition_table.proofs.crossing.bring_all.Given as goal

abbrev pub invariant-loop-part : goal.invariant-loop-part
invariant-loop-part l = l.parts ≡ map (moved_output l.output l.to l.carried) (take l.part-index l.initial.parts) ++ drop l.part-index l.initial.parts
