use Rattle.std.proofs.Common.{◌≡◌, take, map}
use Rattle.partition_table.specs.Parts.{Known, known}
use Rattle.partition_commands.proofs.names.names_of.Given as goal

abbrev pub invariant-loop-part : goal.invariant-loop-part
invariant-loop-part l = map (λ name. name.now) l.names.items ≡ map (λ (f : Known). f.name) (map known (take l.part-index l.parts))
