use Rattle.std.proofs.Common.{◌≡◌, ◌++◌, drop}
use Rattle.std.specs.List.{enumerate_from, flat_map}
use Rattle.status_commands.specs.Outputs.{lines_if_here}
use Rattle.status_commands.proofs.outputs.lines_of.Given as goal

abbrev pub invariant-loop-name : goal.invariant-loop-name
invariant-loop-name l =
    (l.number ≡ l.name-index)
    × (l.lines ++ flat_map (lines_if_here l.outputs) (enumerate_from l.name-index (drop l.name-index l.outputs.names)) ≡ flat_map (lines_if_here l.outputs) (enumerate_from 0 l.outputs.names))
