use Rattle.std.proofs.Common.{◌≡◌, ◌++◌, map, take, drop}
use Rattle.kept_state.specs.Outputs.{turned_on}
use Rattle.kept_state.proofs.kept.switch_all.Given as goal

abbrev pub invariant-loop-output : goal.invariant-loop-output
invariant-loop-output l = l.outputs ≡ map (turned_on l.named) (take l.output-index l.initial.outputs) ++ drop l.output-index l.initial.outputs
