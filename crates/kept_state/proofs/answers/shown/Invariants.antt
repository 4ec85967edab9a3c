use Rattle.std.specs.Prelude.{◌≡◌, drop}
use Rattle.kept_state.specs.Told.{shown_on}
use Rattle.kept_state.proofs.answers.shown.Given as goal

abbrev pub invariant-loop-output : goal.invariant-loop-output
invariant-loop-output l = shown_on l.number (drop l.output-index l.outputs) ≡ shown_on l.number l.outputs
