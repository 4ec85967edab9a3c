use Rattle.std.specs.Prelude.{◌≡◌, take}
use Rattle.opened_player.specs.Opened.{outputs_for}
use Rattle.opened_player.proofs.player.outputs_of.Given as goal

abbrev pub invariant-settings : goal.invariant-settings
invariant-settings l = l.outputs ≡ outputs_for (take l.output-index l.settings)
