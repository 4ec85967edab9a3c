use Rattle.std.proofs.Common.{◌∙◌, arith}
use Rattle.opened_player.proofs.Outputs.{count_of_outputs, next_output}
use Rattle.opened_player.proofs.player.outputs_of.Goals as goal

pub add_output-requires : goal.add_output-requires
add_output-requires c =
    omega (arith, count_of_outputs c.args.settings.now c.settings.output-index c.settings.outputs (omega arith) c.settings.invariant)

pub settings-preserved : goal.settings-preserved
settings-preserved c =
    c.in_ok-add_output.ensures
    ∙ next_output c.args.settings.now c.settings.output-index c.output-item.result c.settings.outputs c.requires (omega arith) c.output-item.is c.settings.invariant
