use Rattle.std.proofs.Common.{◌≡◌, take, drop, length, true}
use Rattle.toml.specs.View.{items_view}
use Rattle.settings.specs.Keys.{each_output}
use Rattle.settings.specs.Values.{AreOutputs}
use Rattle.settings.proofs.reads.outputs_of.Given as goal

abbrev pub invariant-items : goal.invariant-items
invariant-items l =
    (each_output (items_view (drop l.item-index l.item-items)) ≡ true)
    × AreOutputs (items_view (take l.item-index l.item-items)) l.outputs.items
    × (length l.outputs.items ≡ l.item-index)
