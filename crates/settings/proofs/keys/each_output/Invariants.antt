use Rattle.std.proofs.Common.{◌≡◌, drop}
use Rattle.toml.specs.View.{items_view}
use Rattle.settings.specs.Keys.{each_output}
use Rattle.settings.proofs.keys.each_output.Given as goal

abbrev pub invariant-items : goal.invariant-items
invariant-items l = each_output (items_view (drop l.item-index l.item-items)) ≡ each_output (items_view l.item-items)
