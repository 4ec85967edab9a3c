use Rattle.std.proofs.Common.{◌≡◌, length}
use Rattle.toml.specs.View.{items_view}
use Rattle.settings.specs.Keys.{all_differ, names_of}
use Rattle.settings.proofs.keys.have_own_names.Given as goal

abbrev pub invariant-outputs : goal.invariant-outputs
invariant-outputs l = all_differ (names_of (items_view l.rest)) ≡ all_differ (names_of (items_view l.outputs))

abbrev pub decreases-outputs : goal.decreases-outputs
decreases-outputs l = length l.rest
