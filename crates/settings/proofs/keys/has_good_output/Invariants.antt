use Rattle.std.proofs.Common.{◌≡◌}
use Rattle.toml.specs.View.{members_view}
use Rattle.settings.specs.Keys.{are_none, bad, output_keys}
use Rattle.settings.proofs.keys.has_good_output.Given as goal

abbrev pub invariant-members : goal.invariant-members
invariant-members l =
    (goal.iterator-members).can_next l.name-iterator × (goal.iterator-members).is_finite l.name-iterator
    × (are_none (bad output_keys (members_view l.name-iterator)) ≡ are_none (bad output_keys (members_view l.table.entries)))
