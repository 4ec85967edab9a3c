use Rattle.std.proofs.Common.{◌≡◌}
use Rattle.std.specs.List.Sorted.{IsStrictlySortedBy}
use Rattle.std.specs.Map.{keys_of}
use Rattle.std.specs.String.{string_cmp}
use Rattle.toml.specs.View.{members_view}
use Rattle.settings.specs.Keys.{bad, settings_keys}
use Rattle.settings.proofs.faults.first_bad.Given as goal

abbrev pub invariant-members : goal.invariant-members
invariant-members l =
    (bad settings_keys (members_view l.name-iterator) ≡ bad settings_keys (members_view l.table.entries))
    × IsStrictlySortedBy string_cmp (keys_of l.name-iterator)
