use Rattle.std.proofs.Common.{◌≡◌, take}
use Rattle.player_state.proofs.outputs.shared_names.Given as goal

abbrev pub invariant-loop-name : goal.invariant-loop-name
invariant-loop-name l = l.shared.items ≡ take l.name-index l.names
