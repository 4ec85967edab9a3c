use Rattle.std.proofs.Common.{◌≡◌, ◌++◌, take}
use Rattle.std.specs.List.{flat_map}
use Rattle.daemon_script.specs.Script.{notices_to}
use Rattle.daemon_script.proofs.lists.push_notices_in_turn.Given as goal

abbrev pub invariant-loop-number : goal.invariant-loop-number
invariant-loop-number l = l.shown.items ≡ l.initial.shown.items ++ flat_map (λ number. notices_to number l.notices) (take l.number-index l.numbers)
