use Rattle.std.proofs.Common.{◌≡◌, take}
use Rattle.std.specs.List.{flat_map}
use Rattle.daemon_script.proofs.lists.all_notices.Given as goal

abbrev pub invariant-loop-outcome : goal.invariant-loop-outcome
invariant-loop-outcome l = l.notices.items ≡ flat_map (λ t. t.notices) (take l.outcome-index l.outcomes)
