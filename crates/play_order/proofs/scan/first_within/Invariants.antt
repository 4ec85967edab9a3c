use Rattle.std.proofs.Common.{◌≡◌, ◌≤◌, ◌-◌}
use Rattle.std.specs.Option.{option_copied}
use Rattle.play_order.specs.Scans.{best_within}
use Rattle.play_order.proofs.scan.first_within.Given as goal

abbrev pub invariant-loop-at : goal.invariant-loop-at
invariant-loop-at l = record {
  low : l.from ≤ l.at;
  high : l.at ≤ l.end;
  best : option_copied l.first ≡ best_within l.ranks l.played l.queue l.from l.at (option_copied l.fn.best);
}

abbrev pub decreases-loop-at : goal.decreases-loop-at
decreases-loop-at l = l.end - l.at
