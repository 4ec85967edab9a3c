use Rattle.std.proofs.Common.{◌≡◌, ◌≤◌, ◌-◌, false}
use Rattle.std.specs.List.{slice_range}
use Rattle.song_queue.specs.State.{queue_of}
use Rattle.play_order.specs.Scans.{has_unplayed}
use Rattle.play_order.proofs.scan.any_within.Given as goal

abbrev pub invariant-loop-at : goal.invariant-loop-at
invariant-loop-at l = record {
  low : l.from ≤ l.at;
  high : l.at ≤ l.end;
  none : has_unplayed l.played (slice_range (queue_of l.queue) l.from l.at) ≡ false;
}

abbrev pub decreases-loop-at : goal.decreases-loop-at
decreases-loop-at l = l.end - l.at
