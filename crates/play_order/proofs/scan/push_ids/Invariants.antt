use Rattle.std.proofs.Common.{◌≡◌, ◌≤◌, ◌-◌, ◌++◌}
use Rattle.song_queue.specs.State.{queue_of}
use Rattle.play_order.specs.Order.{ids_taken}
use Rattle.play_order.proofs.scan.push_ids.Given as goal

abbrev pub invariant-loop-at : goal.invariant-loop-at
invariant-loop-at l = record {
  low : l.from ≤ l.at;
  high : l.at ≤ l.end;
  ids : l.ids.items ≡ l.initial.ids.items ++ ids_taken (queue_of l.queue) l.from l.at;
}

abbrev pub decreases-loop-at : goal.decreases-loop-at
decreases-loop-at l = l.end - l.at
