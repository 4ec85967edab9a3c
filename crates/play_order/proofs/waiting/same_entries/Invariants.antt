use Rattle.std.proofs.Common.{◌≡◌, ◌≤◌, ◌-◌, map, take}
use Rattle.song_queue.specs.State.{queue_of}
use Rattle.play_order.specs.Waits.{priority_and_id_by_key, priority_and_id}
use Rattle.play_order.proofs.waiting.same_entries.Given as goal

abbrev pub invariant-loop-at : goal.invariant-loop-at
invariant-loop-at l = record {
  high : l.at ≤ l.len;
  same : map priority_and_id (take l.at (queue_of l.queue)) ≡ map priority_and_id_by_key (take l.at l.known);
}

abbrev pub decreases-loop-at : goal.decreases-loop-at
decreases-loop-at l = l.len - l.at
