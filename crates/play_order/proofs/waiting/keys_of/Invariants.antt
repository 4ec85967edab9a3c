use Rattle.std.proofs.Common.{◌≡◌, ◌≤◌, ◌-◌, map, take}
use Rattle.song_queue.specs.State.{queue_of}
use Rattle.play_order.specs.Waits.{key_of}
use Rattle.play_order.proofs.waiting.keys_of.Given as goal

abbrev pub invariant-loop-at : goal.invariant-loop-at
invariant-loop-at l = record {
  high : l.at ≤ l.len;
  keys : l.known.items ≡ map (key_of l.ranks) (take l.at (queue_of l.queue));
}

abbrev pub decreases-loop-at : goal.decreases-loop-at
decreases-loop-at l = l.len - l.at
