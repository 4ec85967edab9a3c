use Rattle.std.proofs.Common.{◌≡◌, ◌+◌, ◌≤◌, ◌++◌, vec_len, vec_capacity}
use Rattle.song_queue.specs.State.{queue_of}
use Rattle.play_order.specs.Order.{ids_taken}
use Rattle.play_order.proofs.scan.fill_ids.Given as goal

abbrev pub invariant-loop-position : goal.invariant-loop-position
invariant-loop-position l = record {
  ids : l.ids.items ≡ l.initial.ids.items ++ ids_taken (queue_of l.queue) l.from l.position;
  room : vec_len l.ids + l.end ≤ vec_capacity l.ids + l.position;
}
