use Rattle.std.proofs.Common.{◌≡◌, map, take}
use Rattle.song_queue.specs.State.{entries_of}
use Rattle.play_order.specs.Waits.{priority_and_id_by_key, priority_and_id}
use Rattle.play_order.proofs.waiting.same_run.Given as goal

abbrev pub invariant-loop-position : goal.invariant-loop-position
invariant-loop-position l = map priority_and_id (entries_of (take l.position l.run)) ≡ map priority_and_id_by_key (take l.position l.known)
