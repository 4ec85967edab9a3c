use Rattle.std.proofs.Common.{◌≡◌, ◌++◌, take}
use Rattle.song_queue.specs.State.{entries_of}
use Rattle.play_order.specs.Draws.{ids_of}
use Rattle.play_order.proofs.scan.push_run.Given as goal

abbrev pub invariant-loop-slot : goal.invariant-loop-slot
invariant-loop-slot l = l.ids.items ≡ l.initial.ids.items ++ ids_of (entries_of (take l.slot-index l.run))
