use Rattle.std.proofs.Common.{◌≡◌, false, take}
use Rattle.song_queue.specs.State.{entries_of}
use Rattle.play_order.specs.Scans.{has_unplayed}
use Rattle.play_order.proofs.scan.any_of_run.Given as goal

abbrev pub invariant-loop-slot : goal.invariant-loop-slot
invariant-loop-slot l = has_unplayed l.played (entries_of (take l.slot-index l.run)) ≡ false
