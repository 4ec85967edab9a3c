use Rattle.std.proofs.Common.{◌≡◌, take}
use Rattle.std.specs.Option.{option_copied}
use Rattle.song_queue.specs.State.{entries_of}
use Rattle.play_order.specs.Scans.{best_among, rank_of_best}
use Rattle.play_order.proofs.scan.first_of_run.Given as goal

abbrev pub invariant-loop-slot : goal.invariant-loop-slot
invariant-loop-slot l = record {
  best : option_copied l.first ≡ best_among l.ranks l.played (entries_of (take l.slot-index l.run)) (option_copied l.fn.best);
  least : l.least ≡ rank_of_best l.ranks (option_copied l.first);
}
