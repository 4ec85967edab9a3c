use Rattle.std.proofs.Common.{◌≡◌, ◌++◌, map, take}
use Rattle.song_queue.specs.State.{entries_of}
use Rattle.play_order.specs.Waits.{key_of}
use Rattle.play_order.proofs.waiting.push_keys.Given as goal

abbrev pub invariant-loop-slot : goal.invariant-loop-slot
invariant-loop-slot l = l.known.items ≡ l.initial.known.items ++ map (key_of l.ranks) (entries_of (take l.slot-index l.run))
