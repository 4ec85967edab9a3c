use Rattle.std.proofs.Common.{◌≡◌, take}
use Rattle.song_queue.proofs.Shuffles.{slot_ids}
use Rattle.song_queue.proofs.slots.have_ids.Given as goal

abbrev pub invariant-loop-position : goal.invariant-loop-position
invariant-loop-position l = take l.position (slot_ids l.slots) ≡ take l.position l.ids
