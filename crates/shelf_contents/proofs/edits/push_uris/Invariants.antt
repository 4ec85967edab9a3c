use Rattle.std.proofs.Common.{◌≡◌, ◌++◌, take}
use Rattle.song_queue.specs.State.{entries_of}
use Rattle.shelf_contents.specs.Edits.{uris_in}
use Rattle.shelf_contents.proofs.edits.push_uris.Given as goal

abbrev pub invariant-loop-slot : goal.invariant-loop-slot
invariant-loop-slot l = l.uris ≡ l.initial.uris ++ uris_in (entries_of (take l.slot-index l.run))
