use Rattle.std.proofs.Common.{◌≡◌, ◌≤◌, ◌-◌, take}
use Rattle.song_queue.specs.State.{queue_of}
use Rattle.shelf_contents.specs.Edits.{uris_in}
use Rattle.shelf_contents.proofs.edits.uris_of_queue.Given as goal

abbrev pub invariant-loop-at : goal.invariant-loop-at
invariant-loop-at l = record {
  within : l.at ≤ l.end;
  uris : l.uris ≡ uris_in (take l.at (queue_of l.queue));
}

abbrev pub decreases-loop-at : goal.decreases-loop-at
decreases-loop-at l = l.end - l.at
