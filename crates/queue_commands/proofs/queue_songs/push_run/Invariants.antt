use Rattle.std.proofs.Common.{◌≡◌, ◌+◌, ◌++◌, take}
use Rattle.std.specs.List.{enumerate_from, flat_map}
use Rattle.song_queue.specs.State.{entries_of}
use Rattle.queue_commands.specs.Shown.{row_lines}
use Rattle.queue_commands.proofs.queue_songs.push_run.Given as goal

abbrev pub invariant-loop-slot : goal.invariant-loop-slot
invariant-loop-slot l = record {
  position : l.position ≡ l.first + l.slot-index;
  lines : l.lines ≡ l.initial.lines ++ flat_map (row_lines l.shown l.tags l.library.rate) (enumerate_from l.first (entries_of (take l.slot-index l.run)));
}
