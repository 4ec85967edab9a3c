use Rattle.std.proofs.Common.{◌≡◌, ◌≤◌, ◌-◌}
use Rattle.std.specs.List.{flat_map, range_with_len}
use Rattle.song_queue.specs.Entries.{rows_at}
use Rattle.song_queue.specs.State.{queue_of}
use Rattle.queue_commands.specs.Shown.{row_lines}
use Rattle.queue_commands.proofs.queue_songs.rows_between.Given as goal

abbrev pub invariant-loop-at : goal.invariant-loop-at
invariant-loop-at l = record {
  low : l.positions.start ≤ l.at;
  high : l.at ≤ l.positions.end;
  lines : l.lines ≡ flat_map (row_lines l.shown l.tags l.library.rate) (rows_at (queue_of l.queue) (range_with_len l.positions.start (l.at - l.positions.start)));
}

abbrev pub decreases-loop-at : goal.decreases-loop-at
decreases-loop-at l = l.positions.end - l.at
