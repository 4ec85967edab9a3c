use Rattle.std.proofs.Common.{◌≡◌, ◌++◌, drop}
use Rattle.std.specs.List.{flat_map}
use Rattle.song_queue.specs.Entries.{rows_at}
use Rattle.song_queue.specs.State.{queue_of}
use Rattle.queue_commands.specs.Shown.{row_lines}
use Rattle.queue_commands.proofs.queue_songs.rows.Given as goal

abbrev pub invariant-loop-position : goal.invariant-loop-position
invariant-loop-position l =
    l.lines ++ flat_map (row_lines l.shown l.tags l.library.rate) (rows_at (queue_of l.queue) (drop l.position-index l.positions))
    ≡ flat_map (row_lines l.shown l.tags l.library.rate) (rows_at (queue_of l.queue) l.positions)
