-- The lines of an entry, by what is shown of it.
use Rattle.std.specs.Prelude.{ℕ, List, Option, Some}
use Rattle.std.specs.List.{enumerate_from, flat_map}
use Rattle.std.specs.declared.ops.Range.{Range as Positions}
use Rattle.mpd_text.specs.declared.answers.ranges.Range.{Range}
use Rattle.mpd_text.specs.declared.songs.song.TagName.{TagName}
use Rattle.song_queue.specs.declared.entry.Entry.{Entry}
use Rattle.queue_commands.specs.declared.queue_songs.Shown.{Shown}
use Rattle.queue_commands.specs.declared.queue_songs.Shown.TheVariants.{Song, Position, Uri}
use Rattle.song_queue.specs.Entries.{row_of}
use Rattle.song_queue.specs.State.{QueueState}
use Rattle.transitions.specs.declared.asked.Asked.{Asked}
use Rattle.player_state.specs.declared.state.Library.{Library}
use Rattle.player_state.specs.declared.state.Part.{Part}
use Rattle.transitions.specs.Transitions.{CommandResult}
use Rattle.queue_commands.specs.Queue.{count, entry_lines, position_lines, range_or_all, rows_from, show_changed, show_positions, uri_line}

abbrev pub row_lines : Shown → List TagName → ℕ → ℕ × Entry → List ℕ
row_lines Song tags rate row = entry_lines tags rate row
row_lines Position tags rate row = position_lines row
row_lines Uri tags rate row = uri_line row

-- the lines of entries, each with its position
abbrev pub rows_as : Shown → List TagName → Library → List (ℕ × Entry) → List ℕ
rows_as shown tags library rows = flat_map (row_lines shown tags library.rate) rows

-- the lines of the entry at a position, if there is one
abbrev pub row_as : Shown → List TagName → Library → ℕ → Option Entry → List ℕ
row_as shown tags library position entry = rows_as shown tags library (row_of position entry)

-- the lines of the entries of a queue at some positions
abbrev pub rows_of_positions : Shown → List TagName → Library → QueueState → Positions ℕ → List ℕ
rows_of_positions shown tags library queue positions =
    rows_as shown tags library (rows_from queue positions.start positions.end)

-- the lines of entries that stand one after the other, the first of them at a position
abbrev pub rows_of_run : Shown → List TagName → Library → ℕ → List Entry → List ℕ
rows_of_run shown tags library first entries = rows_as shown tags library (enumerate_from first entries)

-- the entries at some positions
abbrev pub positions_as : Asked → Part → Library → Shown → Positions ℕ → CommandResult
positions_as asked part library shown positions =
    show_positions asked part (row_lines shown asked.tags library.rate) (Some positions)

-- the entries at the positions that changed since a version, of a range or all
abbrev pub changes_as : Asked → Part → Library → Shown → ℕ → Option Range → CommandResult
changes_as asked part library shown version range =
    show_changed asked part (row_lines shown asked.tags library.rate) version (range_or_all range (count part))
