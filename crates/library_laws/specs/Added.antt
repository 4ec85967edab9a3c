-- Songs that join the queue (MPD protocol reference, The queue: `add`, whose rules `findadd`, `searchadd` and
-- `load` follow).
use Rattle.std.specs.Prelude.{◌≡◌, ℕ, ◌+◌, ◌≤◌, List, ◌++◌, Option, Some, None, length, map, take, drop, codes}
use Rattle.mpd_text.specs.Songs.Song.{SongData}
use Rattle.song_queue.specs.declared.entry.Entry.{Entry}
use Rattle.song_queue.specs.State.{position_of, queue_of}
use Rattle.command_arguments.specs.declared.forms.Position.{Position}
use Rattle.command_arguments.specs.declared.forms.Position.TheVariants.{At, After, Before}
use Rattle.player_state.specs.Effects.{part_after}
use Rattle.player_state.specs.declared.effect.Effect.TheVariants.{ByCommand}
use Rattle.player_state.specs.declared.scan.ScanMove.TheVariants.{Stay}
use Rattle.player_state.specs.declared.state.Part.{Part}
use Rattle.transitions.specs.Answers.{succeeds}
use Rattle.transitions.specs.Transitions.{CommandResult}
use Rattle.transitions.specs.declared.asked.Asked.{Asked}
use Rattle.transitions.specs.declared.shelf_calls.ShelfWrite.TheVariants.{Nothing}

abbrev pub entries_in : Part → List Entry
entries_in part = queue_of part.queue

-- the songs of the queue, in their order
abbrev pub songs_in : Part → List SongData
songs_in part = map (λ (entry : Entry). entry.song) (entries_in part)

-- the position of the queue that is named: its end, a position by its number, or one counted from the current song
abbrev pub IsPosition : Part → Option Position → ℕ → Type 0
IsPosition part None position = position ≡ length (entries_in part)
IsPosition part (Some (At number)) position = (position ≡ number) × (number ≤ length (entries_in part))
IsPosition part (Some (After steps)) position =
    (id : ℕ) × (current : ℕ) × (part.player.current ≡ Some id) × (position_of part.queue id ≡ Some current)
    × (position ≡ current + 1 + steps) × (position ≤ length (entries_in part))
IsPosition part (Some (Before steps)) position =
    (id : ℕ) × (current : ℕ) × (part.player.current ≡ Some id) × (position_of part.queue id ≡ Some current)
    × (position + steps ≡ current)

-- so many songs find room in the queue, and each an id
abbrev pub HasRoom : Part → ℕ → Type 0
HasRoom part songs =
    (length (entries_in part) + songs ≤ part.queue.max_len) × (part.queue.greatest_id + songs ≤ part.queue.max_id)

-- the queue of the partition once the command was done
abbrev pub entries_after : Part → CommandResult → List Entry
entries_after part result = entries_in (part_after 0 part (ByCommand result.effect))

-- the command is answered `OK`, and the songs are in the queue from this position on, in their order, between the
-- entries that were there; no scan begins, and nothing is written to the shelf
pub record IsAdded (asked : Asked) (part : Part) (position : ℕ) (songs : List SongData) (result : CommandResult) : Type 0 where
  pub answer : result.answer ≡ succeeds asked.list_place (codes "")
  pub new : List Entry
  pub songs_are : map (λ (entry : Entry). entry.song) new ≡ songs
  pub queue : entries_after part result ≡ take position (entries_in part) ++ new ++ drop position (entries_in part)
  pub scan : result.scan ≡ Stay
  pub written : result.written ≡ Nothing
