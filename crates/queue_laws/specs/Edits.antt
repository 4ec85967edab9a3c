-- What each command of the queue leaves of it (MPD protocol reference, The Queue).
use Rattle.std.specs.Prelude.{◌≡◌, ◌⊎◌, ℕ, ◌+◌, ◌-◌, Bool, true, false, List, [], ◌∷◌, length, Contains, Option, Some, None, codes, decimal}
use Rattle.std.specs.List.{list_any}
use Rattle.command_arguments.specs.declared.forms.Position.{Position}
use Rattle.command_arguments.specs.declared.forms.Position.TheVariants.{At, After, Before}
use Rattle.command_arguments.specs.declared.forms.Uri.{Uri}
use Rattle.mpd_command.specs.declared.queue.QueueCommand.{QueueCommand}
use Rattle.mpd_command.specs.declared.queue.QueueCommand.TheVariants as queue
use Rattle.mpd_text.specs.Answers.Answer.{pair_line}
use Rattle.mpd_text.specs.Songs.Song.{SongData}
use Rattle.mpd_text.specs.declared.answers.ranges.Range.{Range}
use Rattle.play_order.specs.Draws.{generator_after_words, words_drawn}
use Rattle.player_state.specs.Effects.{part_after}
use Rattle.player_state.specs.declared.effect.Effect.TheVariants.{ByCommand}
use Rattle.player_state.specs.declared.state.Library.{Library}
use Rattle.player_state.specs.declared.state.Part.{Part}
use Rattle.queue_commands.specs.Queue.{result_of}
use Rattle.queue_slots.specs.declared.entry.Entry.{Entry}
use Rattle.song_queue.specs.State.{IsQueue, queue_of}
use Rattle.song_search.specs.Folders.{under}
use Rattle.transitions.specs.Answers.{succeeds}
use Rattle.transitions.specs.declared.asked.Asked.{Asked}
use Rattle.queue_laws.specs.Positions.{at_positions, names}
use Rattle.queue_laws.specs.Queues.{Adds, Deletes, DeletesId, HasAt, Moves, MovesId, Prioritizes, PrioritizesIds, Shuffles, Swaps, SwapsIds}

-- a song of the library has this URI
abbrev pub IsSong : Library → List ℕ → SongData → Type 0
IsSong library uri song = Contains library.songs song × (song.uri ≡ uri)

-- the songs that a URI names: the song that has it, or where none has it all songs under a folder
abbrev pub AreNamed : Library → List ℕ → List SongData → Type 0
AreNamed library uri songs =
    ((song : SongData) × IsSong library uri song × (songs ≡ song ∷ []))
    ⊎ (((song : SongData) → IsSong library uri song → ⊥) × (songs ≡ under uri library.songs))

-- the position of the current song
abbrev pub IsCurrent : Part → ℕ → Type 0
IsCurrent part position = (id : ℕ) × (part.player.current ≡ Some id) × HasAt (queue_of part.queue) position id

-- where songs are to be put: at the end where nothing is said; `+N` with so many songs between the current one
-- and them, `-N` with so many between them and the current one
abbrev pub IsAskedFor : Part → Option Position → ℕ → Type 0
IsAskedFor part None at = at ≡ length (queue_of part.queue)
IsAskedFor part (Some (At position)) at = at ≡ position
IsAskedFor part (Some (After steps)) at = (current : ℕ) × IsCurrent part current × (at ≡ current + 1 + steps)
IsAskedFor part (Some (Before steps)) at = (current : ℕ) × IsCurrent part current × (at + steps ≡ current)

-- whether one of some ranges names a position, and whether one does that may be left out for the whole queue
abbrev pub are_named : List Range → ℕ → Bool
are_named ranges position = list_any (λ range. names range position) ranges

abbrev pub names_or_all : Option Range → ℕ → Bool
names_or_all None position = true
names_or_all (Some range) position = names range position

-- how many entries a range names, where none names all
abbrev pub count_named : Option Range → List Entry → ℕ
count_named range queue = length (at_positions (names_or_all range) queue)

-- The queue before a command and after it. A shuffle is by the next numbers of the generator, one for each entry
-- but the first of those that are named.
abbrev pub Leaves : Part → Library → QueueCommand → List Entry → List Entry → Type 0
Leaves part library (queue.Add uri position) before after =
    (songs : List SongData) × (at : ℕ) × AreNamed library uri.0 songs × IsAskedFor part position at
    × Adds part.queue.greatest_id songs at before after
Leaves part library (queue.AddId uri position) before after =
    (song : SongData) × (at : ℕ) × IsSong library uri.0 song × IsAskedFor part position at
    × Adds part.queue.greatest_id (song ∷ []) at before after
Leaves part library queue.Clear before after = after ≡ []
Leaves part library (queue.Delete range) before after = Deletes (names range) before after
Leaves part library (queue.DeleteId id) before after = DeletesId id before after
Leaves part library (queue.Move range to) before after = Moves (names range) to before after
Leaves part library (queue.MoveId id to) before after = MovesId id to before after
Leaves part library (queue.Prio priority ranges) before after = Prioritizes (are_named ranges) priority before after
Leaves part library (queue.PrioId priority ids) before after = PrioritizesIds ids priority before after
Leaves part library (queue.Shuffle range) before after =
    Shuffles (words_drawn part.player.round.generator (count_named range before - 1)) (names_or_all range) before after
Leaves part library (queue.Swap first second) before after = Swaps first second before after
Leaves part library (queue.SwapId first second) before after = SwapsIds first second before after
Leaves part library _ before after = after ≡ before

-- what one player owns after a command
abbrev pub part_left : Asked → Part → Library → QueueCommand → Part
part_left asked part library it = part_after library.rate part (ByCommand (result_of asked part library it).effect)

-- whether a command is refused
abbrev pub is_refused : Asked → Part → Library → QueueCommand → Bool
is_refused asked part library it = (result_of asked part library it).answer.refused

-- whether a command takes entries out, and so perhaps the current song
abbrev pub takes_out : QueueCommand → Bool
takes_out queue.Clear = true
takes_out (queue.Delete range) = true
takes_out (queue.DeleteId id) = true
takes_out _ = false

-- A command that is not refused leaves of the queue what the reference says, and one that is refused leaves all
-- as it was. Neither touches more than the queue and the player; and of the player no more than the order of
-- songs, unless entries are taken out.
pub record EditsAsSaid (asked : Asked) (part : Part) (library : Library) (it : QueueCommand) : Type 0 where
  pub done :
      is_refused asked part library it ≡ false
      → Leaves part library it (queue_of part.queue) (queue_of (part_left asked part library it).queue)
  pub refused : is_refused asked part library it ≡ true → part_left asked part library it ≡ part
  pub rest :
      part_left asked part library it
      ≡ record part {
        queue = (part_left asked part library it).queue;
        player = (part_left asked part library it).player;
      }
  pub plays_on :
      takes_out it ≡ false
      → (part_left asked part library it).player
      ≡ record part.player { round = (part_left asked part library it).player.round }

abbrev pub EditsKeepTheOthers : Type 0
EditsKeepTheOthers =
    (asked : Asked) (part : Part) (library : Library) (it : QueueCommand)
    → IsQueue part.queue → EditsAsSaid asked part library it

-- `addid` tells the id of the entry that is at the position then
abbrev pub AddIdTellsTheId : Type 0
AddIdTellsTheId =
    (asked : Asked) (part : Part) (library : Library) (uri : Uri) (position : Option Position)
    → is_refused asked part library (queue.AddId uri position) ≡ false
    → (at : ℕ) × (id : ℕ) × IsAskedFor part position at
    × HasAt (queue_of (part_left asked part library (queue.AddId uri position)).queue) at id
    × ((result_of asked part library (queue.AddId uri position)).answer
    ≡ succeeds asked.list_place (pair_line (codes "Id") (decimal id)))

-- a shuffle takes so many numbers, and the generator goes on behind them; nothing else of the round changes
abbrev pub ShufflesTakeNumbers : Type 0
ShufflesTakeNumbers =
    (asked : Asked) (part : Part) (library : Library) (range : Option Range)
    → is_refused asked part library (queue.Shuffle range) ≡ false
    → (part_left asked part library (queue.Shuffle range)).player.round
    ≡ record part.player.round {
      generator = generator_after_words part.player.round.generator (count_named range (queue_of part.queue) - 1);
    }
