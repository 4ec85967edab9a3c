-- What contracts see of a player whose events are counted.
use Rattle.std.specs.Prelude.{ℕ, ◌≡◌, ◌<◌, ◌==◌, Bool, true, false, List, [], ◌∷◌, Option, Some, None, Result, Ok, Err, IfErr, IfOk}
use Rattle.std.specs.Prelude.{is_some, length, slice_index_or, if◌then◌else◌}
use Rattle.std.specs.Global.{Vec}
use Rattle.std.specs.List.{list_any}
use Rattle.command_lists.specs.declared.word.ListForm.{ListForm}
use Rattle.mpd_command.specs.declared.request.Request.{Request}
use Rattle.mpd_text.specs.Songs.Song.{SongData}
use Rattle.shelf.specs.Calls.{Call}
use Rattle.shelf.specs.Maps.{Standing}
use Rattle.shelf.specs.declared.traits.Shelf.{Ghosts}
use Rattle.player_events.specs.declared.event.Event.{Event}
use Rattle.transitions.specs.declared.shelf_calls.StoreReply.{StoreReply}
use Rattle.player_events.specs.Outcomes.{OutcomeData}
use Rattle.partition.specs.History.{Chronicle, joined_by}
use Rattle.partition.specs.Image.{Image, no_events}
use Rattle.partition.specs.Legal.{IsPast}
use Rattle.partition.specs.Lent.{RecordsOnce, Refuses, question, writing}
use Rattle.partition_table.specs.Parts.{part_at}
use Rattle.player_core.specs.declared.state.Playback.{Playback}
use Rattle.player_core.specs.declared.state.Playback.TheVariants.{Play}
use Rattle.player_state.specs.Outputs.{empty_books}
use Rattle.player_state.specs.Scans.{running}
use Rattle.player_state.specs.declared.state.Part.{Part}
use Rattle.transitions.specs.Shelves.{Serves}
use Rattle.player_events.specs.Events.{with_store_reply}
use Rattle.partition.specs.Step.{told}
use Rattle.partition.specs.Steps.{entry}
use Rattle.house.specs.Seats.{SeatCount}
use Rattle.song_queue.specs.State.{queue_of}
use Rattle.song_queue.specs.declared.entry.Entry.{Entry}
use Rattle.partition.specs.Lists.{RunsList, Stop, StopsList}
use Rattle.partition.specs.declared.partition.PartitionFault.{PartitionFault}

-- how many events a seat made
abbrev pub own_in : ℕ → Image → ℕ
own_in seat i = slice_index_or i.shared.made seat 0

-- A seat's count is the number of its events. Those of the house's own threads are not counted in their
-- seats.
abbrev pub IsCounted : SeatCount → Chronicle → Type 0
IsCounted seat player = seat.number < 4 → own_in seat.number player.present ≡ seat.made

-- the counts of the four seats of callers
abbrev pub owns : List ℕ → List ℕ
owns made = slice_index_or made 0 0 ∷ slice_index_or made 1 0 ∷ slice_index_or made 2 0 ∷ slice_index_or made 3 0 ∷ []

-- the song of the entry that has this id, if one has it
abbrev pub song_of : ℕ → List Entry → Option SongData
song_of id [] = None
song_of id (e ∷ es) = if e.id == id then Some e.song else song_of id es

abbrev pub song_within : ℕ → Option Part → Option SongData
song_within id None = None
song_within id (Some part) = song_of id (queue_of part.queue)

-- the song of the entry that has this id in the queue of the partition of a number, if there is one
abbrev pub song_at : ℕ → ℕ → Image → Option SongData
song_at index id i = song_within id (part_at index i.parts)

-- the same, after some past
abbrev pub IsSongSomewhere : ℕ → ℕ → Option SongData → Type 0
IsSongSomewhere index id song = (past : Chronicle) × IsPast past × (song ≡ song_at index id past.present)

-- whether a song is being played
abbrev pub is_playing : Playback → Bool
is_playing Play = true
is_playing _ = false

-- the same of some partition
abbrev pub any_plays : List Part → Bool
any_plays parts = list_any (λ (p : Part). is_playing p.player.playback) parts

-- of two values the first where a song is being played after some past, and the second where none is
abbrev pub IsByPlaying : {T : Type 0} → T → T → T → Type 0
IsByPlaying playing idle value =
    (past : Chronicle) × IsPast past × (value ≡ (if any_plays past.present.parts then playing else idle))

-- whether a scan was asked for that has not ended
abbrev pub has_scan : Image → Bool
has_scan i = is_some (running i.shared.library.scan)

-- the same, after some past
abbrev pub HasScanSomewhere : Bool → Type 0
HasScanSomewhere has = (past : Chronicle) × IsPast past × (has ≡ has_scan past.present)

-- of sixteen numbers those of a partition
abbrev pub ArePresentPartitions : List Bool → Image → Type 0
ArePresentPartitions present_partitions i = (index : ℕ) → index < 16 → slice_index_or present_partitions index false ≡ is_some (part_at index i.parts)

-- the same, after some past
abbrev pub ArePresentPartitionsSomewhere : List Bool → Type 0
ArePresentPartitionsSomewhere present_partitions = (past : Chronicle) × IsPast past × ArePresentPartitions present_partitions past.present

-- a player of which no seat made an event, and whose outputs have no frames
abbrev pub IsFresh : Image → Type 0
IsFresh i = (i.shared.made ≡ no_events) × (i.shared.books ≡ empty_books)

-- how many commands of a list were run
abbrev pub done_in : Result (List OutcomeData) Stop → ℕ
done_in (Ok tolds) = length tolds
done_in (Err stop) = stop.done

-- A past that a caller may find, who made so many events: one in which its seat made just these. Events of
-- the house's own threads are not counted in their seats.
abbrev pub MayFind : SeatCount → Chronicle → Type 0
MayFind seat past = IsPast past × (seat.number < 4 → own_in seat.number past.present ≡ seat.made)

-- an event of a seat that asks no shelf, and was told so, joined the history
abbrev pub JoinsStep : Chronicle → Chronicle → SeatCount → Event → OutcomeData → Type 0
JoinsStep before after seat event outcome = after ≡ joined_by before (entry seat.number event outcome)

module _ {S : Type 0} (standing : S → Standing) (failed : S → S → Call → Type 0) where
  -- What the player of one thread answers to the event after some past that the caller may find, by what the
  -- lent shelf answered, which answered and changed as that past and the event say.
  abbrev pub AnswersSomewhere : S → S → SeatCount → Event → OutcomeData → Type 0
  AnswersSomewhere old new seat event outcome =
      (past : Chronicle) × MayFind seat past
      × ((heard : StoreReply) × (outcome.answer ≡ (told past.present (with_store_reply event heard)).answer)
      × Serves standing failed old new (question past.present event) (writing past.present event heard) heard)

-- the same with the lent shelf
module _ {S : Type 0} (shelf : Ghosts S) where
  -- an event of a seat joined the history, which is folded first where it is full; the lent shelf answered and
  -- changed as the event says
  abbrev pub JoinsEvent : Chronicle → Chronicle → S → S → SeatCount → Event → OutcomeData → Type 0
  JoinsEvent before after old new seat event outcome =
      RecordsOnce shelf.standing shelf.failed before after old new seat.number event outcome

  -- what an event leaves that was refused
  abbrev pub Fails : Chronicle → Chronicle → S → S → SeatCount → Event → PartitionFault → Type 0
  Fails before after old new seat event fault =
      Refuses shelf.standing shelf.failed before after old new seat.number event fault

  -- what the player of one thread answers to the event after some past that the caller may find
  abbrev pub AnswersEvent : S → S → SeatCount → Event → OutcomeData → Type 0
  AnswersEvent old new seat event outcome = AnswersSomewhere shelf.standing shelf.failed old new seat event outcome

  -- where a client's list ran, its requests joined the history one after the other, each as an event of the seat
  abbrev pub Runs : Chronicle → Chronicle → S → S → SeatCount → ℕ → ListForm → Vec Request → Result (List OutcomeData) Stop → Type 0
  Runs before after old new seat client form requests result =
      IfOk result (RunsList shelf.standing shelf.failed before after old new seat.number client form requests.items)

  -- where it halted, those before the one that was refused did, and this is what that leaves
  abbrev pub Halts : Chronicle → Chronicle → S → S → SeatCount → ℕ → ListForm → Vec Request → Result (List OutcomeData) Stop → Type 0
  Halts before after old new seat client form requests result =
      IfErr result (StopsList shelf.standing shelf.failed before after old new seat.number client form requests.items)
