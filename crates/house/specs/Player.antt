-- What one event leaves of the player, of its books of frames and of the notices that wait.
use Rattle.std.specs.Prelude.{ℕ, ◌≡◌, ◌+◌, ◌<◌, ◌≤◌, ◌^◌, ◌++◌, List, Result, IfErr, IfOk, length, sum, vec_len, vec_capacity}
use Rattle.std.specs.Global.{Vec}
use Rattle.command_lists.specs.declared.word.ListForm.{ListForm}
use Rattle.shelf.specs.declared.traits.Shelf.{Ghosts}
use Rattle.player_events.specs.declared.event.Event.{Event}
use Rattle.player_events.specs.declared.event.Event.TheVariants.{Have, OutputTurn}
use Rattle.player_events.specs.Outcomes.{OutcomeData}
use Rattle.partition.specs.declared.partition.PartitionFault.{PartitionFault}
use Rattle.partition.specs.History.{Chronicle, with_room}
use Rattle.partition.specs.Lent.{RecordsOnce}
use Rattle.partition.specs.Lists.{RunsList, Stop}
use Rattle.player_state.specs.Outputs.{FrameBooks}
use Rattle.house.specs.Seats.{SeatCount}
use Rattle.mpd_command.specs.declared.request.Request.{Request}
use Rattle.house.specs.declared.player.Core.{Core}
use Rattle.house.specs.Lists.{StopsHere}
use Rattle.house.specs.News.{gone_at, kept_without}
use Rattle.house.specs.Views.{CountsOn, Handed, IsUnwritten, Stops, line_of}
use Rattle.house.specs.Waiting.{waiting_after}

-- the frames of all outputs can be counted
abbrev pub CanCount : FrameBooks → Type 0
CanCount books = (sum books.decoded < 2 ^ 63) × (sum books.written < 2 ^ 63) × (sum books.discarded < 2 ^ 63)

-- the books of frames are as before
abbrev pub KeepsFrames : Chronicle → Chronicle → Type 0
KeepsFrames before after = after.present.shared.books ≡ before.present.shared.books

-- What an event brings to the books: the decoder's is of frames decoded, an output's turn of frames written and
-- discarded, and no other brings any.
abbrev pub Brings : Event → FrameBooks → FrameBooks → Type 0
Brings (Have index number frames) old new = (sum old.decoded ≤ sum new.decoded) × (new.written ≡ old.written) × (new.discarded ≡ old.discarded)
Brings (OutputTurn output written discarded failed) old new = CountsOn old new × (new.decoded ≡ old.decoded)
Brings _ old new = new ≡ old

-- the books after an event have what it brought
abbrev pub BooksFollow : Event → Chronicle → Chronicle → Type 0
BooksFollow event before after = Brings event before.present.shared.books after.present.shared.books

module _ {L : Type 0} where
  -- there is room for a notice of each client after those that wait
  abbrev pub HasRoomForAll : Core L → Type 0
  HasRoomForAll core = vec_len core.waiting + length core.counted.present.clients ≤ vec_capacity core.waiting

  -- the notices that wait once an event was told so: those of a client that goes are dropped
  abbrev pub WaitsAfter : Event → Core L → Core L → OutcomeData → Type 0
  WaitsAfter event before after told = after.waiting.items ≡ kept_without (gone_at event) before.waiting.items ++ told.notices

  -- the same of a line of a client, whose notice was handed out
  abbrev pub WaitsAfterLine : Core L → Core L → ℕ → Handed → Type 0
  WaitsAfterLine before after client handed = after.waiting.items ≡ waiting_after client before.waiting.items handed.told

  -- the base is as before, but that a full window may have been folded
  abbrev pub KeepsBase : Core L → Core L → Type 0
  KeepsBase before after = after.counted.base ≡ (with_room before.counted).base

-- the same with the lent shelf
module _ {S : Type 0} (shelf : Ghosts S) {L : Type 0} where
  -- a line of a client that was answered joined the history, which is folded first where it is full
  abbrev pub JoinsLine : Core L → Core L → S → S → SeatCount → ℕ → Request → Result Handed PartitionFault → Type 0
  JoinsLine before after old new seat client request answer = IfOk answer
      (λ handed. RecordsOnce shelf.standing shelf.failed before.counted after.counted old new seat.number (line_of client request) handed.told)

  -- what a line of a client leaves that was refused
  abbrev pub StopsAt : Core L → Core L → S → S → SeatCount → ℕ → Request → Result Handed PartitionFault → Type 0
  StopsAt before after old new seat client request answer = IfErr answer
      (Stops shelf.standing shelf.failed before.counted after.counted old new seat.number (line_of client request))

  -- a command list ran
  abbrev pub Runs : Core L → Core L → S → S → SeatCount → ℕ → ListForm → Vec Request → Result (List OutcomeData) Stop → Type 0
  Runs before after old new seat client form requests result = IfOk result
      (RunsList shelf.standing shelf.failed before.counted after.counted old new seat.number client form requests.items)

  -- it halted at one of its commands, or before the first
  abbrev pub Halts : Core L → Core L → S → S → SeatCount → ℕ → ListForm → Vec Request → Result (List OutcomeData) Stop → Type 0
  Halts before after old new seat client form requests result = IfErr result
      (StopsHere shelf.standing shelf.failed before.counted after.counted old new seat.number client form requests.items)

-- nothing was written to the lent shelf
abbrev pub LeavesShelf : {S : Type 0} → Ghosts S → S → S → Type 0
LeavesShelf shelf old new = IsUnwritten shelf.standing shelf.failed old new
