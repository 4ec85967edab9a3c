-- What contracts see of what the lock holds, and what a caller learns who cannot see it.
use Rattle.std.specs.Prelude.{ℕ, ◌≡◌, ◌⊎◌, ◌+◌, ◌<◌, ◌≤◌, ◌^◌, Bool, true, false, List, [], ◌++◌, Option, None, Result}
use Rattle.std.specs.Prelude.{IfErr, IfOk, sum}
use Rattle.std.specs.declared.sync.ledger.Share.{Share}
use Rattle.shelf.specs.Calls.{Call}
use Rattle.shelf.specs.Maps.{Standing}
use Rattle.shelf.specs.declared.traits.Shelf.{Ghosts}
use Rattle.player_events.specs.declared.event.Event.{Event}
use Rattle.player_events.specs.declared.event.Event.TheVariants.{Have, Line, OutputTurn}
use Rattle.player_events.specs.declared.event.LogEntry.{LogEntry}
use Rattle.connected_clients.specs.declared.notices.Notice.{Notice}
use Rattle.partition.specs.declared.partition.PartitionFault.{PartitionFault}
use Rattle.partition.specs.declared.partition.PartitionFault.TheVariants.{HistoryFull, NoMemory}
use Rattle.player_events.specs.Outcomes.{OutcomeData}
use Rattle.partition.specs.History.{Chronicle, is_full, joined_by, with_room}
use Rattle.partition.specs.Lent.{RecordsOnce, Refuses}
use Rattle.player_state.specs.Outputs.{FrameBooks, empty_books}
use Rattle.partition.specs.Refusals.{MayRefuse}
use Rattle.transitions.specs.Shelves.{LeavesUnchanged, no_store_reply}
use Rattle.partition.specs.Step.{limit_of, next_image, told}
use Rattle.house.specs.Seats.{SeatCount}
use Rattle.house.specs.Counts.{AnswersSomewhere, MayFind}
use Rattle.frame_ledger.specs.declared.books.OutputShares.{OutputShares}
use Rattle.mpd_command.specs.declared.request.Request.{Request}
use Rattle.output_ring.specs.declared.frames.Fates.{Fates}
use Rattle.transitions.specs.declared.asked.ListPlace.TheVariants.{Alone}
use Rattle.house.specs.declared.player.Core.{Core}
use Rattle.house.specs.Waiting.{waiting_after}

-- the player with its history; the notices that wait to be handed out; the books of frames; whether the
-- outputs were settled, whose last fates then stand in the books of written and discarded frames, though no
-- event told of them; and how many seats are free
pub record View : Type 0 where
  pub player : Chronicle
  pub waiting : List Notice
  pub books : FrameBooks
  pub is_settled : Bool
  pub free : ℕ

-- what contracts see of a player with its notices, beside these books, settled or not, and so many free seats
abbrev pub seen : {L : Type 0} → Core L → FrameBooks → Bool → ℕ → View
seen core books is_settled free = record {
  player = core.counted;
  waiting = core.waiting.items;
  books = books;
  is_settled = is_settled;
  free = free;
}

-- what a line of a client is answered with: its waiting notice, and what its event told
pub record Handed : Type 0 where
  pub front : Option Notice
  pub told : OutcomeData

-- the notices that wait once a line of this client was answered: its first is handed out, and those that the
-- event made come after the others
abbrev pub WaitAfterLine : ℕ → List Notice → List Notice → Handed → Type 0
WaitAfterLine client old new handed = new ≡ waiting_after client old handed.told

-- an entry of the history
abbrev pub entry : ℕ → Event → OutcomeData → LogEntry
entry seat event outcome = record { seat = seat; event = event; told = outcome }

-- a line of a client that stands alone, of which the shelf answered nothing yet
abbrev pub line_of : ℕ → Request → Event
line_of client request = Line client Alone request no_store_reply

-- the turn of an output, which tells of these fates
abbrev pub turn_of : ℕ → Fates → Bool → Event
turn_of output fates failed = OutputTurn output fates.written fates.discarded failed

-- an event of a seat, which was told so, joined the history
abbrev pub Joins : Chronicle → Chronicle → ℕ → Event → OutcomeData → Type 0
Joins before after seat event outcome = after ≡ joined_by before (entry seat event outcome)

-- the same, told what the player of one thread tells
abbrev pub JoinsAs : Chronicle → Chronicle → ℕ → Event → Type 0
JoinsAs before after seat event = Joins before after seat event (told before.present event)

-- the notices that the player of one thread makes at an event
abbrev pub notices_at : Chronicle → Event → List Notice
notices_at player event = (told player.present event).notices

-- an event is told what the player of one thread tells at it
abbrev pub IsToldAs : View → Event → OutcomeData → Type 0
IsToldAs view event outcome = outcome ≡ told view.player.present event

-- the notices that the player of one thread makes at an event wait after the others
abbrev pub WaitsForAfter : View → View → Event → Type 0
WaitsForAfter before after event = after.waiting ≡ before.waiting ++ notices_at before.player event

-- the frames that were written, and those that were discarded, are no fewer than before
abbrev pub CountsOn : FrameBooks → FrameBooks → Type 0
CountsOn old new = (sum old.written ≤ sum new.written) × (sum old.discarded ≤ sum new.discarded)

-- the frames that were written and discarded by these numbers are no fewer than in the books
abbrev pub AreNoFewer : FrameBooks → List ℕ → List ℕ → Type 0
AreNoFewer books written discarded = (sum books.written ≤ sum written) × (sum books.discarded ≤ sum discarded)

-- frames that were decoded joined the history, and the decoder was told so
abbrev pub JoinsFed : View → View → SeatCount → Event → OutcomeData → Type 0
JoinsFed before after seat event told = Joins before.player after.player seat.number event told

-- the turn of an output joined the history, which was told so
abbrev pub JoinsTurn : View → View → SeatCount → ℕ → Fates → Bool → OutcomeData → Type 0
JoinsTurn before after seat output fates failed told = Joins before.player after.player seat.number (turn_of output fates failed) told

-- an event of a seat passes no limit
abbrev pub IsWithinLimits : View → SeatCount → Event → Type 0
IsWithinLimits view seat event = limit_of seat.number view.player.present event ≡ None

-- while the outputs are not settled, the books are the player's
abbrev pub HasBooksOfPlayer : View → Type 0
HasBooksOfPlayer view = view.is_settled ≡ false → view.books ≡ view.player.present.shared.books

-- the same books, settled or not, and as many free seats
abbrev pub KeepsBooks : View → View → Type 0
KeepsBooks old new = (new.books ≡ old.books) × (new.is_settled ≡ old.is_settled) × (new.free ≡ old.free)

-- all of the books but the decoded frames are as before
abbrev pub KeepsFates : View → View → Type 0
KeepsFates old new =
    (new.books.written ≡ old.books.written) × (new.books.discarded ≡ old.books.discarded) × (new.is_settled ≡ old.is_settled) × (new.free ≡ old.free)

-- the decoded frames are as before, and whether the outputs were settled
abbrev pub KeepsDecoded : View → View → Type 0
KeepsDecoded old new = (new.books.decoded ≡ old.books.decoded) × (new.is_settled ≡ old.is_settled) × (new.free ≡ old.free)

-- nothing happened to a player: no notice waits, no frame was booked, and all seats are free
abbrev pub opened : Chronicle → View
opened player = record { player = player; waiting = []; books = empty_books; is_settled = false; free = 4 }

-- shares of outputs grow by as much as their books
abbrev pub GrowAsBooks : {W X : Type 0} → OutputShares W X → OutputShares W X → FrameBooks → FrameBooks → Type 0
GrowAsBooks old new books books' =
    (new.written.amount + sum books.written ≡ old.written.amount + sum books'.written)
    × (new.discarded.amount + sum books.discarded ≡ old.discarded.amount + sum books'.discarded)

-- a share of so many decoded frames grows by as much as their book
abbrev pub GrowsAsDecoded : ℕ → ℕ → FrameBooks → FrameBooks → Type 0
GrowsAsDecoded share share' books books' = share' + sum books.decoded ≡ share + sum books'.decoded

-- all is as it was, but that a full window may have been folded
abbrev pub IsUnchangedOrFolded : Chronicle → Chronicle → Type 0
IsUnchangedOrFolded before after = (after ≡ before) ⊎ (after ≡ with_room before)

-- Why an event that asks no shelf is refused: the full window cannot be folded; or the limit that the event
-- would pass, or want of memory.
abbrev pub IsRefusedFor : Chronicle → ℕ → Event → PartitionFault → Type 0
IsRefusedFor before seat event fault = ((fault ≡ HistoryFull) × (is_full before ≡ true)) ⊎ MayRefuse (limit_of seat before.present event) fault

-- the same of an event of a seat
abbrev pub IsEventRefused : View → SeatCount → Event → PartitionFault → Type 0
IsEventRefused view seat event fault = IsRefusedFor view.player seat.number event fault

-- what the player of one thread tells at the event after some past that the caller may find
abbrev pub TellsSomewhere : SeatCount → Event → OutcomeData → Type 0
TellsSomewhere seat event outcome = (past : Chronicle) × MayFind seat past × (outcome ≡ told past.present event)

-- why the event may be refused after some past that the caller may find
abbrev pub RefusesSomewhere : SeatCount → Event → PartitionFault → Type 0
RefusesSomewhere seat event fault = (past : Chronicle) × MayFind seat past × IsRefusedFor past seat.number event fault

-- what the player of one thread tells of frames that were decoded, and that the share of decoded frames grows
-- by what all outputs are given
abbrev pub FeedsSomewhere : SeatCount → ℕ → ℕ → ℕ → OutcomeData → ℕ → ℕ → Type 0
FeedsSomewhere seat index number frames told_of share_before share_after =
    (past : Chronicle) × MayFind seat past × (told_of ≡ told past.present (Have index number frames))
    × (share_after + sum past.present.shared.books.decoded ≡ share_before + sum (next_image seat.number past.present (Have index number frames)).shared.books.decoded)

abbrev pub FeedsShare : SeatCount → ℕ → ℕ → ℕ → ℕ → ℕ → OutcomeData → Type 0
FeedsShare seat index number frames share_before share_after told = FeedsSomewhere seat index number frames told share_before share_after

-- the same of the share itself
abbrev pub Feeds : {D : Type 0} → SeatCount → ℕ → ℕ → ℕ → Share D → Share D → OutcomeData → Type 0
Feeds seat index number frames old new told = FeedsShare seat index number frames old.amount new.amount told

module _ {S : Type 0} (standing : S → Standing) (failed : S → S → Call → Type 0) where
  -- What an event leaves that was refused: before it was begun, for lack of memory, all is as it was; else
  -- what the player says.
  abbrev pub Stops : Chronicle → Chronicle → S → S → ℕ → Event → PartitionFault → Type 0
  Stops before after old new seat event fault =
      ((fault ≡ NoMemory) × ((after ≡ before) × (new ≡ old))) ⊎ Refuses standing failed before after old new seat event fault

  -- why the event may be refused after some past that the caller may find, and what that leaves of the lent
  -- shelf
  abbrev pub StopsSomewhere : S → S → SeatCount → Event → PartitionFault → Type 0
  StopsSomewhere old new seat event fault =
      (past : Chronicle) × MayFind seat past × ((after : Chronicle) × Stops past after old new seat.number event fault)

  -- nothing was written to the lent shelf
  abbrev pub IsUnwritten : S → S → Type 0
  IsUnwritten old new = (new ≡ old) ⊎ LeavesUnchanged standing failed old new

  -- a line of a client is refused or answered so
  abbrev pub StopsClient : S → S → SeatCount → ℕ → Request → PartitionFault → Type 0
  StopsClient old new seat client request fault = StopsSomewhere old new seat (line_of client request) fault

  abbrev pub AnswersClient : S → S → SeatCount → ℕ → Request → Handed → Type 0
  AnswersClient old new seat client request handed = AnswersSomewhere standing failed old new seat (line_of client request) handed.told

  -- a line of a client joined the history, which is folded first where it is full, or was refused
  abbrev pub AnswersLine : View → View → S → S → SeatCount → ℕ → Request → OutcomeData → Type 0
  AnswersLine before after old new seat client request outcome =
      RecordsOnce standing failed before.player after.player old new seat.number (line_of client request) outcome

  abbrev pub StopsLine : View → View → S → S → SeatCount → ℕ → Request → PartitionFault → Type 0
  StopsLine before after old new seat client request fault = Stops before.player after.player old new seat.number (line_of client request) fault

-- the same with the lent shelf
module _ {S : Type 0} (shelf : Ghosts S) where
  -- what the player of one thread answers to a client's line after some past that the caller may find
  abbrev pub AnswersCaller : S → S → SeatCount → ℕ → Request → Handed → Type 0
  AnswersCaller old new seat client request handed =
      AnswersClient shelf.standing shelf.failed old new seat client request handed

  -- why such a line may be refused after some past that the caller may find, and what that leaves
  abbrev pub StopsCaller : S → S → SeatCount → ℕ → Request → PartitionFault → Type 0
  StopsCaller old new seat client request fault =
      StopsClient shelf.standing shelf.failed old new seat client request fault

  -- a line of a client that was answered joined the history, which is folded first where it is full
  abbrev pub Hears : View → View → S → S → SeatCount → ℕ → Request → Result Handed PartitionFault → Type 0
  Hears before after old new seat client request answer = IfOk answer
      (λ handed. AnswersLine shelf.standing shelf.failed before after old new seat client request handed.told)

  -- what a line of a client leaves that was refused
  abbrev pub Fails : View → View → S → S → SeatCount → ℕ → Request → Result Handed PartitionFault → Type 0
  Fails before after old new seat client request answer = IfErr answer
      (StopsLine shelf.standing shelf.failed before after old new seat client request)
