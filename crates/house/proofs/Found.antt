-- What a caller is answered, of which the lock found the past.
use Rattle.std.proofs.Common.{List, ap}
use Rattle.shelf.specs.Calls.{Call}
use Rattle.shelf.specs.Maps.{Standing}
use Rattle.player_events.specs.declared.event.Event.{Event}
use Rattle.player_events.specs.declared.event.LogEntry.{LogEntry}
use Rattle.player_events.specs.Outcomes.{OutcomeData}
use Rattle.partition.specs.History.{Chronicle, with_room}
use Rattle.partition.specs.Image.{Image}
use Rattle.partition.specs.Lent.{Records}
use Rattle.house.specs.Seats.{SeatCount}
use Rattle.house.specs.Counts.{AnswersSomewhere, MayFind}

-- what the player of one thread answers somewhere
pub answers : {S : Type 0} (standing : S → Standing) (failed : S → S → Call → Type 0) (past : Chronicle) (after : Image) (later : List LogEntry) (old new : S) (seat : SeatCount) (event : Event) (outcome : OutcomeData)
    → MayFind seat past → Records standing failed past.present after (with_room past).window later old new seat.number event outcome
    → AnswersSomewhere standing failed old new seat event outcome
answers standing failed past after later old new seat event outcome found records = (
  past,
  found,
  (records.heard, ap (λ (t : OutcomeData). t.answer) records.told_is, records.shelf),
)
