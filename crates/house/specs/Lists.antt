-- Command lists under one taking of the lock.
use Rattle.std.specs.Prelude.{ℕ, ◌≡◌, ◌⊎◌, List, [], ◌++◌, Option, Result, IfErr, IfOk, map, slice_index_or}
use Rattle.std.specs.Global.{Vec}
use Rattle.std.specs.List.{flat_map}
use Rattle.command_lists.specs.declared.word.ListForm.{ListForm}
use Rattle.mpd_command.specs.Requests.{name_in}
use Rattle.mpd_command.specs.declared.request.Request.{Request}
use Rattle.shelf.specs.Calls.{Call}
use Rattle.shelf.specs.Maps.{Standing}
use Rattle.shelf.specs.declared.traits.Shelf.{Ghosts}
use Rattle.connected_clients.specs.declared.notices.Notice.{Notice}
use Rattle.partition.specs.declared.partition.PartitionFault.TheVariants.{NoMemory}
use Rattle.player_events.specs.Outcomes.{OutcomeData}
use Rattle.partition.specs.History.{Chronicle}
use Rattle.partition.specs.Lists.{RunsList, Stop, StopsList}
use Rattle.house.specs.Counts.{MayFind}
use Rattle.house.specs.Seats.{SeatCount}
use Rattle.house.specs.Views.{View}
use Rattle.house.specs.Waiting.{waiting_after_all}

-- what a command list is answered with: its client's waiting notice, and what each of its events told
pub record HandedList : Type 0 where
  pub front : Option Notice
  pub tolds : List OutcomeData

-- the notices of several events, one after the other
abbrev pub notices_in : List OutcomeData → List Notice
notices_in tolds = flat_map (λ t. t.notices) tolds

-- a list that stopped before its first command
abbrev pub unbegun : List Request → Stop
unbegun requests = record { done = 0; tolds = []; command = slice_index_or (map name_in requests) 0 []; cause = NoMemory }

module _ {S : Type 0} (standing : S → Standing) (failed : S → S → Call → Type 0) where
  -- What the player of one thread tells at the commands of a list, one after the other, after some past that
  -- the caller may find; the lent shelf answered and changed as that says.
  abbrev pub TellsListSomewhere : S → S → SeatCount → ℕ → ListForm → List Request → List OutcomeData → Type 0
  TellsListSomewhere old new seat client form requests tolds =
      (past : Chronicle) × MayFind seat past
      × ((after : Chronicle) × RunsList standing failed past after old new seat.number client form requests tolds)

  -- What a list leaves that stopped: before it was begun, for lack of memory, all is as it was; else what the
  -- player says.
  abbrev pub StopsHere : Chronicle → Chronicle → S → S → ℕ → ℕ → ListForm → List Request → Stop → Type 0
  StopsHere before after old new seat client form requests stop =
      ((stop ≡ unbegun requests) × ((after ≡ before) × (new ≡ old))) ⊎ StopsList standing failed before after old new seat client form requests stop

  -- What the player of one thread tells at the commands before one that is refused there.
  abbrev pub StopsListSomewhere : S → S → SeatCount → ℕ → ListForm → List Request → Stop → Type 0
  StopsListSomewhere old new seat client form requests stop =
      (past : Chronicle) × MayFind seat past
      × ((after : Chronicle) × StopsHere past after old new seat.number client form requests stop)

  -- the same of the requests that a caller hands in
  abbrev pub TellsList : S → S → SeatCount → ℕ → ListForm → Vec Request → List OutcomeData → Type 0
  TellsList old new seat client form requests tolds = TellsListSomewhere old new seat client form requests.items tolds

  abbrev pub StopsIn : S → S → SeatCount → ℕ → ListForm → Vec Request → Stop → Type 0
  StopsIn old new seat client form requests stop = StopsListSomewhere old new seat client form requests.items stop

-- the notices that wait once a list of this client was answered: its first is handed out, and those that the
-- commands made come after the others
abbrev pub WaitAfterList : ℕ → List Notice → List Notice → HandedList → Type 0
WaitAfterList client old new handed = new ≡ waiting_after_all client old handed.tolds

-- the notices that wait once a list stopped: those of the commands before come after the others
abbrev pub WaitAfterStop : List Notice → List Notice → Stop → Type 0
WaitAfterStop old new stop = new ≡ old ++ notices_in stop.tolds

-- the same with the lent shelf
module _ {S : Type 0} (shelf : Ghosts S) where
  -- what the player of one thread tells at all commands of a list, after some past that the caller may find
  abbrev pub TellsAll : S → S → SeatCount → ℕ → ListForm → Vec Request → List OutcomeData → Type 0
  TellsAll old new seat client form requests tolds =
      TellsList shelf.standing shelf.failed old new seat client form requests tolds

  -- the same of what a client is handed
  abbrev pub HandsAll : S → S → SeatCount → ℕ → ListForm → Vec Request → HandedList → Type 0
  HandsAll old new seat client form requests handed = TellsAll old new seat client form requests handed.tolds

  -- what the player of one thread tells at the commands before one that is refused there
  abbrev pub StopsAmid : S → S → SeatCount → ℕ → ListForm → Vec Request → Stop → Type 0
  StopsAmid old new seat client form requests stop =
      StopsIn shelf.standing shelf.failed old new seat client form requests stop

  -- where a client's list ran, its commands joined the history, and this is what the client is handed
  abbrev pub Runs : View → View → S → S → SeatCount → ℕ → ListForm → Vec Request → Result HandedList Stop → Type 0
  Runs before after old new seat client form requests result = IfOk result
      (λ handed. RunsList shelf.standing shelf.failed before.player after.player old new seat.number client form requests.items handed.tolds)

  -- where it halted, those before the one that was refused did, or it stopped before it was begun
  abbrev pub Halts : View → View → S → S → SeatCount → ℕ → ListForm → Vec Request → Result HandedList Stop → Type 0
  Halts before after old new seat client form requests result = IfErr result
      (StopsHere shelf.standing shelf.failed before.player after.player old new seat.number client form requests.items)
