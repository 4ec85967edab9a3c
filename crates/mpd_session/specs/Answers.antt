-- What the player of one thread may answer to what a client asks for (MPD protocol reference, Responses and
-- Command lists).
use Rattle.std.specs.Prelude.{◌≡◌, ◌⊎◌, ◌<◌, ◌≤◌, ◌+◌, ℕ, Bool, List, [], ◌∷◌, ◌++◌, Option, Some, None}
use Rattle.std.specs.Prelude.{codes, length, map, take}
use Rattle.command_lists.specs.Lists.{LineData}
use Rattle.command_lists.specs.declared.list.CommandList.{CommandList}
use Rattle.command_lists.specs.declared.list.ListLine.{ListLine}
use Rattle.command_lists.specs.declared.list.ListLine.TheVariants.{Text, NotText}
use Rattle.house.specs.Lists.{StopsListSomewhere, TellsListSomewhere}
use Rattle.house.specs.Seats.{SeatCount, after_events}
use Rattle.house.specs.Counts.{AnswersSomewhere}
use Rattle.house.specs.Views.{IsUnwritten, StopsSomewhere, line_of}
use Rattle.mpd_command.specs.Requests.{name_in, request_of}
use Rattle.mpd_command.specs.declared.command_set.CommandSet.{CommandSet}
use Rattle.mpd_command.specs.declared.request.Request.{Request}
use Rattle.mpd_command.specs.declared.request.Request.TheVariants.{Refused}
use Rattle.mpd_text.specs.Answers.Answer.{ack_line}
use Rattle.mpd_text.specs.declared.answers.answer.ErrorNumber.TheVariants.{Argument}
use Rattle.transitions.specs.declared.reply.Next.{Next}
use Rattle.transitions.specs.declared.reply.Next.TheVariants.{Goes}
use Rattle.player_events.specs.Outcomes.{OutcomeData}
use Rattle.partition.specs.Lists.{Stop, fault_text, next_after, stop_text, text_with}
use Rattle.partition.specs.declared.partition.PartitionFault.{PartitionFault}
use Rattle.partition.specs.declared.partition.PartitionFault.TheVariants.{NoMemory}
use Rattle.shelf.specs.Calls.{Call}
use Rattle.shelf.specs.Maps.{Standing}
use Rattle.mpd_session.specs.declared.asker.Asker.{Asker}
use Rattle.mpd_session.specs.Output.{OutputsJoinOver}
use Rattle.mpd_session.specs.Requests.{Asking, Single, Whole}

-- what a session is lent: a seat with its count, and a shelf
pub record Caller (S : Type 0) : Type 0 where
  pub seat : SeatCount
  pub shelf : S

abbrev pub caller : {S : Type 0} → SeatCount → S → Caller S
caller seat shelf = record { seat = seat; shelf = shelf }

-- with the same seat more events were made, perhaps none; the shelf may be another
abbrev pub HasGrown : {S : Type 0} → Caller S → Caller S → Type 0
HasGrown before after = (after.seat.number ≡ before.seat.number) × (before.seat.made ≤ after.seat.made)

-- what a line asks for
abbrev pub read_line : CommandSet → LineData → Request
read_line set (Some text) = request_of text set
read_line set None = Refused (record { number = Argument; command = None; text = codes "line is not UTF-8" })

abbrev pub line_of_list : ListLine → LineData
line_of_list (Text text) = Some text
line_of_list NotText = None

abbrev pub read_list_line : CommandSet → ListLine → Request
read_list_line set line = read_line set (line_of_list line)

abbrev pub read_lines : CommandSet → List ListLine → List Request
read_lines set lines = map (λ line. read_line set (line_of_list line)) lines

-- the requests of a list's lines, up to the one at this place, which there was no memory to read; of all of
-- them where there is none
abbrev pub IsRead : List ListLine → CommandSet → List Request → Option ℕ → Type 0
IsRead lines set requests None = requests ≡ read_lines set lines
IsRead lines set requests (Some place) = (requests ≡ take place (read_lines set lines)) × (place < length lines)

-- the request of a line of a list stands after the others
abbrev pub AddsRead : CommandSet → List Request → List Request → ListLine → Type 0
AddsRead set old new line = new ≡ old ++ read_list_line set line ∷ []

-- what stands after the answers of a list where all succeed: `OK`; or that there was no memory to read the
-- line at this place
abbrev pub list_end : Option ℕ → List ℕ
list_end None = codes "OK\n"
list_end (Some place) = ack_line 52 place [] (fault_text NoMemory)

module _ {S : Type 0} (standing : S → Standing) (failed : S → S → Call → Type 0) (asker : Asker) where
  -- An answer that the player of one thread gives to the line, after some past that the seat may find.
  abbrev pub RunsLine : Caller S → LineData → List ℕ → Next → Caller S → Type 0
  RunsLine before line text next after =
      (outcome : OutcomeData) × (text ≡ outcome.answer.text) × (next ≡ outcome.answer.next) × (after.seat ≡ after_events before.seat 1)
      × AnswersSomewhere standing failed before.shelf after.shelf before.seat (line_of asker.client (read_line asker.commands line)) outcome

  -- The line's event is refused after some past that the seat may find: for the limit that it would pass, for
  -- a window that cannot be folded, or for lack of memory.
  abbrev pub StopsLine : Caller S → LineData → PartitionFault → Caller S → Type 0
  StopsLine before line fault after = StopsSomewhere standing failed before.shelf after.shelf before.seat (line_of asker.client (read_line asker.commands line)) fault

  -- Why the house did not run the line. There may have been no memory to read what command it names; else the
  -- player refuses its event so, after some past that the seat may find.
  abbrev pub RefusesLine : Caller S → LineData → List ℕ → Next → Caller S → Type 0
  RefusesLine before line text next after =
      (name : List ℕ) × (fault : PartitionFault) × (text ≡ ack_line 52 0 name (fault_text fault)) × (next ≡ Goes) × (after.seat ≡ before.seat)
      × IsUnwritten standing failed before.shelf after.shelf
      × (((name ≡ []) × (fault ≡ NoMemory)) ⊎ ((name ≡ name_in (read_line asker.commands line)) × StopsLine before line fault after))

  -- The answers to the lines of a list, or to those in front of one that there was no memory to read, up to
  -- the first that ends the list.
  abbrev pub RunsList : Caller S → CommandList → List ℕ → Next → Caller S → Type 0
  RunsList before list text next after =
      (requests : List Request) × (unread : Option ℕ) × (tolds : List OutcomeData) × IsRead list.lines asker.commands requests unread × (text ≡ text_with (list_end unread) tolds)
      × (next ≡ next_after tolds) × (after.seat ≡ after_events before.seat (length tolds))
      × TellsListSomewhere standing failed before.shelf after.shelf before.seat asker.client list.form requests tolds

  -- The answers to the lines of a list before one that the house did not run, and why.
  abbrev pub StopsList : Caller S → CommandList → List ℕ → Next → Caller S → Type 0
  StopsList before list text next after =
      (requests : List Request) × (unread : Option ℕ) × (stop : Stop) × IsRead list.lines asker.commands requests unread × (text ≡ stop_text stop)
      × (next ≡ Goes) × (after.seat ≡ after_events before.seat stop.done)
      × StopsListSomewhere standing failed before.shelf after.shelf before.seat asker.client list.form requests stop

  -- A list without lines is no event.
  abbrev pub IsEmptyList : Caller S → CommandList → List ℕ → Next → Caller S → Type 0
  IsEmptyList before list text next after = (list.lines ≡ []) × (text ≡ codes "OK\n") × (next ≡ Goes) × (after ≡ before)

  -- One answer that is allowed for what is asked, what becomes of the client, and what the caller has then.
  abbrev pub Answers : Caller S → Asking → List ℕ → Next → Caller S → Type 0
  Answers before (Single line) text next after = RunsLine before line text next after ⊎ RefusesLine before line text next after
  Answers before (Whole list) text next after =
      RunsList before list text next after ⊎ (StopsList before list text next after ⊎ IsEmptyList before list text next after)

-- the same client, who is told for how many seconds the daemon has been running
abbrev pub at_uptime : Asker → Option ℕ → Asker
at_uptime asker uptime = record asker { commands = record asker.commands { uptime = uptime } }

-- An answer that is allowed at some time: `stats` shows for how long the daemon has been running.
abbrev pub AnswersSometime : {S : Type 0} → (S → Standing) → (S → S → Call → Type 0) → Asker → Caller S → Asking → List ℕ → Next → Caller S → Type 0
AnswersSometime standing failed asker before one text next after =
    (uptime : Option ℕ) × Answers standing failed (at_uptime asker uptime) before one text next after

-- What turns write one after the other is written over many turns: where no time passes, and where it does,
-- so that `stats` shows another number of seconds.
module _ {S : Type 0} (standing : S → Standing) (failed : S → S → Call → Type 0) where
  abbrev pub OutputsJoinTimeless : Type 0
  OutputsJoinTimeless = (asker : Asker) → OutputsJoinOver (Answers standing failed asker) (Answers standing failed asker) HasGrown

  abbrev pub OutputsJoinSometime : Type 0
  OutputsJoinSometime = (asker : Asker) (uptime : Option ℕ)
      → OutputsJoinOver (Answers standing failed (at_uptime asker uptime)) (AnswersSometime standing failed asker) HasGrown
