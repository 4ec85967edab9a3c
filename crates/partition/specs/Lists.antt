-- Command lists (MPD protocol reference, Command lists; that each command is an event of its own is this
-- profile's).
use Rattle.std.specs.Prelude.{◌≡◌, ℕ, ◌+◌, ◌-◌, ◌<◌, true, false, List, [], ◌∷◌, ◌++◌, length, map, nat_le, take, codes, slice_get, slice_index_or, Option, Some, None, Result, IfErr, IfOk, if◌then◌else◌}
use Rattle.std.specs.List.{flat_map, list_any}
use Rattle.std.specs.Global.{Vec}
use Rattle.std.specs.Option.{ForSome}
use Rattle.command_lists.specs.declared.word.ListForm.{ListForm}
use Rattle.mpd_command.specs.Requests.{name_in}
use Rattle.mpd_command.specs.declared.request.Request.{Request}
use Rattle.mpd_text.specs.Answers.Answer.{ack_line}
use Rattle.player_events.specs.declared.event.Event.{Event}
use Rattle.player_events.specs.declared.event.Event.TheVariants.{Line}
use Rattle.player_events.specs.declared.event.LogEntry.{LogEntry}
use Rattle.transitions.specs.declared.asked.ListPlace.TheVariants.{InList}
use Rattle.transitions.specs.declared.reply.Next.{Next}
use Rattle.transitions.specs.declared.reply.Next.TheVariants.{Goes}
use Rattle.partition.specs.declared.partition.PartitionFault.{PartitionFault}
use Rattle.partition.specs.declared.partition.PartitionFault.TheVariants.{HistoryFull, CutsAtLimit, AtLimit, NoMemory}
use Rattle.player_core.specs.declared.fault.PlayerFault.{PlayerFault}
use Rattle.player_core.specs.declared.fault.PlayerFault.TheVariants as player_fault
use Rattle.player_events.specs.Outcomes.{OutcomeData}
use Rattle.partition.specs.Lent.{Refuses, ServesAll}
use Rattle.transitions.specs.declared.shelf_calls.StoreReply.{StoreReply}
use Rattle.shelf.specs.Calls.{Call}
use Rattle.shelf.specs.Maps.{Standing}
use Rattle.shelf.specs.declared.traits.Shelf.{Ghosts}
use Rattle.partition.specs.History.{Chronicle, joined, replay, AreTold}
use Rattle.partition.specs.Image.{Image}
use Rattle.partition.specs.Step.{limit_of, next_image, told}
use Rattle.player_events.specs.Events.{ends_list}

-- a request, and what the shelf answers to it
abbrev pub Answered : Type 0
Answered = Request × StoreReply

-- the entries that a list's requests make, one directly after the other, from this place on: up to and with
-- the first that ends the list
unfoldable pub entries_of : ℕ → Image → ℕ → ListForm → ℕ → List Answered → List LogEntry
entries_of seat i client form place [] = []
entries_of seat i client form place (a ∷ more) =
    let event = Line client (InList form place) a.0 a.1 in
    record { seat = seat; event = event; told = told i event }
    ∷ (if ends_list (told i event) then [] else entries_of seat (next_image seat i event) client form (place + 1) more)

-- the events of requests, from a place of their list on
abbrev pub events_of : ℕ → ListForm → ℕ → List Answered → List Event
events_of client form place [] = []
events_of client form place (a ∷ more) = Line client (InList form place) a.0 a.1 ∷ events_of client form (place + 1) more

-- What the entries of a list are, said of them as a whole: the events of its first requests, all of one seat;
-- each told what the player tells at its position; nothing follows one that ends the list; and where none does,
-- no request is left out.
pub record AreEntries (seat : ℕ) (i : Image) (client : ℕ) (form : ListForm) (place : ℕ) (requests : List Answered) (entries : List LogEntry) : Type 0 where
  pub events : map {B = ℕ × Event} (λ h. (h.seat, h.event)) entries ≡ take (length entries) (map {B = ℕ × Event} (λ event. (seat, event)) (events_of client form place requests))
  pub told : AreTold i entries
  pub last : (front : List LogEntry) (entry : LogEntry) (more : List LogEntry) → entries ≡ front ++ entry ∷ more → ends_list entry.told ≡ true → more ≡ []
  pub whole : (list_any (λ h. ends_list h.told) entries ≡ false) → length entries ≡ length requests

abbrev pub EntriesAre : Type 0
EntriesAre = (seat : ℕ) (i : Image) (client : ℕ) (form : ListForm) (place : ℕ) (requests : List Answered)
    → AreEntries seat i client form place requests (entries_of seat i client form place requests)

-- what becomes of a client that was told this last, or nothing at all
abbrev pub next_in : Option OutcomeData → Next
next_in None = Goes
next_in (Some told) = told.answer.next

-- what becomes of a client after the last of its list's commands that was run
abbrev pub next_after : List OutcomeData → Next
next_after tolds = next_in (slice_get tolds (length tolds - 1))

-- as many bytes as can be counted
abbrev pub counted : ℕ → ℕ
counted bytes = if nat_le bytes 18446744073709551615 then bytes else 18446744073709551615

-- answers, joined
abbrev pub answers_of : List OutcomeData → List ℕ
answers_of tolds = flat_map (λ t. t.answer.text) tolds

-- answers, joined, and after them this end, unless one of them ended the list
abbrev pub text_with : List ℕ → List OutcomeData → List ℕ
text_with end tolds = answers_of tolds ++ (if list_any ends_list tolds then [] else end)

-- the whole answer of a list: one `OK` ends a list that succeeded
abbrev pub list_text : List OutcomeData → List ℕ
list_text tolds = text_with (codes "OK\n") tolds

abbrev pub fault_text : PartitionFault → List ℕ
fault_text CutsAtLimit = codes "player limit reached"
fault_text AtLimit = codes "player limit reached"
fault_text NoMemory = codes "out of memory"
fault_text HistoryFull = codes "history full"

-- why the player refuses what one of its steps refuses
abbrev pub fault_for : PlayerFault → PartitionFault
fault_for player_fault.CutsAtLimit = CutsAtLimit
fault_for player_fault.NoMemory = NoMemory

-- what a list stopped at: the answers so far, the command that could not be run, and why
pub record Stop : Type 0 where
  pub done : ℕ
  pub tolds : List OutcomeData
  pub command : List ℕ
  pub cause : PartitionFault

abbrev pub stop_from : ℕ → List OutcomeData → List ℕ → PartitionFault → Stop
stop_from done tolds command cause = record { done = done; tolds = tolds; command = command; cause = cause }

-- the answer of a list that could not be run to its end
abbrev pub stop_text : Stop → List ℕ
stop_text stop = flat_map (λ t. t.answer.text) stop.tolds ++ ack_line 52 stop.done stop.command (fault_text stop.cause)

-- none of these entries' events passed a limit at its position
abbrev pub AllWithin : Image → List LogEntry → Type 0
AllWithin i [] = Unit {0}
AllWithin i (h ∷ hs) = (limit_of h.seat i h.event ≡ None) × AllWithin (next_image h.seat i h.event) hs

-- these entries joined the history one after the other, and the player went their way
pub record Joins (before after : Chronicle) (entries : List LogEntry) : Type 0 where
  pub chronicle : after ≡ joined before entries
  pub present : after.present ≡ replay before.present entries
  pub within : AllWithin before.present entries

module _ {S : Type 0} (standing : S → Standing) (failed : S → S → Call → Type 0) where
  -- a list ran: by what the lent shelf answered, all its entries joined the history, and these are their
  -- answers
  pub record RunsList (before after : Chronicle) (old new : S) (seat client : ℕ) (form : ListForm) (requests : List Request) (tolds : List OutcomeData) : Type 0 where
    pub answered : List Answered
    pub asked : map (λ a. a.0) answered ≡ requests
    pub joins : Joins before after (entries_of seat before.present client form 0 answered)
    pub told : tolds ≡ map (λ h. h.told) (entries_of seat before.present client form 0 answered)
    pub shelf : ServesAll standing failed old new before.present (entries_of seat before.present client form 0 answered)

  -- a list stopped: exactly the first `done` of its entries joined the history, and the command after them
  -- was refused, for a limit that its event would pass, or for lack of memory
  pub record StopsList (before after : Chronicle) (old new : S) (seat client : ℕ) (form : ListForm) (requests : List Request) (stop : Stop) : Type 0 where
    pub answered : List Answered
    pub asked : map (λ a. a.0) answered ≡ requests
    pub middle : Chronicle
    pub joins : Joins before middle (take stop.done (entries_of seat before.present client form 0 answered))
    pub told : stop.tolds ≡ map (λ h. h.told) (take stop.done (entries_of seat before.present client form 0 answered))
    pub more : stop.done < length (entries_of seat before.present client form 0 answered)
    pub command : stop.command ≡ slice_index_or (map name_in requests) stop.done []
    pub between : S
    pub shelf : ServesAll standing failed old between before.present (take stop.done (entries_of seat before.present client form 0 answered))
    pub cause : ForSome (slice_get (entries_of seat before.present client form 0 answered) stop.done) (λ entry. Refuses standing failed middle after between new entry.seat entry.event stop.cause)

-- The same for any type of shelf: a clause passes `S.Shelf`, which is all that the type says of itself.
module _ {S : Type 0} (lent : Ghosts S) where
  -- where a list ran, all its entries joined the history
  abbrev pub RunsBy : Chronicle → Chronicle → S → S → ℕ → ℕ → ListForm → Vec Request → Result (List OutcomeData) Stop → Type 0
  RunsBy before after old new seat client form requests result =
      IfOk result (RunsList lent.standing lent.failed before after old new seat client form requests.items)

  -- where a list stopped, it was at one of its commands, which was refused
  abbrev pub StopsBy : Chronicle → Chronicle → S → S → ℕ → ℕ → ListForm → Vec Request → Result (List OutcomeData) Stop → Type 0
  StopsBy before after old new seat client form requests result =
      IfErr result (StopsList lent.standing lent.failed before after old new seat client form requests.items)
