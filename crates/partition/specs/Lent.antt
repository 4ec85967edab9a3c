-- Events that are lent a shelf: what joins the history, and what becomes of the shelf.
use Rattle.std.specs.Prelude.{◌≡◌, ◌⊎◌, ℕ, Bool, true, false, nat_le, slice_index_or, List, [], ◌∷◌, ◌++◌, None, Result, IfOk, IsErrOf, ⊤}
use Rattle.std.specs.Global.{Vec}
use Rattle.shelf.specs.Calls.{Call}
use Rattle.shelf.specs.Maps.{Standing, Trusted, Changes}
use Rattle.shelf.specs.declared.traits.Shelf.{Ghosts}
use Rattle.player_events.specs.declared.event.Event.{Event}
use Rattle.player_events.specs.declared.event.LogEntry.{LogEntry}
use Rattle.partition.specs.declared.partition.PartitionFault.{PartitionFault}
use Rattle.partition.specs.declared.partition.PartitionFault.TheVariants.{AtLimit, HistoryFull, NoMemory}
use Rattle.transitions.specs.declared.shelf_calls.Read.{Read}
use Rattle.transitions.specs.declared.shelf_calls.StoreReply.{StoreReply}
use Rattle.transitions.specs.declared.shelf_calls.ShelfWrite.{ShelfWrite}
use Rattle.player_events.specs.Outcomes.{OutcomeData}
use Rattle.partition.specs.History.{Chronicle, is_full, with_room}
use Rattle.partition.specs.Image.{Image, image_of_state}
use Rattle.partition.specs.Refusals.{MayRefuse}
use Rattle.partition.specs.declared.state.State.{State}
use Rattle.player_state.specs.declared.state.Client.{Client}
use Rattle.player_state.specs.declared.state.Library.{Library}
use Rattle.shelf.specs.declared.faults.ShelfFault.{ShelfFault}
use Rattle.transitions.specs.Shelves.{IsAnswered, IsRead, LeavesUnchanged, Question, Serves, answered, is_ok_write, maps_after}
use Rattle.player_events.specs.Events.{with_store_reply, store_reply_at}
use Rattle.partition.specs.Step.{limit_of, next_image, question_of, told, transition}

-- what an event asks the shelf
abbrev pub question : Image → Event → Question
question i event = question_of i.shared.library i.clients event

-- what an event writes to the shelf that answered its question so, if the shelf does not refuse
abbrev pub writing : Image → Event → StoreReply → ShelfWrite
writing i event heard = (transition i (with_store_reply event (record heard { refused = None }))).written

-- a full window could not be folded for lack of memory, or it has room and there was none for the event
abbrev pub LacksMemory : Chronicle → Chronicle → PartitionFault → Type 0
LacksMemory before after fault =
    ((fault ≡ HistoryFull) × ((is_full before ≡ true) × (after ≡ before)))
    ⊎ ((fault ≡ NoMemory) × (after ≡ with_room before))

-- the call of a seat that is spent: it is refused, unless a full window could not be folded before
abbrev pub IsAtLimitOrFull : {A : Type 0} → Result A PartitionFault → Type 0
IsAtLimitOrFull result = IsErrOf result AtLimit ⊎ IsErrOf result HistoryFull

-- a seat made as many events as can be counted
abbrev pub IsFull : ℕ → Image → Type 0
IsFull seat i = nat_le 9223372036854775807 (slice_index_or i.shared.made seat 0) ≡ true

module _ {S : Type 0} (standing : S → Standing) where
  -- the shelf answered a question so, and kept its maps
  abbrev pub ChangesByRead : S → S → Bool → Type 0
  ChangesByRead old new is_done = Changes (standing old) (standing new) is_done (standing old).maps

  -- the shelf was to write this, and answered so; its maps are those after it where it did
  abbrev pub ChangesByWrite : S → S → ShelfWrite → Result ⊤ ShelfFault → Type 0
  ChangesByWrite old new write result = Changes (standing old) (standing new) (is_ok_write write result) (maps_after write (standing old).maps)

  -- the same of what an event has heard of it
  abbrev pub WritesFor : S → S → ShelfWrite → Event → Type 0
  WritesFor old new write event = ChangesByWrite old new write (answered (store_reply_at event).refused)

  -- nothing of it was written
  abbrev pub IsUnwrittenBy : S → S → ShelfWrite → Type 0
  IsUnwrittenBy old new write = Changes (standing old) (standing new) false (maps_after write (standing old).maps)

module _ {S : Type 0} (standing : S → Standing) (failed : S → S → Call → Type 0) where
  -- An event of a seat, with what the lent shelf answered to it, joined the history. It was told what the
  -- player of one thread tells, and the player went its way; it passed no limit.
  pub record Records (before after : Image) (history later : List LogEntry) (old new : S) (seat : ℕ) (event : Event) (outcome : OutcomeData) : Type 0 where
    pub heard : StoreReply
    pub window : later ≡ history ++ record { seat = seat; event = with_store_reply event heard; told = outcome } ∷ []
    pub told_is : outcome ≡ told before (with_store_reply event heard)
    pub present : after ≡ next_image seat before (with_store_reply event heard)
    pub within : limit_of seat before (with_store_reply event heard) ≡ None
    pub shelf : Serves standing failed old new (question before event) (writing before event heard) heard

  -- An event was refused: for the limit that it would pass, or for lack of memory. Where it was for a limit,
  -- it passes it by what the lent shelf answered, unless its seat is full. The shelf was asked at most, and
  -- nothing was written.
  pub record IsRefused (i : Image) (old new : S) (seat : ℕ) (event : Event) (fault : PartitionFault) : Type 0 where
    pub heard : StoreReply
    pub refused : MayRefuse (limit_of seat i (with_store_reply event heard)) fault
    pub cause : (fault ≡ NoMemory) ⊎ (IsFull seat i ⊎ Serves standing failed old new (question i event) (writing i event heard) heard)
    pub unchanged : LeavesUnchanged standing failed old new

  -- What an event leaves that was refused. A full window is folded first: where there was no memory for that,
  -- all is as it was. Else the window has room, and the event was refused after it.
  abbrev pub Refuses : Chronicle → Chronicle → S → S → ℕ → Event → PartitionFault → Type 0
  Refuses before after old new seat event fault =
      ((fault ≡ HistoryFull) × ((is_full before ≡ true) × ((after ≡ before) × (new ≡ old))))
      ⊎ ((after ≡ with_room before) × IsRefused before.present old new seat event fault)

  -- what was read of it for an event is what it holds
  abbrev pub ReadsFor : {E : Type 0} → S → S → Library → List Client → Event → Result Read E → Type 0
  ReadsFor old new library clients event result =
      Trusted (standing old) (standing new) → IfOk result (λ read. IsRead (failed old new) (standing old).maps (question_of library clients event) read)

  -- it answers a write as its maps say
  abbrev pub AnswersWrite : S → S → ShelfWrite → Result ⊤ ShelfFault → Type 0
  AnswersWrite old new write result = Trusted (standing old) (standing new) → IsAnswered (failed old new) (standing old).maps write result

  -- an event joined the window, which is folded first where it is full
  abbrev pub RecordsOnce : Chronicle → Chronicle → S → S → ℕ → Event → OutcomeData → Type 0
  RecordsOnce before after old new seat event outcome =
      Records before.present after.present (with_room before).window after.window old new seat event outcome

  -- the lent shelf served these entries one after the other
  abbrev pub ServesAll : S → S → Image → List LogEntry → Type 0
  ServesAll old new i [] = new ≡ old
  ServesAll old new i (h ∷ hs) =
      (between : S) × Serves standing failed old between (question i h.event) (writing i h.event (store_reply_at h.event)) (store_reply_at h.event)
      × ServesAll between new (next_image h.seat i h.event) hs

-- The same for any type of shelf: a clause passes `S.Shelf`, which is all that the type says of itself.
module _ {S : Type 0} (lent : Ghosts S) where
  -- the shelf answers a write as its maps say, by what an event has heard of it
  abbrev pub IsWriteReply : S → S → ShelfWrite → Event → Type 0
  IsWriteReply old new write event = AnswersWrite lent.standing lent.failed old new write (answered (store_reply_at event).refused)

  -- the shelf served an event, which has heard what it answered
  abbrev pub ServesEvent : S → S → State → Event → Event → Type 0
  ServesEvent old new state asked told =
      Serves lent.standing lent.failed old new (question (image_of_state state) asked)
      (writing (image_of_state state) asked (store_reply_at told)) (store_reply_at told)

  -- an event was refused for lack of memory, or for what the shelf answered
  abbrev pub HasCause : S → S → State → Event → Event → PartitionFault → Type 0
  HasCause old new state asked told fault = (fault ≡ NoMemory) ⊎ ServesEvent old new state asked told

  -- where an event ran, it joined the history of a state
  abbrev pub RecordsIn : State → State → Vec LogEntry → Vec LogEntry → S → S → ℕ → Event → Result OutcomeData PartitionFault → Type 0
  RecordsIn before after log later old new seat event result =
      IfOk result (Records lent.standing lent.failed (image_of_state before) (image_of_state after) log.items later.items old new seat event)

  -- a state refused an event
  abbrev pub IsRefusedIn : State → S → S → ℕ → Event → PartitionFault → Type 0
  IsRefusedIn state old new seat event fault = IsRefused lent.standing lent.failed (image_of_state state) old new seat event fault

  -- an event joined the window, which has room for it
  abbrev pub RecordsNext : Chronicle → Chronicle → S → S → ℕ → Event → OutcomeData → Type 0
  RecordsNext before after old new seat event outcome =
      Records lent.standing lent.failed before.present after.present before.window after.window old new seat event outcome

  -- an event was refused, although the window has room for it
  abbrev pub IsRefusedNext : Chronicle → S → S → ℕ → Event → PartitionFault → Type 0
  IsRefusedNext before old new seat event fault = IsRefused lent.standing lent.failed before.present old new seat event fault

  -- an event joined the window, which is folded first where it is full
  abbrev pub RecordsBy : Chronicle → Chronicle → S → S → ℕ → Event → OutcomeData → Type 0
  RecordsBy before after old new seat event outcome = RecordsOnce lent.standing lent.failed before after old new seat event outcome

  -- an event was refused; a full window is folded first, where there is memory for it
  abbrev pub RefusesBy : Chronicle → Chronicle → S → S → ℕ → Event → PartitionFault → Type 0
  RefusesBy before after old new seat event fault = Refuses lent.standing lent.failed before after old new seat event fault
