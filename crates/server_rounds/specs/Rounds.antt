-- What a server does next, round by round (this profile's).
use Rattle.std.specs.Prelude.{◌≡◌, ◌≢◌, ◌+◌, ◌-◌, ◌<◌, ◌≤◌, ◌||◌, ◌==◌, ℕ, Bool, true, false, nat_le, if◌then◌else◌, List, Contains, replicate, Option, Some, None, slice_index_or, slice_set}
use Rattle.std.specs.List.{list_any}
use Rattle.std.specs.declared.time.Instant.{Instant}
use Rattle.server_rounds.specs.declared.slot.SlotState.{SlotState}
use Rattle.server_rounds.specs.declared.slot.SlotState.TheVariants.{Free}
use Rattle.server_rounds.specs.declared.slot.Turn.{Turn}
use Rattle.server_rounds.specs.declared.slot.Turn.TheVariants as turn
use Rattle.server_rounds.specs.declared.step.ListenerState.{ListenerState}
use Rattle.server_rounds.specs.declared.step.ListenerState.TheVariants.{Idle, Ready, TryLater}
use Rattle.server_rounds.specs.declared.step.Phase.{Phase}
use Rattle.server_rounds.specs.declared.step.Phase.TheVariants.{LettingIn, Turns, Notices, Over}
use Rattle.server_rounds.specs.declared.step.Step.{Step}
use Rattle.server_rounds.specs.declared.step.Step.TheVariants.{Sleep, LetIn, Visit, Ask, End}
use Rattle.server_rounds.specs.Slots.{IsTimeLeft, has_turn, heard, is_free, is_looked_at, is_ready, may_wait, state_after}

-- who has each of the slots, for which of them notices wait, whether a client waits to be let in, whether another
-- thread wakes the server, and how far the round is
pub record RoundsData : Type 0 where
  pub slots : List SlotState
  pub called : List Bool
  pub listener : ListenerState
  pub is_woken : Bool
  pub phase : Phase

-- The first round begins with the clients that waited before.
abbrev pub opening : RoundsData
opening = record { slots = replicate 64 Free; called = replicate 64 false; listener = Ready; is_woken = false; phase = LettingIn 64 }

abbrev pub state_of : RoundsData → ℕ → SlotState
state_of r slot = slice_index_or r.slots slot Free

abbrev pub with_state : RoundsData → ℕ → SlotState → RoundsData
with_state r slot state = record r { slots = slice_set r.slots slot state }

-- Sets of slots: those that have a turn, those for whose clients notices wait, and those that nobody has.
abbrev pub IsCalled : RoundsData → ℕ → Type 0
IsCalled r slot = slice_index_or r.called slot false ≡ true

abbrev pub HasTurnFrom : List SlotState → ℕ → ℕ → Type 0
HasTurnFrom slots from slot = (from ≤ slot) × (has_turn (slice_index_or slots slot Free) ≡ true)

abbrev pub IsCalledFrom : List Bool → ℕ → ℕ → Type 0
IsCalledFrom called from slot = (from ≤ slot) × (slice_index_or called slot false ≡ true)

abbrev pub IsFreeAt : RoundsData → ℕ → Type 0
IsFreeAt r slot = (slot < 64) × (is_free (state_of r slot) ≡ true)

-- those whose visit is to come in this phase of the round
abbrev pub IsDue : Phase → RoundsData → ℕ → Type 0
IsDue (LettingIn left) r slot = HasTurnFrom r.slots 0 slot
IsDue (Turns from) r slot = HasTurnFrom r.slots from slot
IsDue (Notices from) r slot = IsCalledFrom r.called from slot
IsDue Over r slot = ⊥

-- the least of a set, and the empty set
abbrev pub IsLeast : (ℕ → Type 0) → ℕ → Type 0
IsLeast Set slot = Set slot × ((other : ℕ) → other < slot → Set other → ⊥)

abbrev pub IsNobody : (ℕ → Type 0) → Type 0
IsNobody Set = (slot : ℕ) → Set slot → ⊥

-- A client may wait to be let in, and not as many were in this round as may be.
abbrev pub LetsIn : Phase → RoundsData → Type 0
LetsIn (LettingIn left) r = (0 < left) × (r.listener ≢ Idle)
LetsIn _ r = ⊥

-- Turns come, of the slots from this one on, once no more clients are let in.
abbrev pub IsFrom : Phase → ℕ → Type 0
IsFrom (LettingIn left) from = from ≡ 0
IsFrom (Turns first) from = from ≡ first
IsFrom _ from = ⊥

-- All turns of the round come before it is asked for whom notices wait, which is done where a client may wait for one.
abbrev pub AsksYet : Phase → RoundsData → Type 0
AsksYet (LettingIn left) r = list_any may_wait r.slots ≡ true
AsksYet (Turns from) r = list_any may_wait r.slots ≡ true
AsksYet _ r = ⊥

-- The listener may have a client at once; or one that could not be let in is tried again.
abbrev pub may_come : ListenerState → Bool
may_come Ready = true
may_come _ = false

abbrev pub comes_later : ListenerState → Bool
comes_later TryLater = true
comes_later _ = false

-- There is something to do at once: a client is ready, or one may wait to be let in.
abbrev pub is_at_once : RoundsData → Bool
is_at_once r = may_come r.listener || list_any is_ready r.slots

-- There is something to do soon, of which the system does not tell.
abbrev pub is_soon : RoundsData → Bool
is_soon r = comes_later r.listener || list_any (is_looked_at r.is_woken) r.slots

-- how long the server may sleep, in milliseconds: not at all, or 50, or without a limit
abbrev pub longest_sleep : RoundsData → Option ℕ
longest_sleep r = if is_at_once r then Some 0 else (if is_soon r then Some 50 else None)

-- What is done next: clients are let in, then the visits that are due are made, by slot; then, once, it is asked for
-- whom notices wait; and where nothing is left the server sleeps. It ends where a client ended the daemon.
abbrev pub IsNext : RoundsData → Step → Type 0
IsNext r LetIn = LetsIn r.phase r
IsNext r (Visit slot) = (LetsIn r.phase r → ⊥) × IsLeast (IsDue r.phase r) slot
IsNext r Ask = (LetsIn r.phase r → ⊥) × IsNobody (IsDue r.phase r) × AsksYet r.phase r
IsNext r (Sleep most) =
    (LetsIn r.phase r → ⊥) × IsNobody (IsDue r.phase r) × (AsksYet r.phase r → ⊥) × (r.phase ≢ Over) × (most ≡ longest_sleep r)
IsNext r End = r.phase ≡ Over

-- how far the round is after a step
abbrev pub phase_after : Phase → Step → Phase
phase_after (LettingIn left) LetIn = LettingIn (left - 1)
phase_after (Notices from) (Visit slot) = Notices (slot + 1)
phase_after _ (Visit slot) = Turns (slot + 1)
phase_after _ Ask = Notices 0
phase_after _ (Sleep most) = LettingIn 64
phase_after phase _ = phase

-- Who is called is known only once it is asked.
abbrev pub called_after : List Bool → Step → List Bool
called_after called Ask = replicate 64 false
called_after called _ = called

abbrev pub after : RoundsData → Step → RoundsData
after r step = record r { phase = phase_after r.phase step; called = called_after r.called step }

-- another thread wakes the server, or none
abbrev pub woken : RoundsData → Bool → RoundsData
woken r is_woken = record r { is_woken = is_woken }

-- the system tells of the listener, whose number is 0, or of a client's socket
abbrev pub heard_from : RoundsData → ℕ → Bool → RoundsData
heard_from r number ends =
    if number == 0 then record r { listener = Ready }
    else (if nat_le number 64 then with_state r (number - 1) (heard ends (state_of r (number - 1))) else r)

-- the listener gave no client: none waits, or one could not be let in
abbrev pub end_letting_in : Phase → Phase
end_letting_in (LettingIn left) = LettingIn 0
end_letting_in phase = phase

abbrev pub nobody_came : RoundsData → Bool → RoundsData
nobody_came r none_waits = record r { listener = if none_waits then Idle else TryLater; phase = end_letting_in r.phase }

-- For a client that is open and not ready, and has to be told something, a notice waits. Clients have the numbers of
-- their slots and one more.
abbrev pub WaitsAmong : SlotState → ℕ → List ℕ → Type 0
WaitsAmong slot client clients = (may_wait slot ≡ true) × (is_ready slot ≡ false) × Contains clients client

abbrev pub IsCalledAmong : List SlotState → List ℕ → ℕ → Type 0
IsCalledAmong slots clients slot = WaitsAmong (slice_index_or slots slot Free) (slot + 1) clients

abbrev pub IsCalledBy : RoundsData → List ℕ → ℕ → Type 0
IsCalledBy r clients slot = IsCalledAmong r.slots clients slot

-- a turn ends: the client's slot, or the daemon
abbrev pub turned : RoundsData → ℕ → Turn → Option Instant → RoundsData
turned r slot turn.Killed left = record r { phase = Over }
turned r slot other left = with_state r slot (state_after (state_of r slot) other left)

-- for so long as its client may still read
abbrev pub EndsTurn : RoundsData → ℕ → Turn → Option Instant → RoundsData → Type 0
EndsTurn r slot turn now new = (left : Option Instant) × IsTimeLeft (state_of r slot) now left × (new ≡ turned r slot turn left)
