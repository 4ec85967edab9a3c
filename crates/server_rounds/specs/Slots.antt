-- Who has a slot in the server, and what becomes of it (this profile's).
use Rattle.std.specs.Prelude.{◌≡◌, ◌+◌, ◌<◌, ◌≤◌, ◌⊎◌, ◌&&◌, ◌||◌, Bool, true, false, not, Option, Some, None, IfSome}
use Rattle.std.specs.Time.{FitsClock, instant_nanos}
use Rattle.std.specs.declared.time.Instant.{Instant}
use Rattle.server_rounds.specs.declared.slot.Arrival.{Arrival}
use Rattle.server_rounds.specs.declared.slot.Arrival.TheVariants.{Refused, Greeted, Lost}
use Rattle.server_rounds.specs.declared.slot.ClosedClient.{ClosedClient}
use Rattle.server_rounds.specs.declared.slot.ClosedTurn.{ClosedTurn}
use Rattle.server_rounds.specs.declared.slot.OpenClient.{OpenClient}
use Rattle.server_rounds.specs.declared.slot.OpenTurn.{OpenTurn}
use Rattle.server_rounds.specs.declared.slot.SlotState.{SlotState}
use Rattle.server_rounds.specs.declared.slot.SlotState.TheVariants.{Free, Open, Closed, Gone}
use Rattle.server_rounds.specs.declared.slot.Turn.{Turn}
use Rattle.server_rounds.specs.declared.slot.Turn.TheVariants as turn

abbrev pub is_free : SlotState → Bool
is_free Free = true
is_free _ = false

abbrev pub has_socket : SlotState → Bool
has_socket (Open client) = true
has_socket (Closed client) = true
has_socket _ = false

-- Something may have come by its client's socket, or there may be room for more.
abbrev pub is_ready : SlotState → Bool
is_ready (Open client) = client.is_ready
is_ready _ = false

-- Something was not done for its client for lack of memory.
abbrev pub is_starved : SlotState → Bool
is_starved (Open client) = client.is_starved
is_starved _ = false

-- Its client is closed, or gone and the player was not told yet.
abbrev pub is_leaving : SlotState → Bool
is_leaving (Closed client) = true
is_leaving Gone = true
is_leaving _ = false

-- Its client may have to be told something that it did not ask for.
abbrev pub may_wait : SlotState → Bool
may_wait (Open client) = client.may_wait
may_wait _ = false

-- Only an open session is read.
abbrev pub may_read : SlotState → Bool
may_read slot = is_ready slot || is_starved slot

-- who has a turn in each round
abbrev pub has_turn : SlotState → Bool
has_turn slot = may_read slot || is_leaving slot

-- What no socket tells of: that memory is there again, that a closed client's time has passed, that the player
-- can be told of one that is gone; and, where no other thread wakes the server, that a notice waits.
abbrev pub is_looked_at : Bool → SlotState → Bool
is_looked_at is_woken slot = is_starved slot || is_leaving slot || (may_wait slot && not is_woken)

abbrev pub is_known : SlotState → Bool
is_known (Closed client) = client.is_known
is_known _ = false

-- The player is to be told that a client is gone: one that is closed, or that has no socket any more.
abbrev pub owes_notice : SlotState → Bool
owes_notice (Closed client) = not client.is_known
owes_notice Gone = true
owes_notice _ = false

-- the system tells of an open client's socket, and perhaps that the peer ends
abbrev pub heard : Bool → SlotState → SlotState
heard ends (Open client) = Open (record client { is_ready = true; is_ending = client.is_ending || ends })
heard ends other = other

-- the player was told that a client is gone
abbrev pub told : SlotState → SlotState
told (Closed client) = Closed (record client { is_known = true })
told Gone = Free
told other = other

-- A free slot that is given to a client: the player knows each that it let in, so one without a session is not
-- forgotten.
abbrev pub arrived : Arrival → SlotState
arrived Refused = Free
arrived Greeted = Open (record { is_ready = true; is_ending = false; is_starved = false; may_wait = false })
arrived Lost = Gone

-- the slot of a client that is gone: free, once the player knows
abbrev pub freed : Bool → SlotState
freed true = Free
freed false = Gone

-- after a turn that left the session open: what was read may not be all that had come, or not up to its end
abbrev pub open_after : SlotState → OpenTurn → SlotState
open_after (Open client) turn = Open (record {
  is_ready = may_read (Open client) && not turn.lacks_memory && (not turn.is_drained || client.is_ending);
  is_ending = client.is_ending;
  is_starved = turn.lacks_memory;
  may_wait = turn.may_wait;
})
open_after other turn = other

-- whether answers are still written to a closed client
abbrev pub writes_on : ClosedTurn → Bool
writes_on turn = turn.has_unsent && not turn.gives_up

-- A closed client keeps its slot while answers are written to it and its time has not passed.
abbrev pub closed_after : Bool → Bool → Option Instant → SlotState
closed_after known true (Some leaves_by) = Closed (record { is_known = known; leaves_by = leaves_by })
closed_after known true None = freed known
closed_after known false left = freed known

abbrev pub state_after : SlotState → Turn → Option Instant → SlotState
state_after slot (turn.Open t) left = open_after slot t
state_after slot (turn.Closed t) left = closed_after (is_known slot || t.by_answer) (writes_on t) left
state_after slot turn.Killed left = slot

-- ten seconds from now, where the clock counts so far
abbrev pub IsTenSecondsFrom : Instant → Option Instant → Type 0
IsTenSecondsFrom now (Some t) = instant_nanos t ≡ instant_nanos now + 10_000_000_000
IsTenSecondsFrom now None = FitsClock (instant_nanos now + 10_000_000_000) → ⊥

-- until when a client may read that was closed before, if that is not past
abbrev pub IsLeftOf : Instant → Instant → Option Instant → Type 0
IsLeftOf leaves_by now (Some t) = (t ≡ leaves_by) × (instant_nanos now ≤ instant_nanos leaves_by)
IsLeftOf leaves_by now None = instant_nanos leaves_by < instant_nanos now

-- until when a closed client may read its last answers, if it may: it has ten seconds, from the turn that closed
-- it, by a clock that can be read
abbrev pub IsTimeLeft : SlotState → Option Instant → Option Instant → Type 0
IsTimeLeft slot None left = left ≡ None
IsTimeLeft (Closed client) (Some now) left = IsLeftOf client.leaves_by now left
IsTimeLeft _ (Some now) left = IsTenSecondsFrom now left
