-- The past of a queue: the present queue first, then each earlier one, and last the empty one. A queue joins
-- the past where it differs from the one before. The queue that has n below it is number n (MPD protocol
-- reference, The queue; what happens above the greatest version is this profile's).
use Rattle.std.specs.Prelude.{ℕ, zero, suc, ◌+◌, ◌-◌, ◌%◌, Bool, false, not, ◌&&◌, nat_lt, nat_le, if◌then◌else◌, List, [], ◌∷◌, length, map, slice_get, max}
use Rattle.std.specs.List.{enumerate_from}
use Rattle.queue_slots.specs.declared.entry.Entry.{Entry}
use Rattle.queue_slots.specs.declared.entry.Slot.{Slot}
use Rattle.song_queue.specs.Entries.{same_slot, same_queue}
use Rattle.song_queue.specs.State.{QueueState}

-- the present queue
abbrev pub present : List (List Entry) → List Entry
present [] = []
present (now ∷ older) = now

-- the number of the present queue
abbrev pub number : List (List Entry) → ℕ
number [] = 0
number (now ∷ older) = length older

-- whether a number is odd
abbrev pub is_odd : ℕ → Bool
is_odd zero = false
is_odd (suc n) = not (is_odd n)

-- the greatest id in a queue
abbrev pub greatest_in : List Entry → ℕ
greatest_in [] = 0
greatest_in (e ∷ es) = max e.id (greatest_in es)

-- the greatest id that was ever given
abbrev pub greatest_id : List (List Entry) → ℕ
greatest_id [] = 0
greatest_id (queue ∷ older) = max (greatest_in queue) (greatest_id older)

-- the past after an event that leaves this queue
abbrev pub after_event : List (List Entry) → List Entry → List (List Entry)
after_event past queue = if same_queue (present past) queue then past else queue ∷ past

-- the version of a queue by its number
abbrev pub version_of : ℕ → ℕ → ℕ
version_of max_version number = number % max_version + 1

-- the number of the last queue that differs from the one before at this slot
abbrev pub last_change : List (List Entry) → ℕ → ℕ
last_change [] slot = 0
last_change (now ∷ []) slot = 0
last_change (now ∷ before ∷ older) slot = if same_slot (slice_get before slot) (slice_get now slot) then last_change (before ∷ older) slot else length (before ∷ older)

-- the number at which versions last began anew: the greatest multiple of max_version up to the present number
abbrev pub last_wrap : ℕ → List (List Entry) → ℕ
last_wrap max_version past = number past - number past % max_version

-- the version of the queue at which the slot last changed
abbrev pub stamp : ℕ → List (List Entry) → ℕ → ℕ
stamp max_version past slot = version_of max_version (last_change past slot)

-- a slot is marked where it has not changed since versions began anew
abbrev pub is_marked : ℕ → List (List Entry) → ℕ → Bool
is_marked max_version past slot = nat_lt 0 (last_wrap max_version past) && nat_le (last_change past slot) (last_wrap max_version past)

-- what is in the slots, with their stamps and marks
abbrev pub slots_of : ℕ → List (List Entry) → List Slot
slots_of max_version past = map (λ p. record { entry = p.1; stamp = stamp max_version past p.0; marked = is_marked max_version past p.0 }) (enumerate_from 0 (present past))

-- the state at the end of a past
abbrev pub state_of : ℕ → ℕ → ℕ → List (List Entry) → QueueState
state_of max_len max_version max_id past = record {
  slots = slots_of max_version past;
  version = version_of max_version (number past);
  greatest_id = greatest_id past;
  max_len = max_len;
  max_version = max_version;
  max_id = max_id;
  parity = is_odd (number past);
}
