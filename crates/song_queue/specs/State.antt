-- A queue with the stamps and marks of its slots, and what an edit makes of it (MPD protocol reference, The
-- queue; the marks at a wrap are this profile's).
use Rattle.std.specs.Prelude.{ℕ, ◌≢◌, ◌+◌, ◌<◌, ◌≤◌, Bool, false, not, ◌==◌, if◌then◌else◌, List, [], ◌∷◌, ◌++◌, length, take, drop, map, filter, swap, All, AllPairs, Option, position}
use Rattle.std.specs.Bool.{beq}
use Rattle.std.specs.List.{enumerate_from}
use Rattle.std.specs.declared.ops.Range.{Range}
use Rattle.mpd_text.specs.Songs.Song.{SongData}
use Rattle.queue_slots.specs.declared.entry.Entry.{Entry}
use Rattle.queue_slots.specs.declared.entry.Slot.{Slot}
pub use Rattle.queue_slots.specs.Slots.{entries_of, written, kept, prioritized_slot, write_at, is_shown}
use Rattle.song_queue.specs.Entries.{same_entry, same_queue, entries_for, moved_to, with_priority}
use Rattle.song_queue.specs.Shuffles.{shuffled}

-- slots, the version of the last change, the greatest id that was given, the limits, and whether the number
-- of changes is odd, so that two readings of it tell whether an edit between them changed the queue
pub record QueueState : Type 0 where
  pub slots : List Slot
  pub version : ℕ
  pub greatest_id : ℕ
  pub max_len : ℕ
  pub max_version : ℕ
  pub max_id : ℕ
  pub parity : Bool

abbrev pub queue_of : QueueState → List Entry
queue_of q = entries_of q.slots

-- the slots that hold these entries next, compared one by one with what they held
abbrev pub restamped : ℕ → Bool → List Slot → List Entry → List Slot
restamped version wraps slots [] = []
restamped version wraps [] (e ∷ es) = written version wraps e ∷ restamped version wraps [] es
restamped version wraps (s ∷ ss) (e ∷ es) = (if same_entry s.entry e then kept wraps s else written version wraps e) ∷ restamped version wraps ss es

-- a slot by the id that it is to hold: kept where its entry has the id, else new at this version
abbrev pub stamped_slot : ℕ → Bool → ℕ → Slot → Slot
stamped_slot version wraps id slot = if slot.entry.id == id then kept wraps slot else written version wraps slot.entry

-- the slots after those are written whose entry has another id than this one, and the others kept
abbrev pub stamped_by : ℕ → Bool → List ℕ → List Slot → List Slot
stamped_by version wraps [] slots = slots
stamped_by version wraps (id ∷ ids) [] = []
stamped_by version wraps (id ∷ ids) (s ∷ ss) = stamped_slot version wraps id s ∷ stamped_by version wraps ids ss

-- whether the next version begins anew
abbrev pub wraps : QueueState → Bool
wraps q = q.version == q.max_version

abbrev pub next_version : QueueState → ℕ
next_version q = if wraps q then 1 else q.version + 1

-- the state after an edit that leaves these entries
abbrev pub edited : QueueState → List Entry → QueueState
edited q entries = if same_queue (queue_of q) entries then q else record q { slots = restamped (next_version q) (wraps q) q.slots entries; version = next_version q; parity = not q.parity }

-- songs are put in before the entry at a position
abbrev pub inserted : QueueState → ℕ → List SongData → QueueState
inserted q at songs =
    record (edited q (take at (queue_of q) ++ entries_for (q.greatest_id + 1) songs ++ drop at (queue_of q))) { greatest_id = q.greatest_id + length songs }

-- the entries from start up to end are taken out
abbrev pub removed : QueueState → ℕ → ℕ → QueueState
removed q start end = edited q (take start (queue_of q) ++ drop end (queue_of q))

-- the entries from start up to end are taken out, and put back so that the first of them is at a position of
-- what is left
abbrev pub moved : QueueState → ℕ → ℕ → ℕ → QueueState
moved q start end to = edited q (moved_to (queue_of q) start end to)

-- each entry whose position is in one of the ranges gets a priority
abbrev pub prioritized : QueueState → List (Range ℕ) → ℕ → QueueState
prioritized q ranges priority = edited q (with_priority (queue_of q) ranges priority)

-- the entries at two positions are swapped
abbrev pub swapped : QueueState → ℕ → ℕ → QueueState
swapped q a b = edited q (swap (queue_of q) a b)

-- the entries from start up to end are shuffled by words
abbrev pub shuffled_state : QueueState → ℕ → ℕ → List ℕ → QueueState
shuffled_state q start end words = edited q (shuffled (queue_of q) start end words)

-- the position of the entry with an id
abbrev pub position_of : QueueState → ℕ → Option ℕ
position_of q id = position (λ s. s.entry.id == id) q.slots

-- the queue has an entry at the position, and the position after it is a number of 64 bits
abbrev pub HasPosition : QueueState → ℕ → Type 0
HasPosition q position = (position < length (queue_of q)) × (position < 18446744073709551615)

-- whether a slot of a queue is shown to a client that knows a version
abbrev pub is_changed : QueueState → ℕ → Slot → Bool
is_changed q version slot = is_shown version q.version slot

-- the changed slots in rising order, each with its entry
abbrev pub changed : QueueState → ℕ → List (ℕ × Entry)
changed q version = map (λ p. (p.0, p.1.entry)) (filter (λ p. is_changed q version p.1) (enumerate_from 0 q.slots))

-- an empty queue that has not been edited
abbrev pub opened : ℕ → ℕ → ℕ → QueueState
opened max_len max_version max_id = record { slots = []; version = 1; greatest_id = 0; max_len = max_len; max_version = max_version; max_id = max_id; parity = false }

-- whether two bits differ
abbrev pub differ : Bool → Bool → Bool
differ a b = not (beq a b)

-- what is true of each queue
pub record IsQueue (q : QueueState) : Type 0 where
  pub len : length q.slots ≤ q.max_len
  pub version : (1 ≤ q.version) × (q.version ≤ q.max_version)
  pub ids : All (λ e. e.id ≤ q.greatest_id) (queue_of q)
  pub distinct : AllPairs (λ e f. e.id ≢ f.id) (queue_of q)
  pub greatest_id : q.greatest_id ≤ q.max_id
