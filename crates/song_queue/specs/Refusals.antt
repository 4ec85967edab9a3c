-- Why the queue refuses an edit: its positions, and the room and the ids for what is put in (MPD protocol
-- reference, The queue; the limits are this profile's).
use Rattle.std.specs.Prelude.{ℕ, ◌≢◌, ◌+◌, ◌-◌, ◌<◌, ◌≤◌, ◌⊎◌, length}
use Rattle.std.specs.declared.ops.Range.{Range}
use Rattle.song_queue.specs.State.{QueueState, queue_of}

-- no entry is at the position or after it
abbrev pub IsPastEnd : QueueState → ℕ → Type 0
IsPastEnd q position = length (queue_of q) ≤ position

-- a range ends before it starts, or after the queue
abbrev pub LiesOutside : QueueState → Range ℕ → Type 0
LiesOutside q range = (range.end < range.start) ⊎ (length (queue_of q) < range.end)

-- a range lies outside, or it has entries and their position is past the end of what is left
abbrev pub CannotMove : QueueState → Range ℕ → ℕ → Type 0
CannotMove q range to =
    (range.end < range.start)
    ⊎ (length (queue_of q) < range.end)
    ⊎ ((range.start ≢ range.end) × (length (queue_of q) < to + (range.end - range.start)))

-- the queue has the position, but no room for so many more entries
abbrev pub HasNoRoom : QueueState → ℕ → ℕ → Type 0
HasNoRoom q at count = (at ≤ length (queue_of q)) × (q.max_len < length (queue_of q) + count)

-- the queue has the position and the room, but no ids for so many more entries
abbrev pub HasNoIds : QueueState → ℕ → ℕ → Type 0
HasNoIds q at count =
    (at ≤ length (queue_of q)) × (length (queue_of q) + count ≤ q.max_len) × (q.max_id < q.greatest_id + count)
