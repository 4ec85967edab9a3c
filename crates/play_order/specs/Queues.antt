-- What a round and its queue become together: by a shuffle, at the end of a song, and where entries are
-- taken out (MPD protocol reference, The queue; Controlling playback, `next`; rounds are this profile's).
use Rattle.std.specs.Prelude.{ℕ, ◌≡◌, ◌-◌, Bool, is_some, List, Option}
use Rattle.std.specs.declared.ops.Range.{Range}
use Rattle.song_queue.specs.declared.entry.Entry.{Entry}
use Rattle.song_queue.specs.State.{QueueState, edited, queue_of, shuffled_state}
use Rattle.play_order.specs.declared.modes.Modes.{Modes}
use Rattle.play_order.specs.Draws.{RoundState, LackIds, without, words_drawn}
use Rattle.play_order.specs.Order.{begun, ids_taken, left_by, next_of, round_for}
use Rattle.play_order.specs.Ends.{IsIdOf, after_end, after_next, next_after_removal, round_after_removal}

-- a round shuffles the entries from start up to end: it draws a word for each of their positions but the first
abbrev pub shuffled_by : RoundState → QueueState → ℕ → ℕ → QueueState
shuffled_by round queue start end = shuffled_state queue start end (words_drawn round.generator (end - start - 1))

-- the queue after the natural end of a song
abbrev pub queue_after_end : Modes → RoundState → QueueState → ℕ → QueueState
queue_after_end modes round queue id = edited queue (after_end modes round (queue_of queue) id).left

-- the queue after the end of a song by `next`
abbrev pub queue_after_next : Modes → RoundState → QueueState → ℕ → QueueState
queue_after_next modes round queue id = edited queue (after_next modes round (queue_of queue) id).left

-- the ids of the entries of a range
abbrev pub ids_in : QueueState → Range ℕ → List ℕ
ids_in queue range = ids_taken (queue_of queue) range.start range.end

-- an id is that of what starts where the entries of a range are taken out, of which one is current
abbrev pub IsNextAfterRemoval : Modes → RoundState → QueueState → Range ℕ → Option ℕ → Type 0
IsNextAfterRemoval modes round queue range id =
    IsIdOf (next_after_removal modes round (queue_of queue) range.start range.end) id

-- a round is the one from before when that has started
abbrev pub IsRoundAfterRemoval : Modes → RoundState → QueueState → Range ℕ → RoundState → Type 0
IsRoundAfterRemoval modes old queue range new =
    new ≡ round_after_removal modes old (queue_of queue) range.start range.end

-- what comes next where ids leave the round, and the entries from one position up to another the queue
abbrev pub next_without : Modes → RoundState → List ℕ → QueueState → ℕ → ℕ → ℕ → Option Entry
next_without modes round ids queue from end position =
    next_of modes (without round ids) (left_by (queue_of queue) from end) position

-- the round when it has started
abbrev pub round_without : Modes → RoundState → List ℕ → QueueState → ℕ → ℕ → ℕ → RoundState
round_without modes round ids queue from end position =
    begun modes (round_for modes (without round ids) (left_by (queue_of queue) from end))
    (next_without modes round ids queue from end position)

-- it tells whether an entry starts where some leave the queue and the round loses ids that no other has
abbrev pub TellsStart : Bool → Modes → RoundState → QueueState → ℕ → ℕ → ℕ → Type 0
TellsStart starts modes round queue from end position =
    (ids : List ℕ)
    → LackIds (left_by (queue_of queue) from end) ids
    → starts ≡ is_some (next_without modes round ids queue from end position)
