-- Laws of the definitions, over every list of edits (this profile's, from the MPD protocol reference, The
-- queue).
use Rattle.std.specs.Prelude.{ℕ, ◌≡◌, ◌≢◌, ◌+◌, ◌-◌, ◌<◌, ◌≤◌, ◌⊎◌, not, List, [], ◌∷◌, ◌++◌, length, take, drop, swap, All, AllPairs, IsPermutation}
use Rattle.std.specs.List.{slice_range}
use Rattle.song_queue.specs.declared.edit.Edit.{Edit}
use Rattle.song_queue.specs.declared.edit.Edit.TheVariants.{Insert, Remove, Move, Prioritize, Swap, Shuffle}
use Rattle.queue_slots.specs.declared.entry.Entry.{Entry}
use Rattle.song_queue.specs.Entries.{same_queue, entries_for, moved_to, with_priority, patch, rows_at}
use Rattle.song_queue.specs.Shuffles.{shuffled}
use Rattle.song_queue.specs.Past.{present, number, version_of, after_event, greatest_id, state_of}
use Rattle.song_queue.specs.State.{QueueState, queue_of, opened, inserted, removed, moved, prioritized, swapped, shuffled_state, changed, differ}

-- the queue that an edit leaves
abbrev pub queue_after : List (List Entry) → Edit → List Entry
queue_after past (Insert at songs) = take at (present past) ++ entries_for (greatest_id past + 1) songs ++ drop at (present past)
queue_after past (Remove start end) = take start (present past) ++ drop end (present past)
queue_after past (Move start end to) = moved_to (present past) start end to
queue_after past (Prioritize ranges priority) = with_priority (present past) ranges priority
queue_after past (Swap a b) = swap (present past) a b
queue_after past (Shuffle start end words) = shuffled (present past) start end words

-- the past after edits
abbrev pub past_after : List (List Entry) → List Edit → List (List Entry)
past_after past [] = past
past_after past (edit ∷ edits) = past_after (after_event past (queue_after past edit)) edits

-- the state after an edit
abbrev pub state_after_edit : QueueState → Edit → QueueState
state_after_edit q (Insert at songs) = inserted q at songs
state_after_edit q (Remove start end) = removed q start end
state_after_edit q (Move start end to) = moved q start end to
state_after_edit q (Prioritize ranges priority) = prioritized q ranges priority
state_after_edit q (Swap a b) = swapped q a b
state_after_edit q (Shuffle start end words) = shuffled_state q start end words

-- the state after edits
abbrev pub state_after : QueueState → List Edit → QueueState
state_after q [] = q
state_after q (edit ∷ edits) = state_after (state_after_edit q edit) edits

-- the positions of an edit lie in the queue
abbrev pub FitsIn : List Entry → Edit → Type 0
FitsIn queue (Insert at songs) = at ≤ length queue
FitsIn queue (Remove start end) = (start ≤ end) × (end ≤ length queue)
FitsIn queue (Move start end to) = (start ≤ end) × (end ≤ length queue) × ((start ≡ end) ⊎ (to + (end - start) ≤ length queue))
FitsIn queue (Prioritize ranges priority) = All (λ r. (r.start ≤ r.end) × (r.end ≤ length queue)) ranges
FitsIn queue (Swap a b) = (a < length queue) × (b < length queue)
FitsIn queue (Shuffle start end words) = (start ≤ end) × (end ≤ length queue)

-- the queue can take the edit: its positions lie in it, and what is put in finds room and ids
abbrev pub Takes : QueueState → Edit → Type 0
Takes q (Insert at songs) = (at ≤ length (queue_of q)) × (length (queue_of q) + length songs ≤ q.max_len) × (q.greatest_id + length songs ≤ q.max_id)
Takes q (Remove start end) = (start ≤ end) × (end ≤ length (queue_of q))
Takes q (Move start end to) = (start ≤ end) × (end ≤ length (queue_of q)) × ((start ≡ end) ⊎ (to + (end - start) ≤ length (queue_of q)))
Takes q (Prioritize ranges priority) = All (λ r. (r.start ≤ r.end) × (r.end ≤ length (queue_of q))) ranges
Takes q (Swap a b) = (a < length (queue_of q)) × (b < length (queue_of q))
Takes q (Shuffle start end words) = (start ≤ end) × (end ≤ length (queue_of q))

-- each edit's positions lie in the queue that it finds
abbrev pub AllFitIn : List (List Entry) → List Edit → Type 0
AllFitIn past [] = Unit {0}
AllFitIn past (edit ∷ edits) = FitsIn (present past) edit × AllFitIn (after_event past (queue_after past edit)) edits

-- a past ends in the queue that the last event left, and is never without one; its state has that queue; an
-- empty queue's state begins it
pub record PastsKeepQueues : Type 0 where
  pub ends : (past : List (List Entry)) (queue : List Entry) → present (after_event past queue) ≡ queue
  pub stays : (past : List (List Entry)) (queue : List Entry) → 1 ≤ length past → 1 ≤ length (after_event past queue)
  pub shows : (max_len max_version max_id : ℕ) (past : List (List Entry)) → queue_of (state_of max_len max_version max_id past) ≡ present past
  pub begins : (max_len max_version max_id : ℕ) → 1 ≤ max_version → opened max_len max_version max_id ≡ state_of max_len max_version max_id ([] ∷ [])

-- an edit of the state at the end of a past gives the state at the end of the past with the queue that it
-- leaves
abbrev pub EditsFollowPast : Type 0
EditsFollowPast = (max_len max_version max_id : ℕ) (past : List (List Entry)) (edit : Edit) → 1 ≤ max_version → 1 ≤ length past
    → state_after_edit (state_of max_len max_version max_id past) edit ≡ state_of max_len max_version max_id (after_event past (queue_after past edit))

-- after any edits the version, stamps, marks and ids are those of the past
abbrev pub StatesFollowPasts : Type 0
StatesFollowPasts = (max_len max_version max_id : ℕ) (edits : List Edit) → 1 ≤ max_version
    → state_after (opened max_len max_version max_id) edits ≡ state_of max_len max_version max_id (past_after ([] ∷ []) edits)

-- two readings of the parity, before an edit and after it, differ exactly where it changed the queue
abbrev pub ParityTellsChanges : Type 0
ParityTellsChanges = (q : QueueState) (edit : Edit) → not (same_queue (queue_of q) (queue_of (state_after_edit q edit))) ≡ differ q.parity (state_after_edit q edit).parity

-- while versions have not begun anew, a client that knows an earlier queue, and patches it, has the present
-- one
abbrev pub PatchesGivePresent : Type 0
PatchesGivePresent = (max_len max_version max_id : ℕ) (newer older : List (List Entry)) (known : List Entry)
    → let past = newer ++ known ∷ older in
    number past < max_version → patch known (changed (state_of max_len max_version max_id past) (version_of max_version (number (known ∷ older)))) (length (present past)) ≡ present past

-- the same of the positions that a queue answers: with its entries at these positions, each earlier queue of the
-- version that was asked is patched to the present one
abbrev pub PatchesEarlier : QueueState → ℕ → List ℕ → Type 0
PatchesEarlier q version positions = (newer older : List (List Entry)) (known : List Entry)
    → let past = newer ++ known ∷ older in
    q ≡ state_of q.max_len q.max_version q.max_id past → number past < q.max_version → version ≡ version_of q.max_version (number (known ∷ older))
    → patch known (rows_at (queue_of q) positions) (length (present past)) ≡ present past

-- after any edits the ids of the present queue are distinct
abbrev pub IdsAreDistinct : Type 0
IdsAreDistinct = (edits : List Edit) → AllFitIn ([] ∷ []) edits → AllPairs (λ a b. a.id ≢ b.id) (present (past_after ([] ∷ []) edits))

-- a move keeps each entry: the moved ones are at the position in their order, and the others follow one another
-- as before
pub record MovesKeepEntries : Type 0 where
  pub permutes : (queue : List Entry) (start end to : ℕ) → start ≤ end → IsPermutation queue (moved_to queue start end to)
  pub positions : (queue : List Entry) (start end to : ℕ) → start ≤ end → end ≤ length queue → to + (end - start) ≤ length queue
      → slice_range (moved_to queue start end to) to (to + (end - start)) ≡ slice_range queue start end
  pub others : (queue : List Entry) (start end to : ℕ) → start ≤ end → end ≤ length queue → to + (end - start) ≤ length queue
      → take to (moved_to queue start end to) ++ drop (to + (end - start)) (moved_to queue start end to) ≡ take start queue ++ drop end queue

-- a shuffle keeps each entry, and those outside of its range stay at their positions
pub record ShufflesPermute : Type 0 where
  pub permutes : (queue : List Entry) (start end : ℕ) (words : List ℕ) → end ≤ length queue → IsPermutation queue (shuffled queue start end words)
  pub before : (queue : List Entry) (start end : ℕ) (words : List ℕ) → take start (shuffled queue start end words) ≡ take start queue
  pub behind : (queue : List Entry) (start end : ℕ) (words : List ℕ) → drop end (shuffled queue start end words) ≡ drop end queue

-- no entry has this id
abbrev pub Lacks : ℕ → List Entry → Type 0
Lacks id queue = All (λ e. e.id ≢ id) queue

-- an id that was given, and that no entry has any more, never comes back
abbrev pub IdsNeverReturn : Type 0
IdsNeverReturn = (past : List (List Entry)) (edits : List Edit) (id : ℕ) → 1 ≤ length past → id ≤ greatest_id past → Lacks id (present past) → Lacks id (present (past_after past edits))
