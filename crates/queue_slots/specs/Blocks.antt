-- Slots in blocks: lists that are joined end to end.
use Rattle.std.specs.Prelude.{ℕ, ◌≡◌, ◌≢◌, ◌+◌, ◌≤◌, ◌<◌, ◌⊎◌, slice_index_or, slice_set, Bool, false, if◌then◌else◌, List, [], ◌∷◌, ◌++◌, length, take, drop, map, filter, swap, All}
use Rattle.std.specs.List.{flat_map, slice_range, enumerate_from, insert, remove}
use Rattle.queue_slots.specs.declared.entry.Slot.{Slot}
use Rattle.queue_slots.specs.Slots.{kept, written, write_at, entries_of, prioritized_slot, is_shown}

-- the slots of all blocks
abbrev pub joined : List (List Slot) → List Slot
joined blocks = flat_map (λ b. b) blocks

-- slots that show one stamp and mark for all, if they are alike
abbrev pub shown_as : Bool → ℕ → Bool → List Slot → List Slot
shown_as alike top marked slots = if alike then map (written top marked) (entries_of slots) else slots

-- no stamp is above the top, and none is marked where none is said to be
abbrev pub IsWithin : ℕ → Bool → List Slot → Type 0
IsWithin top marked [] = Unit {0}
IsWithin top marked (s ∷ ss) = (s.stamp ≤ top) × (marked ≡ false → s.marked ≡ false) × IsWithin top marked ss

-- how many slots a block has
abbrev pub block_len : List (List Slot) → ℕ → ℕ
block_len blocks at = length (slice_index_or blocks at [])

-- two neighbours together are more than one block may have
abbrev pub IsPaired : List (List Slot) → Type 0
IsPaired blocks = (k : ℕ) → k + 1 < length blocks → 256 < block_len blocks k + block_len blocks (k + 1)

-- where a position is, counted from block `from` on: behind the blocks up to `at`, so many slots into that one
pub record IsSpot (blocks : List (List Slot)) (from position at offset : ℕ) : Type 0 where
  pub low : from ≤ at
  pub high : at ≤ length blocks
  pub sum : length (joined (slice_range blocks from at)) + offset ≡ position
  pub inside : ((at ≡ length blocks) × (offset ≡ 0)) ⊎ ((at < length blocks) × (offset < block_len blocks at))

-- blocks cut so that a position, counted from block `from` on, is where block `at` begins
pub record IsCut (old new : List (List Slot)) (from position at : ℕ) : Type 0 where
  pub front : take from new ≡ take from old
  pub low : from ≤ at
  pub within : at ≤ length new
  pub middle : joined (slice_range new from at) ≡ take position (joined (drop from old))
  pub back : joined (drop at new) ≡ drop position (joined (drop from old))

-- blocks cut at three positions, where blocks i, j and k begin
pub record IsParted (slots : List Slot) (new : List (List Slot)) (low middle high i j k : ℕ) : Type 0 where
  pub first : i ≤ j
  pub second : j ≤ k
  pub within : k ≤ length new
  pub front : joined (take i new) ≡ take low slots
  pub left : joined (slice_range new i j) ≡ slice_range slots low middle
  pub right : joined (slice_range new j k) ≡ slice_range slots middle high
  pub back : joined (drop k new) ≡ drop high slots

-- the positions of the slots that are shown to a client that knows a version, where the first slot is at a position
abbrev pub shown_from : ℕ → ℕ → ℕ → List Slot → List ℕ
shown_from version present at slots =
    map (λ p. p.0) (filter (λ p. is_shown version present p.1) (enumerate_from at slots))

-- the position of a slot, if it is shown
abbrev pub position_if_shown : ℕ → ℕ → ℕ → Slot → List ℕ
position_if_shown version present position slot = if is_shown version present slot then position ∷ [] else []

-- blocks of which one was cut: what stays of it
abbrev pub with_block_cut : List (List Slot) → ℕ → ℕ → List (List Slot)
with_block_cut blocks at offset = slice_set blocks at (take offset (slice_index_or blocks at []))

-- the slot at a position has this id
abbrev pub HasIdAt : ℕ → List Slot → ℕ → Type 0
HasIdAt id slots position = (position < length slots) × ((d : Slot) → (slice_index_or slots position d).entry.id ≡ id)

-- no slot has this id
abbrev pub NoneHas : ℕ → List Slot → Type 0
NoneHas id slots = All (λ s. s.entry.id ≢ id) slots

-- a block that takes up the next one
abbrev pub with_joined_next : List (List Slot) → ℕ → List (List Slot)
with_joined_next blocks at =
    slice_set (remove blocks (at + 1)) at (slice_index_or blocks at [] ++ slice_index_or blocks (at + 1) [])

-- the slots of blocks, where those from one block on are written, and those before it kept
abbrev pub written_behind : ℕ → Bool → List (List Slot) → ℕ → List Slot
written_behind version wraps blocks from =
    map (kept wraps) (joined (take from blocks)) ++ map (written version wraps) (entries_of (joined (drop from blocks)))

-- the slots of blocks, where those from block i up to j and from there up to k are exchanged: they are
-- written, others kept
abbrev pub with_blocks_rotated : ℕ → Bool → List (List Slot) → ℕ → ℕ → ℕ → List Slot
with_blocks_rotated version wraps blocks i j k =
    map (kept wraps) (joined (take i blocks))
    ++ map (written version wraps) (entries_of (joined (slice_range blocks j k) ++ joined (slice_range blocks i j)))
    ++ map (kept wraps) (joined (drop k blocks))

-- the slots of blocks, where the entries in those from one block up to another get a priority
abbrev pub with_blocks_prioritized : ℕ → Bool → ℕ → List (List Slot) → ℕ → ℕ → List Slot
with_blocks_prioritized version wraps priority blocks from to =
    joined (take from blocks)
    ++ (map (prioritized_slot version wraps priority) (joined (slice_range blocks from to)) ++ joined (drop to blocks))

-- the entries from start up to end get a priority
abbrev pub with_part_prioritized : ℕ → Bool → ℕ → List Slot → ℕ → ℕ → List Slot
with_part_prioritized version wraps priority slots start end =
    take start slots ++ (map (prioritized_slot version wraps priority) (slice_range slots start end) ++ drop end slots)

-- the entries of two slots are swapped: both slots are written
abbrev pub with_exchanged : ℕ → Bool → List Slot → ℕ → ℕ → List Slot
with_exchanged version wraps slots a b = write_at version wraps (write_at version wraps (swap slots a b) a) b

-- one slot of one block becomes another
abbrev pub with_slot_changed : List (List Slot) → ℕ → ℕ → Slot → List (List Slot)
with_slot_changed blocks at offset slot = slice_set blocks at (slice_set (slice_index_or blocks at []) offset slot)

-- one slot is taken out of one block
abbrev pub with_slot_pulled : List (List Slot) → ℕ → ℕ → List (List Slot)
with_slot_pulled blocks at offset = slice_set blocks at (remove (slice_index_or blocks at []) offset)

-- one slot is put into one block
abbrev pub with_slot_put : List (List Slot) → ℕ → ℕ → Slot → List (List Slot)
with_slot_put blocks at offset slot = slice_set blocks at (insert (slice_index_or blocks at []) offset slot)
