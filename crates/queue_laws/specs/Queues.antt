-- A queue before and after a command, as a client sees it that knows the reference alone (MPD protocol
-- reference, The Queue): which entries are at which positions, with their ids, songs and priorities.
use Rattle.std.specs.Prelude.{◌≡◌, ◌≢◌, ℕ, ◌+◌, ◌<◌, Bool, true, false, not, ◌==◌, nat_le, List, length, map, filter, Contains, IsPermutation, Some, slice_get}
use Rattle.std.specs.List.{range_with_len}
use Rattle.mpd_text.specs.Songs.Song.{SongData}
use Rattle.queue_slots.specs.declared.entry.Entry.{Entry}
use Rattle.queue_laws.specs.Positions.{at_positions, is_between, picked_in_turn}

-- the entry at a position has this id
abbrev pub HasAt : List Entry → ℕ → ℕ → Type 0
HasAt queue position id = (entry : Entry) × (slice_get queue position ≡ Some entry) × (entry.id ≡ id)

-- whether an entry has another id
abbrev pub is_other : ℕ → Entry → Bool
is_other id entry = not (entry.id == id)

-- the entries at some positions leave, and all others stay in their order
abbrev pub Deletes : (ℕ → Bool) → List Entry → List Entry → Type 0
Deletes which before after = after ≡ at_positions (λ position. not (which position)) before

-- the entry with an id leaves, and all others stay in their order
pub record DeletesId (id : ℕ) (before after : List Entry) : Type 0 where
  pub there : (position : ℕ) × HasAt before position id
  pub others : after ≡ filter (is_other id) before

-- the entries at some positions are at a position and those behind it, in their order, and the others follow one
-- another as before
pub record Moves (which : ℕ → Bool) (to : ℕ) (before after : List Entry) : Type 0 where
  pub moved :
      at_positions (is_between to (to + length (at_positions which before))) after ≡ at_positions which before
  pub others :
      at_positions (λ position. not (is_between to (to + length (at_positions which before)) position)) after
      ≡ at_positions (λ position. not (which position)) before

-- the entry with an id is at a position, and the others follow one another as before; there is no more
pub record MovesId (id to : ℕ) (before after : List Entry) : Type 0 where
  pub long : length after ≡ length before
  pub moved : (entry : Entry) × Contains before entry × (entry.id ≡ id) × (slice_get after to ≡ Some entry)
  pub others : filter (is_other id) after ≡ filter (is_other id) before

-- the entries at two positions of the queue are swapped, and every other position has what it had
pub record Swaps (a b : ℕ) (before after : List Entry) : Type 0 where
  pub there : (a < length before) × (b < length before)
  pub first : slice_get after a ≡ slice_get before b
  pub second : slice_get after b ≡ slice_get before a
  pub others : (position : ℕ) → position ≢ a → position ≢ b → slice_get after position ≡ slice_get before position

-- the same of the entries with two ids
abbrev pub SwapsIds : ℕ → ℕ → List Entry → List Entry → Type 0
SwapsIds first second before after =
    (a b : ℕ) × HasAt before a first × HasAt before b second × Swaps a b before after

-- the entries at some positions are there in the order in which numbers pick them, each of them once, and every
-- other position has what it had
pub record Shuffles (numbers : List ℕ) (which : ℕ → Bool) (before after : List Entry) : Type 0 where
  pub permuted : IsPermutation (at_positions which before) (at_positions which after)
  pub picked : at_positions which after ≡ picked_in_turn numbers (at_positions which before)
  pub others : (position : ℕ) → which position ≡ false → slice_get after position ≡ slice_get before position

-- an entry except for its priority
abbrev pub but_for_priority : Entry → ℕ × SongData
but_for_priority entry = (entry.id, entry.song)

-- The queue is the same except for priorities; each entry at some positions has the given one, and all others have
-- theirs.
pub record Prioritizes (which : ℕ → Bool) (priority : ℕ) (before after : List Entry) : Type 0 where
  pub same : map but_for_priority after ≡ map but_for_priority before
  pub given :
      (position : ℕ) (entry : Entry) → which position ≡ true → slice_get after position ≡ Some entry → entry.priority ≡ priority
  pub others : (position : ℕ) → which position ≡ false → slice_get after position ≡ slice_get before position

-- the same of the entries with some ids, of which the queue has each
pub record PrioritizesIds (ids : List ℕ) (priority : ℕ) (before after : List Entry) : Type 0 where
  pub there : (id : ℕ) → Contains ids id → (position : ℕ) × HasAt before position id
  pub same : map but_for_priority after ≡ map but_for_priority before
  pub given :
      (position : ℕ) (entry : Entry) → slice_get after position ≡ Some entry → Contains ids entry.id
      → entry.priority ≡ priority
  pub others :
      (position : ℕ) (entry : Entry) → slice_get before position ≡ Some entry → (Contains ids entry.id → ⊥)
      → slice_get after position ≡ Some entry

-- Songs come to a position, where up to a greatest id each was given: without the new entries the queue is the one
-- before; the new ones are side by side, the first of them at the position; they have these songs in their order,
-- the ids after the greatest, and no priority. So an entry is new exactly where its id was never given.
pub record Adds (greatest : ℕ) (songs : List SongData) (at : ℕ) (before after : List Entry) : Type 0 where
  pub old : at_positions (λ position. not (is_between at (at + length songs) position)) after ≡ before
  pub songs_there : map (λ (e : Entry). e.song) (at_positions (is_between at (at + length songs)) after) ≡ songs
  pub ids :
      map (λ (e : Entry). e.id) (at_positions (is_between at (at + length songs)) after)
      ≡ range_with_len (greatest + 1) (length songs)
  pub priorities :
      (entry : Entry) → Contains (at_positions (is_between at (at + length songs)) after) entry → entry.priority ≡ 0
  pub known : filter (λ (e : Entry). nat_le e.id greatest) after ≡ before
