-- Slots of a queue: what edits write and keep (MPD protocol reference, The queue; the marks at a wrap are
-- this profile's).
use Rattle.std.specs.Prelude.{ℕ, zero, suc, ◌+◌, ◌-◌, Bool, ◌||◌, nat_lt, ◌==◌, if◌then◌else◌, List, [], ◌∷◌, ◌++◌, length, map, filter, take, drop}
use Rattle.std.specs.List.{enumerate_from, slice_range}
use Rattle.queue_slots.specs.declared.entry.Entry.{Entry}
use Rattle.queue_slots.specs.declared.entry.Slot.{Slot}

abbrev pub entries_of : List Slot → List Entry
entries_of slots = map (λ s. s.entry) slots

-- a slot whose entry is new at this version
abbrev pub written : ℕ → Bool → Entry → Slot
written version wraps entry = record { entry = entry; stamp = version; marked = wraps }

-- a slot whose entry stays
abbrev pub kept : Bool → Slot → Slot
kept wraps slot = record { entry = slot.entry; stamp = slot.stamp; marked = wraps || slot.marked }

-- a slot whose entry gets a priority: new at this version where that changes it
abbrev pub prioritized_slot : ℕ → Bool → ℕ → Slot → Slot
prioritized_slot version wraps priority slot = if slot.entry.priority == priority then slot else written version wraps (record slot.entry { priority = priority })

-- the slots after one is written with the entry that it has
abbrev pub write_at : ℕ → Bool → List Slot → ℕ → List Slot
write_at version wraps [] position = []
write_at version wraps (s ∷ ss) zero = written version wraps s.entry ∷ ss
write_at version wraps (s ∷ ss) (suc position) = s ∷ write_at version wraps ss position

-- whether a slot is shown to a client that knows a version, where another one is present
abbrev pub is_shown : ℕ → ℕ → Slot → Bool
is_shown version present slot = slot.marked || nat_lt version slot.stamp || nat_lt present version

-- the positions of the slots that are shown to a client that knows a version, where another one is present
abbrev pub positions_shown : ℕ → ℕ → List Slot → List ℕ
positions_shown version present slots = map (λ p. p.0) (filter (λ p. is_shown version present p.1) (enumerate_from 0 slots))

-- the slots before a position are kept, and from there on these entries are written
abbrev pub written_from : ℕ → Bool → List Slot → ℕ → List Entry → List Slot
written_from version wraps slots position entries = map (kept wraps) (take position slots) ++ map (written version wraps) entries

-- slots are put in at a position: they and all after them are written, and those before them kept
abbrev pub with_put_in : ℕ → Bool → List Slot → ℕ → List Slot → List Slot
with_put_in version wraps slots at added =
    written_from version wraps slots at (entries_of added ++ drop at (entries_of slots))

-- the slots from start up to end are taken out: all after them are written, and those before them kept
abbrev pub with_taken_out : ℕ → Bool → List Slot → ℕ → ℕ → List Slot
with_taken_out version wraps slots start end = written_from version wraps slots start (drop end (entries_of slots))

-- two parts are exchanged, from low up to middle and from there up to high: they are written, others kept
abbrev pub with_parts_rotated : ℕ → Bool → List Slot → ℕ → ℕ → ℕ → List Slot
with_parts_rotated version wraps slots low middle high =
    written_from version wraps slots low (entries_of (slice_range slots middle high ++ slice_range slots low middle))
    ++ map (kept wraps) (drop high slots)

-- slots are put back from a position on, each in place of another
abbrev pub with_put_back : List Slot → ℕ → List Slot → List Slot
with_put_back slots start part = take start slots ++ (part ++ drop (start + length part) slots)

-- so many elements from a position on are moved to the end
abbrev pub with_moved_to_end : {X : Type 0} → List X → ℕ → ℕ → List X
with_moved_to_end xs start count = take start xs ++ (drop count (drop start xs) ++ take count (drop start xs))

-- so many elements at the end are moved to a position
abbrev pub with_end_moved_to : {X : Type 0} → List X → ℕ → ℕ → List X
with_end_moved_to xs at count =
    take at xs ++ (drop (length xs - count) xs ++ take (length xs - count - at) (drop at xs))
