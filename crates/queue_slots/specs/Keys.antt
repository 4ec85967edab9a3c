-- The index, which says in which block each id was put last: what is noted there and what is forgotten.
use Rattle.std.specs.Prelude.{ℕ, ◌≡◌, ◌+◌, ◌≤◌, ◌⊎◌, ◌==◌, Bool, true, false, nat_eq, if◌then◌else◌, List, length, map, Some, None}
use Rattle.std.specs.List.{list_any}
use Rattle.std.specs.HashMap.{HashMap, get, spare}
use Rattle.queue_slots.specs.declared.entry.Slot.{Slot}

abbrev pub ids_of : List Slot → List ℕ
ids_of slots = map (λ s. s.entry.id) slots

abbrev pub is_one_of : ℕ → List ℕ → Bool
is_one_of id ids = list_any (λ other. other == id) ids

-- these ids have a key from now on, and each other one has what it had; an id that had none may lack it still,
-- but none does where there was room for all
pub record Notes {S : Type 0} (old new : HashMap ℕ ℕ S) (ids : List ℕ) (key : ℕ) : Type 0 where
  pub noted : (id : ℕ) → is_one_of id ids ≡ true → (get nat_eq new id ≡ Some key) ⊎ ((get nat_eq old id ≡ None) × (get nat_eq new id ≡ None))
  pub others : (id : ℕ) → is_one_of id ids ≡ false → get nat_eq new id ≡ get nat_eq old id
  pub all : length ids ≤ spare old → (id : ℕ) → is_one_of id ids ≡ true → get nat_eq new id ≡ Some key
  pub room : spare old ≤ spare new + length ids

-- these ids have no key any more, and each other one has what it had
abbrev pub Forgets : {S : Type 0} → HashMap ℕ ℕ S → HashMap ℕ ℕ S → List ℕ → Type 0
Forgets old new ids = (id : ℕ) → get nat_eq new id ≡ (if is_one_of id ids then None else get nat_eq old id)
