-- Where an entry is in a queue, and the queue without it.
use Rattle.std.proofs.Common.{◌≡◌, ℕ, suc, ◌+◌, ◌-◌, ◌<◌, ◌≤◌, Bool, true, false, not, nat_lt, ◌==◌, List, [], ◌∷◌, length, filter, slice_get, Option, Some, None, unwrap_or, ◌&&◌, refl, ap, sym, ◌∙◌, arith, cond}
use Rattle.std.specs.List.{position_or_len}
use Rattle.std.proofs.lemmas.Bool.{ltb-true, ltb-false}
use Rattle.song_queue.specs.declared.entry.Entry.{Entry}
use Rattle.song_queue.specs.declared.entry.Slot.{Slot}
use Rattle.song_queue.specs.State.{QueueState, entries_of, queue_of, position_of}
use Rattle.play_order.specs.Draws.{has_id}
use Rattle.play_order.specs.declared.modes.Modes.{Modes}
use Rattle.play_order.specs.Draws.{RoundState}
use Rattle.play_order.specs.Order.{entry_of, entry_position, left_by}
use Rattle.play_order.specs.Ends.{before, last_of, position_before, played_before}
use Rattle.play_order.proofs.Firsts.{Apart, Distinct}

position-slots : (slots : List Slot) (id : ℕ) → position_or_len (λ s. s.entry.id == id) slots ≡ entry_position (entries_of slots) id
position-slots [] id = refl
position-slots (s ∷ slots) id = ap (λ (n : ℕ). cond (not (s.entry.id == id)) (1 + n) 0) (position-slots slots id)

size-slots : (slots : List Slot) → length (entries_of slots) ≡ length slots
size-slots [] = refl
size-slots (s ∷ slots) = ap suc (size-slots slots)

found : (p n position : ℕ) → Some position ≡ cond (nat_lt p n) (Some p) None → (p ≡ position) × (p < n)
found p n position h =
    elim (nat_lt p n) as (λ v. nat_lt p n ≡ v → Some position ≡ cond v (Some p) None → (p ≡ position) × (p < n)) [
      | true ↦ λ e k. (cc, ltb-true p n e)
      | false ↦ λ e k. cc
    ] refl h

lost : (p n : ℕ) → None ≡ cond (nat_lt p n) (Some p) None → n ≤ p
lost p n h =
    elim (nat_lt p n) as (λ v. nat_lt p n ≡ v → None ≡ cond v (Some p) None → n ≤ p) [
      | true ↦ λ e k. cc
      | false ↦ λ e k. ltb-false p n e
    ] refl h

-- what the position of an id means
pub position-found : (q : QueueState) (id position : ℕ) → Some position ≡ position_of q id → (entry_position (queue_of q) id ≡ position) × (position < length (queue_of q))
position-found q id position h =
    let f = found (position_or_len (λ s. s.entry.id == id) q.slots) (length q.slots) position h in
    let e = position-slots q.slots id in
    let n = size-slots q.slots in
    (sym e ∙ f.0, omega (arith, f.0, f.1, n))

pub position-lost : (q : QueueState) (id : ℕ) → None ≡ position_of q id → length (queue_of q) ≤ entry_position (queue_of q) id
position-lost q id h =
    let l = lost (position_or_len (λ s. s.entry.id == id) q.slots) (length q.slots) h in
    let e = position-slots q.slots id in
    let n = size-slots q.slots in
    omega (arith, l, e, n)

pub position-most : (xs : List Entry) (id : ℕ) → entry_position xs id ≤ length xs
position-most [] id = omega arith
position-most (x ∷ xs) id = elim (has_id id x) as (λ v. cond (not v) (1 + entry_position xs id) 0 ≤ suc (length xs)) [ true ↦ omega arith | false ↦ omega (arith, position-most xs id) ]

others-all : (x : Entry) (id : ℕ) (xs : List Entry) → x.id ≡ id → Apart x xs → filter (λ e. not (has_id id e)) xs ≡ xs
others-all x id [] e h = refl
others-all x id (y ∷ ys) e h =
    let apart : has_id id y ≡ false = grind (arith, h.0) in
    rw apart (ap (λ r. y ∷ r) (others-all x id ys e h.1))

stepped : (x : Entry) (n : ℕ) (xs ys : List Entry) → left_by xs n (n + 1) ≡ ys → left_by (x ∷ xs) (1 + n) (1 + n + 1) ≡ x ∷ ys
stepped x n xs ys h =
    let one : 1 + n ≡ suc n = omega arith in
    let two : 1 + n + 1 ≡ suc (n + 1) = omega arith in
    ap (λ (k : ℕ). left_by (x ∷ xs) k (1 + n + 1)) one ∙ ap (λ (k : ℕ). left_by (x ∷ xs) (suc n) k) two ∙ ap (λ (r : List Entry). x ∷ r) h

-- what is before and after an entry is what the filter leaves
pub others-joined : (id : ℕ) (xs : List Entry) → Distinct xs → entry_position xs id < length xs → left_by xs (entry_position xs id) (entry_position xs id + 1) ≡ filter (λ e. not (has_id id e)) xs
others-joined id [] h l = absurd (omega arith)
others-joined id (x ∷ xs) h l =
    elim (has_id id x) as (λ v. has_id id x ≡ v → cond (not v) (1 + entry_position xs id) 0 < suc (length xs)
    → left_by (x ∷ xs) (cond (not v) (1 + entry_position xs id) 0) (cond (not v) (1 + entry_position xs id) 0 + 1) ≡ cond (not v) (x ∷ filter (λ e. not (has_id id e)) xs) (filter (λ e. not (has_id id e)) xs)) [
      | true ↦ λ e m. let same : x.id ≡ id = grind arith in sym (others-all x id xs same h.0)
      | false ↦ λ e m. stepped x (entry_position xs id) xs (filter (λ e. not (has_id id e)) xs) (others-joined id xs h.1 (omega arith))
    ] refl l

-- where no entry has the id, the filter leaves all
pub others-lost : (id : ℕ) (xs : List Entry) → length xs ≤ entry_position xs id → filter (λ e. not (has_id id e)) xs ≡ xs
others-lost id [] h = refl
others-lost id (x ∷ xs) h =
    elim (has_id id x) as (λ v. has_id id x ≡ v → suc (length xs) ≤ cond (not v) (1 + entry_position xs id) 0 → cond (not v) (x ∷ filter (λ e. not (has_id id e)) xs) (filter (λ e. not (has_id id e)) xs) ≡ x ∷ xs) [
      | true ↦ λ e m. absurd (omega arith)
      | false ↦ λ e m. ap (λ (r : List Entry). x ∷ r) (others-lost id xs (omega arith))
    ] refl h

pub position-or : (q : QueueState) (id : ℕ) (position : Option ℕ) (len : ℕ) → position ≡ position_of q id → len ≡ length (queue_of q) → unwrap_or position len ≡ entry_position (queue_of q) id
position-or q id None len h l = omega (arith, position-lost q id h, position-most (queue_of q) id)
position-or q id (Some position) len h l = sym (position-found q id position h).0

-- the song before, where the order is not random
pub before-first : (modes : Modes) (round : RoundState) (entries : List Entry) (id : ℕ) → modes.random ≡ false → modes.repeat ≡ true → entry_position entries id ≡ 0 → slice_get entries (length entries - 1) ≡ before modes round entries id
before-first modes round entries id h k l =
    ap (λ (n : ℕ). slice_get entries n)
    (sym (ap (λ (n : ℕ). position_before modes.repeat entries n) l ∙ ap (λ (b : Bool). cond b (length entries - 1) (0 - 1)) k))
    ∙ sym (ap (λ (b : Bool). cond b (entry_of entries (unwrap_or (last_of (played_before round id)) id)) (slice_get entries (position_before modes.repeat entries (entry_position entries id)))) h)

pub before-other : (modes : Modes) (round : RoundState) (entries : List Entry) (id : ℕ) → modes.random ≡ false → ((entry_position entries id == 0) && modes.repeat) ≡ false
    → slice_get entries (entry_position entries id - 1) ≡ before modes round entries id
before-other modes round entries id h k =
    ap (λ (n : ℕ). slice_get entries n) (sym (ap (λ (b : Bool). cond b (length entries - 1) (entry_position entries id - 1)) k))
    ∙ sym (ap (λ (b : Bool). cond b (entry_of entries (unwrap_or (last_of (played_before round id)) id)) (slice_get entries (position_before modes.repeat entries (entry_position entries id)))) h)
