-- What the slots of a block show.
use Rattle.std.proofs.Common.{◌≡◌, ℕ, zero, suc, not, ◌+◌, cond, ltb, Some, None, ◌≤◌, Bool, true, false, ◌||◌, List, [], ◌∷◌, ◌++◌, length, map, take, drop, set, refl, ap, sym, subst, inl, inr, ◌∙◌, arith}
use Rattle.std.specs.List.{drop-map, take-map, insert, remove}
use Rattle.std.proofs.lemmas.List.{length-map}
use Rattle.std.proofs.lemmas.List.Elements.{All-cons, All-head, All-tail}
use Rattle.std.proofs.lemmas.Bool.{cases_Bool, cond-true, cond-false}
use Rattle.std.specs.Prelude.{◌==◌, All, position}
use Rattle.std.specs.List.{position_or_len}
use Rattle.queue_slots.specs.declared.entry.Entry.{Entry}
use Rattle.queue_slots.specs.declared.entry.Slot.{Slot}
use Rattle.queue_slots.specs.Slots.{kept, written, entries_of, prioritized_slot}
use Rattle.queue_slots.specs.Blocks.{shown_as, IsWithin}

pub entries_of-written : (v : ℕ) (w : Bool) (es : List Entry) → entries_of (map (written v w) es) ≡ es
entries_of-written v w [] = refl
entries_of-written v w (e ∷ es) = λ i. e ∷ entries_of-written v w es i

pub entries_of-shown_as : (a : Bool) (t : ℕ) (m : Bool) (ss : List Slot) → entries_of (shown_as a t m ss) ≡ entries_of ss
entries_of-shown_as true t m ss = entries_of-written t m (entries_of ss)
entries_of-shown_as false t m ss = refl

pub length-shown_as : (a : Bool) (t : ℕ) (m : Bool) (ss : List Slot) → length (shown_as a t m ss) ≡ length ss
length-shown_as true t m ss = length-map (entries_of ss) (written t m) ∙ length-map ss (λ (s : Slot). s.entry)
length-shown_as false t m ss = refl

pub take-shown_as : (a : Bool) (t : ℕ) (m : Bool) (n : ℕ) (ss : List Slot) → take n (shown_as a t m ss) ≡ shown_as a t m (take n ss)
take-shown_as true t m n ss = take-map (written t m) n (entries_of ss) ∙ ap (map (written t m)) (take-map (λ (s : Slot). s.entry) n ss)
take-shown_as false t m n ss = refl

pub drop-shown_as : (a : Bool) (t : ℕ) (m : Bool) (n : ℕ) (ss : List Slot) → drop n (shown_as a t m ss) ≡ shown_as a t m (drop n ss)
drop-shown_as true t m n ss = drop-map (written t m) n (entries_of ss) ∙ ap (map (written t m)) (drop-map (λ (s : Slot). s.entry) n ss)
drop-shown_as false t m n ss = refl

-- kept with a mark, where all show one stamp
pub entries_of-kept : (w : Bool) (ss : List Slot) → entries_of (map (kept w) ss) ≡ entries_of ss
entries_of-kept w [] = refl
entries_of-kept w (s ∷ ss) = λ i. s.entry ∷ entries_of-kept w ss i

pub map-written : (v : ℕ) (w : Bool) (ss : List Slot) → map (λ (s : Slot). written v w s.entry) ss ≡ map (written v w) (entries_of ss)
map-written v w [] = refl
map-written v w (s ∷ ss) = λ i. written v w s.entry ∷ map-written v w ss i

pub map-kept_false : (ss : List Slot) → map (kept false) ss ≡ ss
map-kept_false [] = refl
map-kept_false (s ∷ ss) = λ i. s ∷ map-kept_false ss i

pub kept-shown_as : (t : ℕ) (m : Bool) (es : List Entry) → map (kept true) (map (written t m) es) ≡ map (written t true) es
kept-shown_as t m [] = refl
kept-shown_as t m (e ∷ es) = λ i. written t true e ∷ kept-shown_as t m es i

pub IsWithin-written : (v : ℕ) (w : Bool) (es : List Entry) → IsWithin v w (map (written v w) es)
IsWithin-written v w [] = tt
IsWithin-written v w (e ∷ es) = (omega arith, λ e. e, IsWithin-written v w es)

pub IsWithin-take : (t : ℕ) (m : Bool) (n : ℕ) (ss : List Slot) → IsWithin t m ss → IsWithin t m (take n ss)
IsWithin-take t m zero ss h = tt
IsWithin-take t m (suc n) [] h = tt
IsWithin-take t m (suc n) (s ∷ ss) h = (h.0, h.1, IsWithin-take t m n ss h.2)

pub IsWithin-drop : (t : ℕ) (m : Bool) (n : ℕ) (ss : List Slot) → IsWithin t m ss → IsWithin t m (drop n ss)
IsWithin-drop t m zero ss h = h
IsWithin-drop t m (suc n) [] h = tt
IsWithin-drop t m (suc n) (s ∷ ss) h = IsWithin-drop t m n ss h.2

pub IsWithin-more : (t u : ℕ) (m n : Bool) (ss : List Slot) → t ≤ u → (n ≡ false → m ≡ false) → IsWithin t m ss → IsWithin u n ss
IsWithin-more t u m n [] le clear h = tt
IsWithin-more t u m n (s ∷ ss) le clear h = (let here = h.0 in omega arith, λ e. h.1 (clear e), IsWithin-more t u m n ss le clear h.2)

pub IsWithin-append : (t : ℕ) (m : Bool) (ss xs : List Slot) → IsWithin t m ss → IsWithin t m xs → IsWithin t m (ss ++ xs)
IsWithin-append t m [] xs h k = k
IsWithin-append t m (s ∷ ss) xs h k = (h.0, h.1, IsWithin-append t m ss xs h.2 k)

pub IsWithin-insert : (t : ℕ) (m : Bool) (ss : List Slot) (at : ℕ) (s : Slot) → s.stamp ≤ t → (m ≡ false → s.marked ≡ false) → IsWithin t m ss → IsWithin t m (insert ss at s)
IsWithin-insert t m ss at s le clear h = IsWithin-append t m (take at ss) (s ∷ drop at ss) (IsWithin-take t m at ss h) (le, clear, IsWithin-drop t m at ss h)

pub IsWithin-remove : (t : ℕ) (m : Bool) (ss : List Slot) (at : ℕ) → IsWithin t m ss → IsWithin t m (remove ss at)
IsWithin-remove t m ss at h = IsWithin-append t m (take at ss) (drop (suc at) ss) (IsWithin-take t m at ss h) (IsWithin-drop t m (suc at) ss h)

pub IsWithin-set : (t : ℕ) (m : Bool) (ss : List Slot) (at : ℕ) (s : Slot) → s.stamp ≤ t → (m ≡ false → s.marked ≡ false) → IsWithin t m ss → IsWithin t m (set ss at s)
IsWithin-set t m [] at s le clear h = tt
IsWithin-set t m (x ∷ xs) zero s le clear h = (le, clear, h.2)
IsWithin-set t m (x ∷ xs) (suc at) s le clear h = (h.0, h.1, IsWithin-set t m xs at s le clear h.2)

pub IsWithin-marked : (t : ℕ) (m : Bool) (ss : List Slot) → IsWithin t m ss → IsWithin t true (map (kept true) ss)
IsWithin-marked t m [] h = tt
IsWithin-marked t m (s ∷ ss) h = (h.0, λ e. e, IsWithin-marked t m ss h.2)

-- marked, in the slots and for all
pub marked-shown_as : (a : Bool) (t : ℕ) (m : Bool) (ss : List Slot) → shown_as a t true (map (kept true) ss) ≡ map (kept true) (shown_as a t m ss)
marked-shown_as true t m ss = ap (map (written t true)) (entries_of-kept true ss) ∙ sym (kept-shown_as t m (entries_of ss))
marked-shown_as false t m ss = refl

pub IsWithin-prioritized : (t : ℕ) (m : Bool) (v : ℕ) (w : Bool) (p : ℕ) (ss : List Slot) → v ≤ t → (m ≡ false → w ≡ false) → IsWithin t m ss → IsWithin t m (map (prioritized_slot v w p) ss)
IsWithin-prioritized t m v w p [] le clear h = tt
IsWithin-prioritized t m v w p (s ∷ ss) le clear h =
    let One : Slot → Type 0 = λ x. (x.stamp ≤ t) × (m ≡ false → x.marked ≡ false) in
    let here : One (prioritized_slot v w p s) = elim (cases_Bool (s.entry.priority == p)) [
      | inl e ↦ subst One (sym (cond-true _ _ _ e)) (h.0, h.1)
      | inr e ↦ subst One (sym (cond-false _ _ _ e)) (le, clear)
    ] in
    (here.0, here.1, IsWithin-prioritized t m v w p ss le clear h.2)

-- neither of two marks
pub none_left : (a b : Bool) → a || b ≡ false → a ≡ false
none_left false b e = refl
none_left true b e = e

pub none_right : (a b : Bool) → a || b ≡ false → b ≡ false
none_right false b e = e
none_right true b e = cc

-- a test of the entry gives the same position
pub position_or_len-written : (p : Entry → Bool) (t : ℕ) (m : Bool) (ss : List Slot) → position_or_len (λ (s : Slot). p s.entry) (map (written t m) (entries_of ss)) ≡ position_or_len (λ (s : Slot). p s.entry) ss
position_or_len-written p t m [] = refl
position_or_len-written p t m (s ∷ ss) = elim (p s.entry) as (λ b. cond (not b) (1 + position_or_len (λ (s : Slot). p s.entry) (map (written t m) (entries_of ss))) 0 ≡ cond (not b) (1 + position_or_len (λ (s : Slot). p s.entry) ss) 0) [
  | true ↦ refl
  | false ↦ ap (λ n. 1 + n) (position_or_len-written p t m ss)
]

pub position-shown_as : (p : Entry → Bool) (a : Bool) (t : ℕ) (m : Bool) (ss : List Slot) → position (λ (s : Slot). p s.entry) (shown_as a t m ss) ≡ position (λ (s : Slot). p s.entry) ss
position-shown_as p true t m ss =
    let n = length-shown_as true t m ss in
    let k = position_or_len-written p t m ss in
    λ i. cond (ltb (k i) (n i)) (Some (k i)) None
position-shown_as p false t m ss = refl

-- what holds of each entry
pub All-shown_as : (P : Entry → Type 0) (a : Bool) (t : ℕ) (m : Bool) (ss : List Slot) → All (λ (s : Slot). P s.entry) ss → All (λ (s : Slot). P s.entry) (shown_as a t m ss)
All-shown_as P false t m ss h = h
All-shown_as P true t m [] h = λ k d l. absurd (omega arith)
All-shown_as P true t m (s ∷ ss) h = All-cons (λ (s : Slot). P s.entry) (written t m s.entry) _ (All-head (λ (s : Slot). P s.entry) s ss h) (All-shown_as P true t m ss (All-tail (λ (s : Slot). P s.entry) s ss h))

pub All-from_shown_as : (P : Entry → Type 0) (a : Bool) (t : ℕ) (m : Bool) (ss : List Slot) → All (λ (s : Slot). P s.entry) (shown_as a t m ss) → All (λ (s : Slot). P s.entry) ss
All-from_shown_as P false t m ss h = h
All-from_shown_as P true t m [] h = λ k d l. absurd (omega arith)
All-from_shown_as P true t m (s ∷ ss) h = All-cons (λ (s : Slot). P s.entry) s ss (All-head (λ (s : Slot). P s.entry) (written t m s.entry) (map (written t m) (entries_of ss)) h) (All-from_shown_as P true t m ss (All-tail (λ (s : Slot). P s.entry) (written t m s.entry) (map (written t m) (entries_of ss)) h))
