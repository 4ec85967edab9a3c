-- Entries that are shuffled.
use Rattle.std.proofs.Common.{◌≡◌, ◌≢◌, ℕ, zero, suc, ◌+◌, ◌-◌, ◌%◌, ◌<◌, ◌≤◌, Bool, cond, not, List, [], ◌∷◌, length, map, take, drop, get_or, set, refl, ap, sym, subst, ◌∙◌, ltb, inl, inr, arith}
use Rattle.std.specs.Prelude.{All, IsPermutation, swap}
use Rattle.std.proofs.Math.ListN.{get_or-map}
use Rattle.std.proofs.Math.Nat.{mod-lt}
use Rattle.std.proofs.lemmas.Bool.{cond-true, cond-false, cases_Bool, cases_eq, ltb-true, le-ltb, eq-eqb, ne_eqb}
use Rattle.std.proofs.lemmas.Grind.{get_or_moved}
use Rattle.std.proofs.lemmas.List.{length-map, map-set, take-set-le, drop-set-lt, get_or-map as read-map, same_lists}
use Rattle.std.proofs.lemmas.List.Sorted.{IsPermutation-refl, IsPermutation-trans, IsPermutation-swap, IsPermutation-keeps, length_permutation}
use Rattle.queue_slots.specs.declared.entry.Entry.{Entry}
use Rattle.queue_slots.specs.declared.entry.Slot.{Slot}
use Rattle.song_queue.specs.Entries.{same_entry}
use Rattle.song_queue.specs.Shuffles.{shuffled}
use Rattle.song_queue.specs.State.{QueueState, IsQueue, restamped, kept, written, stamped_slot, stamped_by, entries_of, queue_of, wraps, next_version, shuffled_state}
use Rattle.song_queue.specs.Laws.{ShufflesPermute}
use Rattle.song_queue.proofs.Same.{same_entry-refl, same_entry-other}
use Rattle.song_queue.proofs.Edits.{Distinct, IsQueue-stays, edited-same, edited-is}
use Rattle.song_queue.proofs.Swaps.{All-swap, Distinct-swap, Distinct-apart}

-- a range of one position or none has nothing to shuffle
pub shuffled-few : {X : Type 0} (xs : List X) (start end : ℕ) (words : List ℕ) → end ≤ start + 1 → shuffled xs start end words ≡ xs
shuffled-few xs start end [] few = refl
shuffled-few xs start end (word ∷ words) few = cond-false _ _ _ (le-ltb start (end - 1) (omega arith))

-- what each swap in a range keeps, a shuffle of the range keeps
module _ {X : Type 0} (P : List X → Type 0) (start bound : ℕ) (step : (xs : List X) (i j : ℕ) → start ≤ j → j ≤ i → i < bound → P xs → P (swap xs i j)) where
  pub shuffled-keeps : (xs : List X) (end : ℕ) (words : List ℕ) → end ≤ bound → P xs → P (shuffled xs start end words)
  shuffled-keeps xs end [] within p = p
  shuffled-keeps xs end (word ∷ words) within p =
      let last : ℕ = end - 1 in
      let chosen : ℕ = start + word % (last - start + 1) in
      elim (cases_Bool (ltb start last)) [
        | inl t ↦
            let above : start < last = ltb-true _ _ t in
            let below : word % (last - start + 1) < last - start + 1 = mod-lt word (omega arith) in
            subst P (sym (cond-true _ _ xs t)) (shuffled-keeps (swap xs last chosen) last words (omega arith) (step xs last chosen (omega arith) (omega arith) (omega arith) p))
        | inr t ↦ subst P (sym (cond-false _ (shuffled (swap xs last chosen) start last words) xs t)) p
      ]

pub All-shuffled : {X : Type 0} (P : X → Type 0) (xs : List X) (start end : ℕ) (words : List ℕ) → All P xs → All P (shuffled xs start end words)
All-shuffled P xs start end words = shuffled-keeps (All P) start end (λ ys i j low high below. All-swap P ys i j) xs end words (omega arith)

pub IsPermutation-shuffled : {X : Type 0} (xs : List X) (start end : ℕ) (words : List ℕ) → end ≤ length xs → IsPermutation xs (shuffled xs start end words)
IsPermutation-shuffled xs start end words within =
    shuffled-keeps (IsPermutation xs) start (length xs)
    (λ ys i j low high below p.
    let size : length ys ≡ length xs = length_permutation xs ys p in
    IsPermutation-trans xs ys (swap ys i j) p (IsPermutation-swap ys (swap ys i j) i j (omega arith) (omega arith) refl))
    xs end words within (IsPermutation-refl xs)

pub Distinct-shuffled : (es : List Entry) (start end : ℕ) (words : List ℕ) → end ≤ length es → Distinct es → Distinct (shuffled es start end words)
Distinct-shuffled es start end words within distinct =
    IsPermutation-keeps es Distinct distinct (λ l i j li lj d. Distinct-swap l i j li lj d) (shuffled es start end words) (IsPermutation-shuffled es start end words within)

-- a swap leaves what is before its positions and after them
take-swap : {X : Type 0} (n : ℕ) (xs : List X) (i j : ℕ) → n ≤ i → n ≤ j → take n (swap xs i j) ≡ take n xs
take-swap n [] i j li lj = refl
take-swap n (x ∷ xs) i j li lj = take-set-le n (set (x ∷ xs) i (get_or (x ∷ xs) j x)) j (get_or (x ∷ xs) i x) lj ∙ take-set-le n (x ∷ xs) i (get_or (x ∷ xs) j x) li

drop-swap : {X : Type 0} (n : ℕ) (xs : List X) (i j : ℕ) → i < n → j < n → drop n (swap xs i j) ≡ drop n xs
drop-swap n [] i j li lj = refl
drop-swap n (x ∷ xs) i j li lj = drop-set-lt n (set (x ∷ xs) i (get_or (x ∷ xs) j x)) j (get_or (x ∷ xs) i x) lj ∙ drop-set-lt n (x ∷ xs) i (get_or (x ∷ xs) j x) li

pub shuffles_permute : ShufflesPermute
shuffles_permute = record {
  permutes = IsPermutation-shuffled;
  before = λ queue start end words.
      shuffled-keeps (λ ys. take start ys ≡ take start queue) start end (λ ys i j low high below p. take-swap start ys i j (omega arith) low ∙ p) queue end words (omega arith) refl;
  behind = λ queue start end words.
      shuffled-keeps (λ ys. drop end ys ≡ drop end queue) start end (λ ys i j low high below p. drop-swap end ys i j below (omega arith) ∙ p) queue end words (omega arith) refl;
}

-- where a function of each element is shuffled
map-swap : {X Y : Type 0} (f : X → Y) (xs : List X) (i j : ℕ) → map f (swap xs i j) ≡ swap (map f xs) i j
map-swap f [] i j = refl
map-swap f (x ∷ xs) i j =
    let list = x ∷ xs in
    map-set f (set list i (get_or list j x)) j (get_or list i x) ∙ ap (λ l. set l j (f (get_or list i x))) (map-set f list i (get_or list j x))
    ∙ (λ n. set (set (map f list) i (sym (get_or-map f list j x) n)) j (sym (get_or-map f list i x) n))

pub map-shuffled : {X Y : Type 0} (f : X → Y) (xs : List X) (start end : ℕ) (words : List ℕ) → map f (shuffled xs start end words) ≡ shuffled (map f xs) start end words
map-shuffled f xs start end [] = refl
map-shuffled f xs start end (word ∷ words) =
    let last : ℕ = end - 1 in
    let chosen : ℕ = start + word % (last - start + 1) in
    elim (cases_Bool (ltb start last)) [
      | inl t ↦ ap (map f) (cond-true _ _ xs t) ∙ map-shuffled f (swap xs last chosen) start last words ∙ ap (λ x. shuffled x start last words) (map-swap f xs last chosen) ∙ sym (cond-true _ _ (map f xs) t)
      | inr t ↦ ap (map f) (cond-false _ (shuffled (swap xs last chosen) start last words) xs t) ∙ sym (cond-false _ (shuffled (swap (map f xs) last chosen) start last words) (map f xs) t)
    ]

-- slots that are compared by ids

abbrev pub slot_ids : List Slot → List ℕ
slot_ids ss = map (λ s. s.entry.id) ss

pub stamped_by-more : (v : ℕ) (w : Bool) (ids : List ℕ) (ss : List Slot) (i : ℕ) (d : Slot) → i < length ids → i < length ss
    → set (stamped_by v w (take i ids) ss) i (stamped_slot v w (get_or ids i 0) (get_or (stamped_by v w (take i ids) ss) i d)) ≡ stamped_by v w (take (suc i) ids) ss
stamped_by-more v w [] ss i d li ls = absurd (omega arith)
stamped_by-more v w (id ∷ ids) [] i d li ls = absurd (omega arith)
stamped_by-more v w (id ∷ ids) (s ∷ ss) zero d li ls = refl
stamped_by-more v w (id ∷ ids) (s ∷ ss) (suc i) d li ls = λ n. stamped_slot v w id s ∷ stamped_by-more v w ids ss i d (omega arith) (omega arith) n

-- a slot is at a position as before where its id is
abbrev pub Returns : List Slot → List Slot → Type 0
Returns old new = (k : ℕ) (d : Slot) → k < length old → (get_or old k d).entry.id ≡ (get_or new k d).entry.id → get_or old k d ≡ get_or new k d

stamped-restamped : (v : ℕ) (w : Bool) (old new : List Slot) → length old ≡ length new → Returns old new → stamped_by v w (slot_ids old) new ≡ restamped v w old (entries_of new)
stamped-restamped v w [] [] size returns = refl
stamped-restamped v w [] (n ∷ ns) size returns = absurd (omega arith)
stamped-restamped v w (o ∷ os) [] size returns = absurd (omega arith)
stamped-restamped v w (o ∷ os) (n ∷ ns) size returns =
    let first : stamped_slot v w o.entry.id n ≡ cond (same_entry o.entry n.entry) (kept w o) (written v w n.entry) = elim (cases_eq o.entry.id n.entry.id) [
      | inl e ↦
          let same : o ≡ n = returns 0 o (omega arith) e in
          cond-true _ _ _ (eq-eqb n.entry.id o.entry.id (sym e)) ∙ ap (kept w) (sym same) ∙ sym (cond-true _ _ _ (ap (λ (x : Slot). same_entry o.entry x.entry) (sym same) ∙ same_entry-refl o.entry))
      | inr ne ↦ cond-false _ _ _ (ne_eqb n.entry.id o.entry.id (λ e. ne (sym e))) ∙ sym (cond-false _ _ _ (same_entry-other o.entry n.entry ne))
    ] in
    λ i. first i ∷ stamped-restamped v w os ns (omega arith) (λ k d l e. returns (suc k) d (omega arith) e) i

module _ (ss : List Slot) (distinct : Distinct (entries_of ss)) (start end : ℕ) (words : List ℕ) (within : end ≤ length ss) where
  abbrev new : List Slot
  new = shuffled ss start end words

  permuted : IsPermutation ss new
  permuted = IsPermutation-shuffled ss start end words within

  length-new : length new ≡ length ss
  length-new = length_permutation ss new permuted

  returns-new : Returns ss new
  returns-new k d inside same =
      let entry : Slot → Entry = λ s. s.entry in
      let stood = (get_or_moved ss permuted.moves k d permuted.below (subst (λ x. k < length x) permuted.is (omega (arith, length-new)))).1 in
      let was : get_or new k d ≡ get_or ss stood.0 d = ap (λ x. get_or x k d) permuted.is ∙ stood.2 in
      let size : length (entries_of ss) ≡ length ss = length-map ss entry in
      let there : stood.0 < length ss = stood.1 in
      elim (cases_eq k stood.0) [
        | inl e ↦ ap (λ n. get_or ss n d) e ∙ sym was
        | inr ne ↦ absurd (Distinct-apart (entries_of ss) distinct k stood.0 d.entry (omega arith) (omega arith) ne
            (ap (λ (e : Entry). e.id) (read-map entry ss k d d.entry inside) ∙ same ∙ ap (λ (s : Slot). s.entry.id) was ∙ ap (λ (e : Entry). e.id) (sym (read-map entry ss stood.0 d d.entry there))))
      ]

  -- what the code leaves where some id is at another position
  pub shuffled-slots : (v : ℕ) (w : Bool) → stamped_by v w (slot_ids ss) new ≡ restamped v w ss (shuffled (entries_of ss) start end words)
  shuffled-slots v w = stamped-restamped v w ss new (sym length-new) returns-new ∙ ap (restamped v w ss) (map-shuffled (λ (s : Slot). s.entry) ss start end words)

  -- and where none is
  pub shuffled-back : slot_ids new ≡ slot_ids ss → new ≡ ss
  shuffled-back same =
      let id : Slot → ℕ = λ s. s.entry.id in
      sym (same_lists ss new (sym length-new) (λ k d l. returns-new k d l
      (sym (read-map id ss k d 0 l) ∙ ap (λ x. get_or x k 0) (sym same) ∙ read-map id new k d 0 (omega (arith, length-new)))))

pub IsQueue-shuffled : (q : QueueState) → IsQueue q → (start end : ℕ) (words : List ℕ) → end ≤ length q.slots → IsQueue (shuffled_state q start end words)
IsQueue-shuffled q is start end words within =
    let after : List Entry = shuffled (queue_of q) start end words in
    let size : length (queue_of q) ≡ length q.slots = length-map q.slots (λ (s : Slot). s.entry) in
    let long : length after ≡ length (queue_of q) = length_permutation (queue_of q) after (IsPermutation-shuffled (queue_of q) start end words (omega arith)) in
    IsQueue-stays q after is (omega arith) (All-shuffled (λ e. e.id ≤ q.greatest_id) (queue_of q) start end words is.ids) (Distinct-shuffled (queue_of q) start end words (omega arith) is.distinct)

-- the ids of slots are those of their entries
slot_ids-entries : (ss : List Slot) → slot_ids ss ≡ map (λ e. e.id) (entries_of ss)
slot_ids-entries [] = refl
slot_ids-entries (s ∷ ss) = λ i. s.entry.id ∷ slot_ids-entries ss i

-- the fields that the code leaves
module _ (q : QueueState) (is : IsQueue q) (start end : ℕ) (words : List ℕ) (within : end ≤ length q.slots) where
  abbrev after : List Slot
  after = shuffled q.slots start end words

  -- where each entry is at its position again
  pub shuffled-same : slot_ids after ≡ slot_ids q.slots → q ≡ shuffled_state q start end words
  shuffled-same same =
      let back : after ≡ q.slots = shuffled-back q.slots is.distinct start end words within same in
      sym (edited-same q (shuffled (queue_of q) start end words) (ap (λ x. entries_of x) (sym back) ∙ map-shuffled (λ (s : Slot). s.entry) q.slots start end words))

  -- and where some are elsewhere
  pub shuffled-is : (v : ℕ) (w : Bool) (slots : List Slot) → v ≡ next_version q → w ≡ wraps q → slot_ids after ≢ slot_ids q.slots → slots ≡ stamped_by v w (slot_ids q.slots) after
      → record { slots = slots; version = v; greatest_id = q.greatest_id; max_len = q.max_len; max_version = q.max_version; max_id = q.max_id; parity = not q.parity } ≡ shuffled_state q start end words
  shuffled-is v w slots is_v is_w other is_slots =
      let entries : entries_of after ≡ shuffled (queue_of q) start end words = map-shuffled (λ (s : Slot). s.entry) q.slots start end words in
      edited-is q (λ es. shuffled es start end words) v w q.slots slots is_v is_w refl
      (λ same. other (slot_ids-entries after ∙ ap (map (λ e. e.id)) (entries ∙ sym same) ∙ sym (slot_ids-entries q.slots)))
      (is_slots ∙ shuffled-slots q.slots is.distinct start end words within v w)
