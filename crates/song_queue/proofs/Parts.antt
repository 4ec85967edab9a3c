-- A part of the queue that is shuffled by itself and put back.
use Rattle.std.proofs.Common.{◌≡◌, ◌≢◌, ℕ, suc, ◌+◌, ◌-◌, ◌%◌, ◌<◌, ◌≤◌, Bool, not, List, [], ◌∷◌, ◌++◌, length, map, take, drop, get_or, set, refl, ap, sym, ◌∙◌, inl, inr, arith, length-append, length-drop}
use Rattle.std.specs.Prelude.{◌==◌, swap}
use Rattle.std.specs.List.{slice_range, take-map, drop-map}
use Rattle.std.proofs.Math.Nat.{mod-lt}
use Rattle.std.proofs.lemmas.Bool.{cond-true, cond-false, cases_lt, lt-ltb, le-ltb, eq-eqb}
use Rattle.std.proofs.lemmas.List.{take-append-drop, length-take-le, length-set, length-map, map-append, append_cancel_left, append_cancel_right, set-append_left, set-append_right, get_or-append-add, get_or_append_left}
use Rattle.std.proofs.lemmas.List.Edits.{swap_is, length-swap}
use Rattle.std.proofs.lemmas.List.Sorted.{length_permutation}
use Rattle.queue_slots.specs.declared.entry.Slot.{Slot}
use Rattle.queue_slots.specs.Slots.{with_put_back}
use Rattle.queue_slots.proofs.Joined.{drop_split}
use Rattle.song_queue.specs.Shuffles.{shuffled}
use Rattle.song_queue.specs.State.{QueueState, IsQueue, kept, written, stamped_slot, stamped_by, wraps, next_version, shuffled_state}
use Rattle.song_queue.proofs.Shuffles.{slot_ids, IsPermutation-shuffled, shuffled-same, shuffled-is}

-- what is done to a part of a list, with others before it and behind
module _ {X : Type 0} (a b : List X) where
  set-middle : (m : List X) (i : ℕ) (x : X) → i < length m → set (a ++ (m ++ b)) (length a + i) x ≡ a ++ (set m i x ++ b)
  set-middle m i x l =
      let off : length a + i - length a ≡ i = omega arith in
      set-append_right a (m ++ b) (length a) (length a + i) x refl (omega arith) ∙ ap (λ (n : ℕ). a ++ set (m ++ b) n x) off ∙ ap (λ s. a ++ s) (set-append_left m b i x l)

  get_or-middle : (m : List X) (i : ℕ) (d : X) → i < length m → get_or (a ++ (m ++ b)) (length a + i) d ≡ get_or m i d
  get_or-middle m i d l = get_or-append-add a (m ++ b) i d ∙ get_or_append_left m b d i l

  swap-middle : (m : List X) (i j : ℕ) → i < length m → j < length m → swap (a ++ (m ++ b)) (length a + i) (length a + j) ≡ a ++ (swap m i j ++ b)
  swap-middle [] i j li lj = absurd (omega arith)
  swap-middle (d ∷ ms) i j li lj =
      let m : List X = d ∷ ms in
      let all : List X = a ++ (m ++ b) in
      let one = length-append a (m ++ b) in
      let two = length-append m b in
      sym (swap_is all (length a + i) (length a + j) d (omega arith) (omega arith))
      ∙ (λ t. set (set all (length a + i) (get_or-middle m j d lj t)) (length a + j) (get_or-middle m i d li t))
      ∙ ap (λ l. set l (length a + j) (get_or m i d)) (set-middle m i (get_or m j d) li)
      ∙ set-middle (set m i (get_or m j d)) j (get_or m i d) (omega (arith, length-set m i (get_or m j d)))

  shuffled-middle : (m : List X) (end : ℕ) (words : List ℕ) → end ≤ length m → shuffled (a ++ (m ++ b)) (length a) (length a + end) words ≡ a ++ (shuffled m 0 end words ++ b)
  shuffled-middle m end [] le = refl
  shuffled-middle m end (word ∷ words) le =
      let all : List X = a ++ (m ++ b) in
      let last : ℕ = end - 1 in
      let chosen : ℕ = 0 + word % (last - 0 + 1) in
      let far : ℕ = length a + end - 1 in
      let picked : ℕ = length a + word % (far - length a + 1) in
      elim (cases_lt 0 last) [
        | inl less ↦
            let below : word % (last - 0 + 1) < last - 0 + 1 = mod-lt word (omega arith) in
            let to : far ≡ length a + last = omega arith in
            let count : far - length a + 1 ≡ last - 0 + 1 = omega arith in
            let pick : length a + word % (last - 0 + 1) ≡ length a + chosen = omega arith in
            cond-true _ _ all (lt-ltb (length a) far (omega arith))
            ∙ (λ t. shuffled (swap all (to t) ((ap (λ (n : ℕ). length a + word % n) count ∙ pick) t)) (length a) (to t) words)
            ∙ ap (λ l. shuffled l (length a) (length a + last) words) (swap-middle m last chosen (omega arith) (omega arith))
            ∙ shuffled-middle (swap m last chosen) last words (omega (arith, length-swap m last chosen))
            ∙ ap (λ l. a ++ (l ++ b)) (sym (cond-true _ _ m (lt-ltb 0 last less)))
        | inr more ↦
            cond-false _ (shuffled (swap all far picked) (length a) far words) all (le-ltb (length a) far (omega arith))
            ∙ ap (λ l. a ++ (l ++ b)) (sym (cond-false _ (shuffled (swap m last chosen) 0 last words) m (le-ltb 0 last more)))
      ]

-- slots that keep their ids are kept, before others and behind them
stamped-same : (v : ℕ) (w : Bool) (s : Slot) → stamped_slot v w s.entry.id s ≡ kept w s
stamped-same v w s = cond-true (s.entry.id == s.entry.id) (kept w s) (written v w s.entry) (eq-eqb s.entry.id s.entry.id refl)

stamped-kept : (v : ℕ) (w : Bool) (ss : List Slot) (ids : List ℕ) (xs : List Slot) → stamped_by v w (slot_ids ss ++ ids) (ss ++ xs) ≡ map (kept w) ss ++ stamped_by v w ids xs
stamped-kept v w [] ids xs = refl
stamped-kept v w (s ∷ ss) ids xs = λ i. stamped-same v w s i ∷ stamped-kept v w ss ids xs i

stamped-behind : (v : ℕ) (w : Bool) (ids : List ℕ) (xs ss : List Slot) → length ids ≡ length xs → stamped_by v w (ids ++ slot_ids ss) (xs ++ ss) ≡ stamped_by v w ids xs ++ map (kept w) ss
stamped-behind v w [] [] [] n = refl
stamped-behind v w [] [] (s ∷ ss) n = λ i. stamped-same v w s i ∷ stamped-behind v w [] [] ss n i
stamped-behind v w [] (x ∷ xs) ss n = absurd (omega arith)
stamped-behind v w (id ∷ ids) [] ss n = absurd (omega arith)
stamped-behind v w (id ∷ ids) (x ∷ xs) ss n = λ i. stamped_slot v w id x ∷ stamped-behind v w ids xs ss (omega arith) i

length-stamped_by : (v : ℕ) (w : Bool) (ids : List ℕ) (xs : List Slot) → length (stamped_by v w ids xs) ≡ length xs
length-stamped_by v w [] xs = refl
length-stamped_by v w (id ∷ ids) [] = refl
length-stamped_by v w (id ∷ ids) (x ∷ xs) = ap suc (length-stamped_by v w ids xs)

slot_ids-parts : (a m b : List Slot) → slot_ids (a ++ (m ++ b)) ≡ slot_ids a ++ (slot_ids m ++ slot_ids b)
slot_ids-parts a m b = let id : Slot → ℕ = λ s. s.entry.id in map-append id a (m ++ b) ∙ ap (λ l. slot_ids a ++ l) (map-append id m b)

-- the fields that the code leaves
module _ (q : QueueState) (is : IsQueue q) (start end : ℕ) (words : List ℕ) (order : start ≤ end) (within : end ≤ length q.slots) where
  abbrev S : List Slot
  S = q.slots

  abbrev front : List Slot
  front = take start S

  abbrev part : List Slot
  part = slice_range S start end

  abbrev back : List Slot
  back = drop end S

  abbrev moved : List Slot
  moved = shuffled part 0 (length part) words

  parts : S ≡ front ++ (part ++ back)
  parts = sym (take-append-drop start S) ∙ ap (λ l. front ++ l) (drop_split S start end order)

  length-part : length part ≡ end - start
  length-part = let e = length-drop start S in length-take-le (end - start) (drop start S) (omega arith)

  length-moved : length moved ≡ length part
  length-moved = length_permutation part moved (IsPermutation-shuffled part 0 (length part) words (omega arith))

  shuffled-parts : shuffled S start end words ≡ front ++ (moved ++ back)
  shuffled-parts =
      let size = length-part in
      let one : length front ≡ start = length-take-le start S (omega arith) in
      let two : end ≡ length front + length part = omega arith in
      (λ t. shuffled (parts t) (sym one t) (two t) words) ∙ shuffled-middle front back part (length part) words (omega arith)

  ids_before : slot_ids S ≡ slot_ids front ++ (slot_ids part ++ slot_ids back)
  ids_before = ap slot_ids parts ∙ slot_ids-parts front part back

  ids_after : slot_ids (shuffled S start end words) ≡ slot_ids front ++ (slot_ids moved ++ slot_ids back)
  ids_after = ap slot_ids shuffled-parts ∙ slot_ids-parts front moved back

  -- where each entry of the part is at its position again
  pub part-same : slot_ids moved ≡ slot_ids part → q ≡ shuffled_state q start end words
  part-same same = shuffled-same q is start end words within (ids_after ∙ ap (λ l. slot_ids front ++ (l ++ slot_ids back)) same ∙ sym ids_before)

  put_back-parts : (v : ℕ) (w : Bool) → with_put_back (map (kept w) S) start (stamped_by v w (slot_ids part) moved) ≡ stamped_by v w (slot_ids S) (shuffled S start end words)
  put_back-parts v w =
      let stamps : List Slot = stamped_by v w (slot_ids part) moved in
      let size = length-part in
      let size2 = length-moved in
      let size3 = length-stamped_by v w (slot_ids part) moved in
      let to : start + length stamps ≡ end = omega arith in
      let many : length (slot_ids part) ≡ length moved = length-map part (λ (s : Slot). s.entry.id) ∙ sym length-moved in
      (λ t. take-map (kept w) start S t ++ (stamps ++ (ap (λ (n : ℕ). drop n (map (kept w) S)) to ∙ drop-map (kept w) end S) t))
      ∙ ap (λ l. map (kept w) front ++ l) (sym (stamped-behind v w (slot_ids part) moved back many))
      ∙ sym (stamped-kept v w front (slot_ids part ++ slot_ids back) (moved ++ back))
      ∙ (λ t. stamped_by v w (sym ids_before t) (sym shuffled-parts t))

  -- and where some are elsewhere
  pub part-is : (v : ℕ) (w : Bool) (slots : List Slot) → v ≡ next_version q → w ≡ wraps q → slot_ids moved ≢ slot_ids part → slots ≡ with_put_back (map (kept w) S) start (stamped_by v w (slot_ids part) moved)
      → record { slots = slots; version = v; greatest_id = q.greatest_id; max_len = q.max_len; max_version = q.max_version; max_id = q.max_id; parity = not q.parity } ≡ shuffled_state q start end words
  part-is v w slots is_v is_w other is_slots =
      shuffled-is q is start end words within v w slots is_v is_w
      (λ same. other (append_cancel_right (slot_ids moved) (slot_ids part) (slot_ids back) (append_cancel_left (slot_ids front) _ _ (sym ids_after ∙ same ∙ ids_before))))
      (is_slots ∙ put_back-parts v w)
