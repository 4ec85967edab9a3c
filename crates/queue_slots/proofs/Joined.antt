-- Blocks joined end to end.
use Rattle.std.proofs.Common.{◌≡◌, ℕ, zero, suc, ◌+◌, ◌-◌, ◌*◌, ◌<◌, ◌≤◌, Bool, List, [], ◌∷◌, ◌++◌, length, map, take, drop, get_or, set, refl, ap, sym, subst, ◌∙◌, inl, inr, arith, append_assoc, length-append, length-drop}
use Rattle.std.specs.List.{slice_range, insert, remove}
use Rattle.std.proofs.lemmas.List.{take-append-drop, take-append-le, drop-append-le, take-take, get_or-set_other, take_at, drop_at, drop-drop, length-take-le, take_more_set, drop-set-lt, drop_more, map-append, drop-take}
use Rattle.std.proofs.lemmas.List.Edits.{between_more, get_or-remove_below}
use Rattle.std.proofs.lemmas.List.Concat.{flat_map-append}
use Rattle.std.proofs.lemmas.Bool.{cases_eq}
use Rattle.queue_slots.specs.declared.entry.Slot.{Slot}
use Rattle.queue_slots.specs.Slots.{written, entries_of}
use Rattle.queue_slots.specs.Blocks.{joined, IsCut, IsPaired, IsParted, IsSpot}

pub joined-append : (xs ys : List (List Slot)) → joined (xs ++ ys) ≡ joined xs ++ joined ys
joined-append xs ys = flat_map-append (λ (b : List Slot). b) xs ys

pub joined-one : (b : List Slot) → joined (b ∷ []) ≡ b
joined-one [] = refl
joined-one (s ∷ ss) = λ i. s ∷ joined-one ss i

-- the blocks from one up to another, and those behind
pub drop_split : {X : Type 0} (xs : List X) (i j : ℕ) → i ≤ j → drop i xs ≡ slice_range xs i j ++ drop j xs
drop_split xs i j le = sym (take-append-drop (j - i) (drop i xs)) ∙ ap (λ x. slice_range xs i j ++ x) (drop-drop (j - i) i xs ∙ ap (λ (n : ℕ). drop n xs) (let e : i + (j - i) ≡ j = omega arith in e))

pub joined_split : (bs : List (List Slot)) (i j : ℕ) → i ≤ j → joined (drop i bs) ≡ joined (slice_range bs i j) ++ joined (drop j bs)
joined_split bs i j le = ap (λ x. joined x) (drop_split bs i j le) ∙ joined-append (slice_range bs i j) (drop j bs)

-- a part of a part, in front and behind
pub slice_front : {X : Type 0} (xs : List X) (i j k : ℕ) → i ≤ j → j ≤ k → take (j - i) (slice_range xs i k) ≡ slice_range xs i j
slice_front xs i j k le1 le2 = take-take (j - i) (k - i) (drop i xs) (omega arith)

pub slice_back : {X : Type 0} (xs : List X) (i j k : ℕ) → i ≤ j → j ≤ k → drop (j - i) (slice_range xs i k) ≡ slice_range xs j k
slice_back xs i j k le1 le2 =
    let n : k - i ≡ (j - i) + (k - j) = omega arith in
    let to : i + (j - i) ≡ j = omega arith in
    ap (λ (m : ℕ). drop (j - i) (take m (drop i xs))) n ∙ drop-take (j - i) (k - j) (drop i xs) ∙ ap (take (k - j)) (drop-drop (j - i) i xs ∙ ap (λ (m : ℕ). drop m xs) to)

pub slice_split : {X : Type 0} (xs : List X) (i j k : ℕ) → i ≤ j → j ≤ k → slice_range xs i k ≡ slice_range xs i j ++ slice_range xs j k
slice_split xs i j k le1 le2 = sym (take-append-drop (j - i) (slice_range xs i k)) ∙ (λ t. slice_front xs i j k le1 le2 t ++ slice_back xs i j k le1 le2 t)

-- two neighbouring parts that are exchanged
pub rotated : {X : Type 0} (xs : List X) (i j k : ℕ) → i ≤ j → j ≤ k → drop (j - i) (slice_range xs i k) ++ take (j - i) (slice_range xs i k) ≡ slice_range xs j k ++ slice_range xs i j
rotated xs i j k le1 le2 = λ t. slice_back xs i j k le1 le2 t ++ slice_front xs i j k le1 le2 t

-- the last part of a list moved to a position
pub moved_last : {X : Type 0} (xs ys : List X) (at count : ℕ) → at ≤ length xs → count ≡ length ys
    → take at (xs ++ ys) ++ (drop (length (xs ++ ys) - count) (xs ++ ys) ++ take (length (xs ++ ys) - count - at) (drop at (xs ++ ys))) ≡ take at xs ++ (ys ++ drop at xs)
moved_last xs ys at count le same =
    let total : length (xs ++ ys) ≡ length xs + length ys = length-append xs ys in
    let one : take at (xs ++ ys) ≡ take at xs = take-append-le at xs ys le in
    let two : drop (length (xs ++ ys) - count) (xs ++ ys) ≡ ys = drop_at xs ys _ (omega arith) in
    let size : length (drop at xs) ≡ length xs - at = length-drop at xs in
    let three : take (length (xs ++ ys) - count - at) (drop at (xs ++ ys)) ≡ drop at xs = ap (λ x. take (length (xs ++ ys) - count - at) x) (drop-append-le at xs ys le) ∙ take_at (drop at xs) ys _ (omega arith) in
    λ i. one i ++ (two i ++ three i)

-- one block more
pub slice_more : {X : Type 0} (xs : List X) (i j : ℕ) (d : X) → i ≤ j → j < length xs → slice_range xs i (j + 1) ≡ slice_range xs i j ++ get_or xs j d ∷ []
slice_more xs i j d le l = between_more xs i j d le l

pub spot-more : (bs : List (List Slot)) (from at : ℕ) → from ≤ at → at < length bs → length (joined (slice_range bs from (at + 1))) ≡ length (joined (slice_range bs from at)) + length (get_or bs at [])
spot-more bs from at le l =
    ap (λ x. length (joined x)) (slice_more bs from at [] le l) ∙ ap (λ x. length x) (joined-append (slice_range bs from at) (get_or bs at [] ∷ []) ∙ ap (λ x. joined (slice_range bs from at) ++ x) (joined-one (get_or bs at [])))
    ∙ length-append (joined (slice_range bs from at)) (get_or bs at [])

pub joined-map : (f : Slot → Slot) (bs : List (List Slot)) → joined (map (λ b. map f b) bs) ≡ map f (joined bs)
joined-map f [] = refl
joined-map f (b ∷ bs) = ap (λ x. map f b ++ x) (joined-map f bs) ∙ sym (map-append f b (joined bs))

pub entries_of-append : (xs ys : List Slot) → entries_of (xs ++ ys) ≡ entries_of xs ++ entries_of ys
entries_of-append xs ys = map-append (λ (s : Slot). s.entry) xs ys

pub joined-written : (v : ℕ) (w : Bool) (bs : List (List Slot)) → joined (map (λ b. map (written v w) (entries_of b)) bs) ≡ map (written v w) (entries_of (joined bs))
joined-written v w [] = refl
joined-written v w (b ∷ bs) =
    ap (λ x. map (written v w) (entries_of b) ++ x) (joined-written v w bs) ∙ sym (map-append (written v w) (entries_of b) (entries_of (joined bs))) ∙ ap (map (written v w)) (sym (entries_of-append b (joined bs)))

-- where a position begins a block already
pub cut-none : (bs : List (List Slot)) (from position at offset : ℕ) → offset ≡ 0 → IsSpot bs from position at offset → IsCut bs bs from position at
cut-none bs from position at offset none h =
    let sum = h.sum in
    let n : length (joined (slice_range bs from at)) ≡ position = omega arith in
    let split = joined_split bs from at h.low in
    record {
      front = refl;
      low = h.low;
      within = h.high;
      middle = sym (ap (take position) split ∙ take_at (joined (slice_range bs from at)) (joined (drop at bs)) position n);
      back = sym (ap (drop position) split ∙ drop_at (joined (slice_range bs from at)) (joined (drop at bs)) position n);
    }

-- where it is in a block
pub cut-inside : (bs : List (List Slot)) (from position at offset : ℕ) → from ≤ at → at < length bs → offset ≤ length (get_or bs at []) → length (joined (slice_range bs from at)) + offset ≡ position
    → IsCut bs (insert (set bs at (take offset (get_or bs at []))) (at + 1) (drop offset (get_or bs at []))) from position (at + 1)
cut-inside bs from position at o low l inside sum =
    let b : List Slot = get_or bs at [] in
    let f : List Slot = take o b in
    let g : List Slot = drop o b in
    let P : List (List Slot) = take at bs in
    let Q : List (List Slot) = drop (at + 1) bs in
    let J : List (List Slot) = slice_range bs from at in
    let is : insert (set bs at f) (at + 1) g ≡ (P ++ f ∷ []) ++ g ∷ Q = λ i. take_more_set bs at f l i ++ g ∷ drop-set-lt (at + 1) bs at f (omega arith) i in
    let lp : length P ≡ at = length-take-le at bs (omega arith) in
    let lpf : length (P ++ f ∷ []) ≡ length P + 1 = length-append P (f ∷ []) in
    let lnew : length ((P ++ f ∷ []) ++ g ∷ Q) ≡ length (P ++ f ∷ []) + length (g ∷ Q) = length-append (P ++ f ∷ []) (g ∷ Q) in
    let gap : from + (at - from) ≡ at = omega arith in
    let J_is : drop from P ≡ J = ap (λ (n : ℕ). drop from (take n bs)) (sym gap) ∙ drop-take from (at - from) bs in
    let lj : length J ≡ at - from = ap (λ x. length x) (sym J_is) ∙ length-drop from P ∙ (let e : length P - from ≡ at - from = omega arith in e) in
    let ljf : length (J ++ f ∷ []) ≡ length J + 1 = length-append J (f ∷ []) in
    let drop_new : drop from ((P ++ f ∷ []) ++ g ∷ Q) ≡ (J ++ f ∷ []) ++ g ∷ Q =
    drop-append-le from (P ++ f ∷ []) (g ∷ Q) (omega arith) ∙ ap (λ x. x ++ g ∷ Q) (drop-append-le from P (f ∷ []) (omega arith) ∙ ap (λ x. x ++ f ∷ []) J_is) in
    let lf : length f ≡ o = length-take-le o b inside in
    let lJf : length (joined J ++ f) ≡ length (joined J) + length f = length-append (joined J) f in
    let n : length (joined J ++ f) ≡ position = omega arith in
    let all : joined (drop from bs) ≡ (joined J ++ f) ++ (g ++ joined Q) =
    joined_split bs from at low ∙ ap (λ x. joined J ++ joined x) (drop_more bs at [] l) ∙ ap (λ x. joined J ++ (x ++ joined Q)) (sym (take-append-drop o b)) ∙ ap (λ x. joined J ++ x) (append_assoc f g (joined Q)) ∙ sym (append_assoc (joined J) f (g ++ joined Q)) in
    record {
      front = ap (take from) is ∙ take-append-le from (P ++ f ∷ []) (g ∷ Q) (omega arith) ∙ take-append-le from P (f ∷ []) (omega arith) ∙ take-take from at bs low;
      low = omega arith;
      within = omega (arith, ap (λ x. length x) is);
      middle = ap (λ x. joined (take (at + 1 - from) x)) (ap (drop from) is ∙ drop_new) ∙ ap (λ x. joined x) (take_at (J ++ f ∷ []) (g ∷ Q) (at + 1 - from) (omega arith))
          ∙ joined-append J (f ∷ []) ∙ ap (λ x. joined J ++ x) (joined-one f) ∙ sym (ap (take position) all ∙ take_at (joined J ++ f) (g ++ joined Q) position n);
      back = ap (λ x. joined (drop (at + 1) x)) is ∙ ap (λ x. joined x) (drop_at (P ++ f ∷ []) (g ∷ Q) (at + 1) (omega arith)) ∙ sym (ap (drop position) all ∙ drop_at (joined J ++ f) (g ++ joined Q) position n);
    }

-- a part of a list, by its front
pub slice_of_take : {X : Type 0} (xs : List X) (i j : ℕ) → i ≤ j → slice_range xs i j ≡ drop i (take j xs)
slice_of_take xs i j le = sym (ap (λ (n : ℕ). drop i (take n xs)) (let e : j ≡ i + (j - i) = omega arith in e) ∙ drop-take i (j - i) xs)

pub parted : (bs bs1 bs2 bs3 : List (List Slot)) (low middle high i j k : ℕ) → low ≤ middle → middle ≤ high → IsCut bs bs1 0 low i → IsCut bs1 bs2 i (middle - low) j → IsCut bs2 bs3 j (high - middle) k
    → IsParted (joined bs) bs3 low middle high i j k
parted bs bs1 bs2 bs3 low middle high i j k le1 le2 c1 c2 c3 =
    let S : List Slot = joined bs in
    let zero_off : i - 0 ≡ i = omega arith in
    let rest1 : joined (drop i bs1) ≡ drop low S = c1.back in
    let to : low + (middle - low) ≡ middle = omega arith in
    let rest2 : joined (drop j bs2) ≡ drop middle S = c2.back ∙ ap (drop (middle - low)) rest1 ∙ drop-drop (middle - low) low S ∙ ap (λ (n : ℕ). drop n S) to in
    let to2 : middle + (high - middle) ≡ high = omega arith in
    let front3 : take i bs3 ≡ take i bs1 = sym (take-take i j bs3 c2.low) ∙ ap (take i) c3.front ∙ take-take i j bs2 c2.low ∙ c2.front in
    record {
      first = c2.low;
      second = c3.low;
      within = c3.within;
      front = ap (λ x. joined x) front3 ∙ ap (λ (n : ℕ). joined (take n bs1)) (sym zero_off) ∙ c1.middle;
      left = ap (λ x. joined x) (slice_of_take bs3 i j c2.low ∙ ap (drop i) c3.front ∙ sym (slice_of_take bs2 i j c2.low)) ∙ c2.middle ∙ ap (take (middle - low)) rest1;
      right = c3.middle ∙ ap (take (high - middle)) rest2;
      back = c3.back ∙ ap (drop (high - middle)) rest2 ∙ drop-drop (high - middle) middle S ∙ ap (λ (n : ℕ). drop n S) to2;
    }

-- two neighbours joined
abbrev pub merged : List (List Slot) → ℕ → List (List Slot)
merged bs at = set (remove bs (suc at)) at (get_or bs at [] ++ get_or bs (suc at) [])

pub joined-merged : (bs : List (List Slot)) (at : ℕ) → suc at < length bs → joined (merged bs at) ≡ joined bs
joined-merged [] at l = absurd (omega arith)
joined-merged (b ∷ []) at l = absurd (omega arith)
joined-merged (b ∷ c ∷ bs) zero l = append_assoc b c (joined bs)
joined-merged (b ∷ c ∷ bs) (suc at) l = ap (λ x. b ++ x) (joined-merged (c ∷ bs) at (omega arith))

pub merged-below : (bs : List (List Slot)) (at k : ℕ) → suc at < length bs → k < at → get_or (merged bs at) k [] ≡ get_or bs k []
merged-below bs at k l less = get_or-set_other (remove bs (suc at)) at k _ [] (λ e. omega arith) ∙ get_or-remove_below bs (suc at) [] k (omega arith) l

pub merged-at : (bs : List (List Slot)) (at : ℕ) → suc at < length bs → get_or (merged bs at) at [] ≡ get_or bs at [] ++ get_or bs (suc at) []
merged-at [] at l = absurd (omega arith)
merged-at (b ∷ []) at l = absurd (omega arith)
merged-at (b ∷ c ∷ bs) zero l = refl
merged-at (b ∷ c ∷ bs) (suc at) l = merged-at (c ∷ bs) at (omega arith)

pub paired-merged : (bs : List (List Slot)) (at k : ℕ) → suc at < length bs → k < at → 256 < length (get_or bs k []) + length (get_or bs (k + 1) [])
    → 256 < length (get_or (merged bs at) k []) + length (get_or (merged bs at) (k + 1) [])
paired-merged bs at k l less h =
    let one : length (get_or (merged bs at) k []) ≡ length (get_or bs k []) = ap (λ x. length x) (merged-below bs at k l less) in
    elim (cases_eq (k + 1) at) [
      | inl e ↦
          let two : length (get_or (merged bs at) (k + 1) []) ≡ length (get_or bs (k + 1) [] ++ get_or bs (suc at) []) = ap (λ (n : ℕ). length (get_or (merged bs at) n [])) e ∙ ap (λ x. length x) (merged-at bs at l) ∙ ap (λ (n : ℕ). length (get_or bs n [] ++ get_or bs (suc at) [])) (sym e) in
          omega (arith, length-append (get_or bs (k + 1) []) (get_or bs (suc at) []))
      | inr ne ↦
          let two : length (get_or (merged bs at) (k + 1) []) ≡ length (get_or bs (k + 1) []) = ap (λ x. length x) (merged-below bs at (k + 1) l (omega arith)) in
          omega arith
    ]

-- neighbours of more than 256 slots are few
pub few_blocks : (bs : List (List Slot)) → IsPaired bs → 128 * length bs ≤ length (joined bs) + 128
few_blocks bs h = let e = few_from bs h in omega arith
  where
    few_from : (bs : List (List Slot)) → IsPaired bs → 256 * length bs + length (get_or bs 0 []) ≤ 2 * length (joined bs) + 256
    few_from [] h = omega arith
    few_from (b ∷ []) h = let e : length (joined (b ∷ [])) ≡ length b = ap (λ x. length x) (joined-one b) in omega arith
    few_from (b ∷ c ∷ bs) h =
        let next : IsPaired (c ∷ bs) = λ k l. let e : suc k + 1 ≡ suc (k + 1) = omega arith in subst (λ (n : ℕ). 256 < length (get_or (c ∷ bs) k []) + length (get_or (b ∷ c ∷ bs) n [])) e (h (suc k) (omega arith)) in
        let rest = few_from (c ∷ bs) next in
        let here : 256 < length b + length c = h 0 (omega arith) in
        omega (arith, length-append b (joined (c ∷ bs)))
