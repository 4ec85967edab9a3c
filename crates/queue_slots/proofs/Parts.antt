-- Parts of slots, that are copied from blocks and put back into them.
use Rattle.std.proofs.Common.{◌≡◌, ℕ, zero, suc, ◌+◌, ◌-◌, ◌<◌, ◌≤◌, List, [], ◌∷◌, ◌++◌, length, take, drop, get_or, set, refl, ap, sym, ◌∙◌, arith, append_assoc, length-append, length-take, length-drop}
use Rattle.std.proofs.lemmas.List.{take-append-drop, length-take-le, drop_more}
use Rattle.queue_slots.specs.declared.entry.Slot.{Slot}
use Rattle.queue_slots.specs.Slots.{with_put_back}
use Rattle.queue_slots.specs.Blocks.{joined, IsSpot, with_slot_changed}
use Rattle.queue_slots.proofs.Joined.{joined-append}
use Rattle.queue_slots.proofs.Exchanges.{joined-changed, set-append_right, take-changed, spot-inside, spot-total}

drop-both : (xs ys : List Slot) (n : ℕ) → drop n (xs ++ ys) ≡ drop n xs ++ drop (n - length xs) ys
drop-both [] ys zero = refl
drop-both [] ys (suc n) = let all : suc n ≡ suc n - 0 = omega arith in ap (λ (k : ℕ). drop k ys) all
drop-both (x ∷ xs) ys zero = let none : 0 - suc (length xs) ≡ 0 = omega arith in ap (λ (k : ℕ). x ∷ xs ++ drop k ys) (sym none)
drop-both (x ∷ xs) ys (suc n) = let same : n - length xs ≡ suc n - suc (length xs) = omega arith in drop-both xs ys n ∙ ap (λ (k : ℕ). drop n xs ++ drop k ys) same

take-both : (xs ys : List Slot) (n : ℕ) → take n (xs ++ ys) ≡ take n xs ++ take (n - length xs) ys
take-both [] ys zero = refl
take-both [] ys (suc n) = let all : suc n ≡ suc n - 0 = omega arith in ap (λ (k : ℕ). take k ys) all
take-both (x ∷ xs) ys zero = let none : 0 - suc (length xs) ≡ 0 = omega arith in ap (λ (k : ℕ). take k ys) (sym none)
take-both (x ∷ xs) ys (suc n) = let same : n - length xs ≡ suc n - suc (length xs) = omega arith in ap (λ l. x ∷ l) (take-both xs ys n ∙ ap (λ (k : ℕ). take n xs ++ take k ys) same)

-- a part of slots, and what of it is in those that follow them
pub part-more : (xs ys : List Slot) (from most before left : ℕ) → before ≡ from - length xs → left ≡ most - length (take most (drop from xs))
    → take most (drop from (xs ++ ys)) ≡ take most (drop from xs) ++ take left (drop before ys)
part-more xs ys from most before left is_before is_left =
    let long = length-take most (drop from xs) in
    let rest : most - length (drop from xs) ≡ left = omega arith in
    ap (take most) (drop-both xs ys from) ∙ take-both (drop from xs) (drop (from - length xs) ys) most
    ∙ (λ i. take most (drop from xs) ++ take (rest i) (drop (sym is_before i) ys))

-- slots that are put back one by one
pub put_back-none : (S : List Slot) (start : ℕ) → S ≡ with_put_back S start []
put_back-none S start = let at : start ≡ start + 0 = omega arith in sym (take-append-drop start S) ∙ ap (λ (k : ℕ). take start S ++ drop k S) at

pub length-put_back : (S xs : List Slot) (start : ℕ) → start + length xs ≤ length S → length (with_put_back S start xs) ≡ length S
length-put_back S xs start within =
    let one = length-append (take start S) (xs ++ drop (start + length xs) S) in
    let two = length-append xs (drop (start + length xs) S) in
    let three = length-take-le start S (omega arith) in
    let four = length-drop (start + length xs) S in
    omega arith

pub put_back-more : (S xs : List Slot) (start : ℕ) (x : Slot) → start + length xs < length S → set (with_put_back S start xs) (start + length xs) x ≡ with_put_back S start (xs ++ x ∷ [])
put_back-more S xs start x within =
    let front : List Slot = take start S in
    let at : ℕ = start + length xs in
    let long = length-take-le start S (omega arith) in
    let size = length-append xs (x ∷ []) in
    let next : at + 1 ≡ start + length (xs ++ x ∷ []) = omega arith in
    set-append_right front (xs ++ drop at S) at (length xs) x (omega arith)
    ∙ ap (λ l. front ++ l) (set-append_right xs (drop at S) (length xs) 0 x (omega arith) ∙ ap (λ l. xs ++ set l 0 x) (drop_more S at x within)
    ∙ ap (λ (n : ℕ). xs ++ x ∷ drop n S) next ∙ sym (append_assoc xs (x ∷ []) (drop (start + length (xs ++ x ∷ [])) S)))

-- the blocks when some slots are back, and the block where the last of them went
module _ (S : List Slot) (bs : List (List Slot)) (start at offset : ℕ) (xs : List Slot) (is : joined bs ≡ with_put_back S start xs) (within : at ≤ length bs)
    (spot : length (joined (take at bs)) + offset ≡ start + length xs) (less : start + length xs < length S) where
  -- the next of them has a position behind it
  pub next_within : offset < length (joined (drop at bs))
  next_within =
      let all = ap (λ x. length (joined x)) (take-append-drop at bs) in
      let parts = ap (λ x. length x) (joined-append (take at bs) (drop at bs)) in
      let sum = length-append (joined (take at bs)) (joined (drop at bs)) in
      let long = ap (λ x. length x) is in
      let size = length-put_back S xs start (omega arith) in
      omega arith

  module _ (next inside : ℕ) (found : IsSpot bs at offset next inside) where
    pub next_inside : (next < length bs) × (inside < length (get_or bs next []))
    next_inside = spot-inside bs at offset next inside within found next_within

    next_sum : length (joined (take next bs)) + inside ≡ start + length xs
    next_sum = spot-total bs at offset next inside found ∙ spot

    pub next_put : (x : Slot) → joined (with_slot_changed bs next inside x) ≡ with_put_back S start (xs ++ x ∷ [])
    next_put x = joined-changed bs next inside (start + length xs) next_inside.0 next_sum x next_inside.1 ∙ ap (λ l. set l (start + length xs) x) is ∙ put_back-more S xs start x less

    pub next_spot : (x : Slot) → length (joined (take next (with_slot_changed bs next inside x))) + (inside + 1) ≡ start + length (xs ++ x ∷ [])
    next_spot x =
        let same = ap (λ l. length (joined l)) (take-changed bs next next (set (get_or bs next []) inside x) (omega arith)) in
        let sum = next_sum in
        let size = length-append xs (x ∷ []) in
        omega arith
