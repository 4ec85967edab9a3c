-- Two entries in blocks that are swapped.
use Rattle.std.proofs.Common.{◌≡◌, ℕ, zero, suc, ◌+◌, ◌-◌, ◌<◌, ◌≤◌, Bool, List, [], ◌∷◌, ◌++◌, length, take, drop, get_or, set, refl, ap, sym, ◌∙◌, inl, inr, arith, append_assoc, length-append}
use Rattle.std.specs.Prelude.{swap}
use Rattle.std.specs.List.{slice_range, insert, remove}
use Rattle.std.proofs.lemmas.Bool.{cases_eq}
use Rattle.std.proofs.lemmas.List.{take-append-drop, take-take, take_rest, length-set, get_or-set_same, get_or-set_other}
use Rattle.std.proofs.lemmas.List.Edits.{swap_is, length-swap, get_or-remove_below, length-remove, insert-append_left, insert-append_right, remove-append_left, remove-append_right}
use Rattle.queue_slots.specs.declared.entry.Slot.{Slot}
use Rattle.queue_slots.specs.Slots.{written, write_at}
use Rattle.queue_slots.specs.Blocks.{joined, IsSpot, with_exchanged, with_slot_changed, with_slot_pulled, with_slot_put}
use Rattle.queue_slots.proofs.Joined.{joined-append, slice_of_take}
use Rattle.queue_slots.proofs.Positions.{get_or-joined}

-- one put in where one was taken out
insert-removed : {X : Type 0} (xs : List X) (h : ℕ) (x : X) → h < length xs → insert (remove xs h) h x ≡ set xs h x
insert-removed [] h x l = absurd (omega arith)
insert-removed (y ∷ ys) zero x l = refl
insert-removed (y ∷ ys) (suc h) x l = λ i. y ∷ insert-removed ys h x (omega arith) i

-- and another one changed before it meanwhile
changed-before : {X : Type 0} (xs : List X) (l h : ℕ) (x y : X) → l < h → h < length xs → insert (set (remove xs h) l y) h x ≡ set (set xs l y) h x
changed-before [] l h x y below within = absurd (omega arith)
changed-before (z ∷ zs) l zero x y below within = absurd (omega arith)
changed-before (z ∷ zs) zero (suc h) x y below within = λ i. y ∷ insert-removed zs h x (omega arith) i
changed-before (z ∷ zs) (suc l) (suc h) x y below within = λ i. z ∷ changed-before zs l h x y (omega arith) (omega arith) i

set-append_left : (xs ys : List Slot) (i : ℕ) (x : Slot) → i < length xs → set (xs ++ ys) i x ≡ set xs i x ++ ys
set-append_left [] ys i x l = absurd (omega arith)
set-append_left (z ∷ zs) ys zero x l = refl
set-append_left (z ∷ zs) ys (suc i) x l = λ t. z ∷ set-append_left zs ys i x (omega arith) t

pub set-append_right : (xs ys : List Slot) (n i : ℕ) (x : Slot) → n ≡ length xs + i → set (xs ++ ys) n x ≡ xs ++ set ys i x
set-append_right [] ys n i x e = let same : n ≡ i = omega arith in ap (λ (m : ℕ). set ys m x) same
set-append_right (z ∷ zs) ys zero i x e = absurd (omega arith)
set-append_right (z ∷ zs) ys (suc n) i x e = λ t. z ∷ set-append_right zs ys n i x (omega arith) t

-- the blocks before one, that one, and those behind
joined-set : (bs : List (List Slot)) (at : ℕ) (c : List Slot) → at < length bs → joined (set bs at c) ≡ joined (take at bs) ++ (c ++ joined (drop (suc at) bs))
joined-set [] at c l = absurd (omega arith)
joined-set (b ∷ bs) zero c l = refl
joined-set (b ∷ bs) (suc at) c l = ap (λ x. b ++ x) (joined-set bs at c (omega arith)) ∙ sym (append_assoc b (joined (take at bs)) (c ++ joined (drop (suc at) bs)))

joined-split : (bs : List (List Slot)) (at : ℕ) → at < length bs → joined bs ≡ joined (take at bs) ++ (get_or bs at [] ++ joined (drop (suc at) bs))
joined-split [] at l = absurd (omega arith)
joined-split (b ∷ bs) zero l = refl
joined-split (b ∷ bs) (suc at) l = ap (λ x. b ++ x) (joined-split bs at (omega arith)) ∙ sym (append_assoc b (joined (take at bs)) (get_or bs at [] ++ joined (drop (suc at) bs)))

module _ (bs : List (List Slot)) (at o n : ℕ) (l : at < length bs) (sum : length (joined (take at bs)) + o ≡ n) where
  abbrev front : List Slot
  front = joined (take at bs)

  abbrev block : List Slot
  block = get_or bs at []

  abbrev back : List Slot
  back = joined (drop (suc at) bs)

  rest : n - length front ≡ o
  rest = omega arith

  pub joined-pulled : o < length block → joined (with_slot_pulled bs at o) ≡ remove (joined bs) n
  joined-pulled inside =
      joined-set bs at (remove block o) l ∙ ap (λ x. front ++ x) (sym (remove-append_left block back o inside) ∙ ap (λ (k : ℕ). remove (block ++ back) k) (sym rest))
      ∙ sym (remove-append_right front (block ++ back) (length front) n refl (omega arith)) ∙ ap (λ x. remove x n) (sym (joined-split bs at l))

  pub joined-put : (x : Slot) → o ≤ length block → joined (with_slot_put bs at o x) ≡ insert (joined bs) n x
  joined-put x inside =
      joined-set bs at (insert block o x) l ∙ ap (λ y. front ++ y) (sym (insert-append_left block back o x inside) ∙ ap (λ (k : ℕ). insert (block ++ back) k x) (sym rest))
      ∙ sym (insert-append_right front (block ++ back) (length front) n x refl (omega arith)) ∙ ap (λ y. insert y n x) (sym (joined-split bs at l))

  pub joined-changed : (x : Slot) → o < length block → joined (with_slot_changed bs at o x) ≡ set (joined bs) n x
  joined-changed x inside =
      joined-set bs at (set block o x) l ∙ ap (λ y. front ++ y) (sym (set-append_left block back o x inside))
      ∙ sym (set-append_right front (block ++ back) n o x (sym sum)) ∙ ap (λ y. set y n x) (sym (joined-split bs at l))

-- a block that gives way to one of the same length leaves all lengths
pub length-changed : (bs : List (List Slot)) (i j : ℕ) (c : List Slot) → length c ≡ length (get_or bs i []) → length (get_or (set bs i c) j []) ≡ length (get_or bs j [])
length-changed [] i j c e = refl
length-changed (b ∷ bs) zero zero c e = e
length-changed (b ∷ bs) zero (suc j) c e = refl
length-changed (b ∷ bs) (suc i) zero c e = refl
length-changed (b ∷ bs) (suc i) (suc j) c e = length-changed bs i j c e

length-taken : (bs : List (List Slot)) (i j : ℕ) (c : List Slot) → length c ≡ length (get_or bs i []) → length (joined (take j (set bs i c))) ≡ length (joined (take j bs))
length-taken [] i j c e = refl
length-taken (b ∷ bs) i zero c e = refl
length-taken (b ∷ bs) zero (suc j) c e = omega (arith, length-append c (joined (take j bs)), length-append b (joined (take j bs)), e)
length-taken (b ∷ bs) (suc i) (suc j) c e = omega (arith, length-append b (joined (take j (set bs i c))), length-append b (joined (take j bs)), length-taken bs i j c e)

pub take-changed : (bs : List (List Slot)) (i j : ℕ) (c : List Slot) → i ≤ j → take i (set bs j c) ≡ take i bs
take-changed [] i j c le = refl
take-changed (b ∷ bs) zero j c le = refl
take-changed (b ∷ bs) (suc i) zero c le = absurd (omega arith)
take-changed (b ∷ bs) (suc i) (suc j) c le = λ t. b ∷ take-changed bs i j c (omega arith) t

-- a position that has a slot is in a block
pub spot-inside : (bs : List (List Slot)) (from position at o : ℕ) → from ≤ length bs → IsSpot bs from position at o → position < length (joined (drop from bs)) → (at < length bs) × (o < length (get_or bs at []))
spot-inside bs from position at o le h less = elim h.inside [
  | inl p ↦
      let all : length (joined (slice_range bs from at)) ≡ length (joined (drop from bs)) = ap (λ (n : ℕ). length (joined (slice_range bs from n))) p.0 ∙ ap (λ x. length (joined x)) (take_rest bs from) in
      absurd (omega (arith, h.sum, p.1))
  | inr p ↦ p
]

pub spot-sum : (bs : List (List Slot)) (position at o : ℕ) → IsSpot bs 0 position at o → length (joined (take at bs)) + o ≡ position
spot-sum bs position at o h = let off : at - 0 ≡ at = omega arith in ap (λ (n : ℕ). length (joined (take n bs)) + o) (sym off) ∙ h.sum

pub spot-total : (bs : List (List Slot)) (from position at o : ℕ) → IsSpot bs from position at o → length (joined (take at bs)) + o ≡ length (joined (take from bs)) + position
spot-total bs from position at o h =
    let parts : take at bs ≡ take from bs ++ slice_range bs from at = sym (take-append-drop from (take at bs)) ∙ (λ t. take-take from at bs h.low t ++ sym (slice_of_take bs from at h.low) t) in
    let sizes : length (joined (take at bs)) ≡ length (joined (take from bs)) + length (joined (slice_range bs from at)) =
    ap (λ x. length (joined x)) parts ∙ ap (λ x. length x) (joined-append (take from bs) (slice_range bs from at)) ∙ length-append (joined (take from bs)) (joined (slice_range bs from at)) in
    let sum = h.sum in
    omega arith

-- both slots written, in either way to say it
write_at-set : (v : ℕ) (w : Bool) (xs : List Slot) (h : ℕ) (x : Slot) → h < length xs → write_at v w (set xs h x) h ≡ set xs h (written v w x.entry)
write_at-set v w [] h x l = absurd (omega arith)
write_at-set v w (z ∷ zs) zero x l = refl
write_at-set v w (z ∷ zs) (suc h) x l = λ i. z ∷ write_at-set v w zs h x (omega arith) i

written-both : (v : ℕ) (w : Bool) (xs : List Slot) (l h : ℕ) (x y : Slot) → l < h → h < length xs
    → write_at v w (write_at v w (set (set xs l y) h x) l) h ≡ set (set xs l (written v w y.entry)) h (written v w x.entry)
written-both v w [] l h x y below within = absurd (omega arith)
written-both v w (z ∷ zs) l zero x y below within = absurd (omega arith)
written-both v w (z ∷ zs) zero (suc h) x y below within = λ i. written v w y.entry ∷ write_at-set v w zs h x (omega arith) i
written-both v w (z ∷ zs) (suc l) (suc h) x y below within = λ i. z ∷ written-both v w zs l h x y (omega arith) (omega arith) i

module _ (bs : List (List Slot)) (low high i a : ℕ) (order : low < high) (within : high < length (joined bs)) (one : IsSpot bs 0 low i a) where
  split : length (joined (take i bs)) + length (joined (drop i bs)) ≡ length (joined bs)
  split = sym (length-append (joined (take i bs)) (joined (drop i bs))) ∙ ap (λ x. length x) (sym (joined-append (take i bs) (drop i bs)) ∙ ap (λ x. joined x) (take-append-drop i bs))

  pub first_inside : (i < length bs) × (a < length (get_or bs i []))
  first_inside = spot-inside bs 0 low i a (omega arith) one (omega arith)

  -- the second position, counted from the block of the first
  pub rest_fits : a + (high - low) < length (joined (drop i bs))
  rest_fits = let e = split in let f = spot-sum bs low i a one in omega arith

module _ (bs : List (List Slot)) (low high i a j b : ℕ) (order : low < high) (within : high < length (joined bs)) (one : IsSpot bs 0 low i a) (two : IsSpot bs i (a + (high - low)) j b) where
  abbrev K : List Slot
  K = joined bs

  abbrev pulled : List (List Slot)
  pulled = with_slot_pulled bs j b

  low_at : length (joined (take i bs)) + a ≡ low
  low_at = spot-sum bs low i a one

  first_in : (i < length bs) × (a < length (get_or bs i []))
  first_in = first_inside bs low high i a order within one

  pub second_inside : (j < length bs) × (b < length (get_or bs j []))
  second_inside = spot-inside bs i (a + (high - low)) j b one.high two (rest_fits bs low high i a order within one)

  high_at : length (joined (take j bs)) + b ≡ high
  high_at = let sum = spot-total bs i (a + (high - low)) j b two in let first = low_at in omega arith

  -- in one block the second is behind the first
  behind : i ≡ j → a < b
  behind e =
      let none : length (joined (slice_range bs i j)) ≡ 0 = let zero_long : j - i ≡ 0 = omega arith in ap (λ (n : ℕ). length (joined (take n (drop i bs)))) zero_long in
      let sum = two.sum in
      omega arith

  abbrev left : List Slot
  left = remove (get_or bs j []) b

  length-left : length left + 1 ≡ length (get_or bs j [])
  length-left = length-remove (get_or bs j []) b second_inside.1

  pub first_still : (i < length pulled) × (a < length (get_or pulled i []))
  first_still =
      let long : length pulled ≡ length bs = length-set bs j left in
      elim (cases_eq i j) [
        | inl e ↦
            let at : get_or pulled i [] ≡ left = ap (λ (n : ℕ). get_or pulled n []) e ∙ get_or-set_same bs j left [] second_inside.0 in
            let size = ap (λ x. length x) at in
            let less = behind e in
            let fewer = length-left in
            let block = second_inside.1 in
            (let l = first_in.0 in omega arith, omega arith)
        | inr ne ↦
            let size : length (get_or pulled i []) ≡ length (get_or bs i []) = ap (λ x. length x) (get_or-set_other bs j i left [] ne) in
            let l = first_in in
            (let m = l.0 in omega arith, let m = l.1 in omega arith)
      ]

  pub third_inside : (y : Slot) → (b ≤ length (get_or (with_slot_changed pulled i a y) j [])) × (length (get_or (with_slot_changed pulled i a y) j []) ≡ length (get_or pulled j []))
  third_inside y =
      let c : List Slot = set (get_or pulled i []) a y in
      let same : length (get_or (set pulled i c) j []) ≡ length (get_or pulled j []) = length-changed pulled i j c (length-set (get_or pulled i []) a y) in
      let size : length (get_or pulled j []) ≡ length left = ap (λ z. length z) (get_or-set_same bs j left [] second_inside.0) in
      let fewer = length-left in
      let inside = second_inside.1 in
      (omega arith, same)

  pub exchanged : (v : ℕ) (w : Bool) (first second : Slot) → ((d : Slot) → second ≡ get_or (get_or bs j []) b d) → ((d : Slot) → first ≡ get_or (get_or pulled i []) a d)
      → joined (with_slot_put (with_slot_changed pulled i a (written v w second.entry)) j b (written v w first.entry)) ≡ with_exchanged v w K low high
  exchanged v w first second is_second is_first =
      let y : Slot = written v w second.entry in
      let x : Slot = written v w first.entry in
      let changed : List (List Slot) = with_slot_changed pulled i a y in
      let c : List Slot = set (get_or pulled i []) a y in
      let c_long : length c ≡ length (get_or pulled i []) = length-set (get_or pulled i []) a y in
      let low_still : length (joined (take i pulled)) + a ≡ low = ap (λ z. length (joined z) + a) (take-changed bs i j left two.low) ∙ low_at in
      let high_still : length (joined (take j changed)) + b ≡ high =
      ap (λ (n : ℕ). n + b) (length-taken pulled i j c c_long ∙ ap (λ z. length (joined z)) (take-changed bs j j left (omega arith))) ∙ high_at in
      let long1 : length pulled ≡ length bs = length-set bs j left in
      let long2 : length changed ≡ length pulled = length-set pulled i c in
      let jl = second_inside.0 in
      let size : length (get_or changed j []) ≡ length left = length-changed pulled i j c c_long ∙ ap (λ z. length z) (get_or-set_same bs j left [] jl) in
      let fewer = length-left in
      let inside = second_inside.1 in
      let e1 : joined pulled ≡ remove K high = joined-pulled bs j b high jl high_at inside in
      let e2 : joined changed ≡ set (remove K high) low y = joined-changed pulled i a low first_still.0 low_still y first_still.1 ∙ ap (λ z. set z low y) e1 in
      let e3 : joined (with_slot_put changed j b x) ≡ insert (set (remove K high) low y) high x = joined-put changed j b high (omega arith) high_still x (omega arith) ∙ ap (λ z. insert z high x) e2 in
      let read_high : second ≡ get_or K high second = is_second second ∙ sym (get_or-joined bs j b second jl inside) ∙ ap (λ (n : ℕ). get_or K n second) high_at in
      let read_low : first ≡ get_or K low second =
      is_first second ∙ sym (get_or-joined pulled i a second first_still.0 first_still.1) ∙ ap (λ (n : ℕ). get_or (joined pulled) n second) low_still ∙ ap (λ z. get_or z low second) e1 ∙ get_or-remove_below K high second low order within in
      let swapped : set (set K low second) high first ≡ swap K low high = (λ t. set (set K low (read_high t)) high (read_low t)) ∙ swap_is K low high second (omega arith) within in
      e3 ∙ changed-before K low high x y order within ∙ sym (written-both v w K low high first second order within) ∙ ap (λ z. write_at v w (write_at v w z low) high) swapped

pub length-write_at : (v : ℕ) (w : Bool) (xs : List Slot) (i : ℕ) → length (write_at v w xs i) ≡ length xs
length-write_at v w [] i = refl
length-write_at v w (x ∷ xs) zero = refl
length-write_at v w (x ∷ xs) (suc i) = ap suc (length-write_at v w xs i)

pub length-exchanged : (v : ℕ) (w : Bool) (xs : List Slot) (a b : ℕ) → length (with_exchanged v w xs a b) ≡ length xs
length-exchanged v w xs a b = length-write_at v w (write_at v w (swap xs a b) a) b ∙ length-write_at v w (swap xs a b) a ∙ length-swap xs a b
