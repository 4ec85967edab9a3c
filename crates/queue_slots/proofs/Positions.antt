-- Positions in blocks that are joined.
use Rattle.std.proofs.Common.{◌≡◌, ◌≢◌, ℕ, zero, suc, ◌+◌, ◌-◌, ◌<◌, ◌≤◌, true, false, not, List, [], ◌∷◌, ◌++◌, length, take, drop, get_or, refl, ap, sym, ◌∙◌, inl, inr, arith, length-append, Some, None}
use Rattle.std.specs.Prelude.{All, AllPairs, slice_get, position, ◌==◌}
use Rattle.std.specs.List.{slice_range, position_or_len}
use Rattle.std.specs.Option.{option_map}
use Rattle.std.proofs.lemmas.Bool.{cond-true, cond-false, ne_eqb, eq-eqb, lt-ltb, le-ltb, eqb-true, eqb-false, cases_Bool, cases_lt}
use Rattle.std.proofs.lemmas.List.Elements.{All-cons}
use Rattle.std.proofs.lemmas.List.{take-append-drop, drop_all, drop_more, take_more, length-map, get_or-map}
use Rattle.std.proofs.lemmas.List.Concat.{get_or-flat_map}
use Rattle.std.proofs.lemmas.List.Quantifiers.{position-Some}
use Rattle.std.proofs.lemmas.Option.{slice_get-map}
use Rattle.queue_slots.specs.declared.entry.Entry.{Entry}
use Rattle.queue_slots.specs.declared.entry.Slot.{Slot}
use Rattle.queue_slots.specs.Slots.{entries_of}
use Rattle.queue_slots.specs.Blocks.{joined, IsSpot, IsParted}
use Rattle.queue_slots.proofs.Joined.{joined-append, joined-one, joined_split, drop_split}

pub slice_get_append_left : (xs ys : List Slot) (k : ℕ) → k < length xs → slice_get (xs ++ ys) k ≡ slice_get xs k
slice_get_append_left [] ys k l = absurd (omega arith)
slice_get_append_left (x ∷ xs) ys zero l = refl
slice_get_append_left (x ∷ xs) ys (suc k) l = slice_get_append_left xs ys k (omega arith)

pub slice_get_append_right : (xs ys : List Slot) (n k : ℕ) → n ≡ length xs + k → slice_get (xs ++ ys) n ≡ slice_get ys k
slice_get_append_right [] ys n k e = let same : n ≡ k = omega arith in ap (slice_get ys) same
slice_get_append_right (x ∷ xs) ys zero k e = absurd (omega arith)
slice_get_append_right (x ∷ xs) ys (suc n) k e = slice_get_append_right xs ys n k (omega arith)

-- the blocks before one, that one, and those behind
pub joined_at : (bs : List (List Slot)) (at : ℕ) → at < length bs → joined bs ≡ joined (take at bs) ++ (get_or bs at [] ++ joined (drop (at + 1) bs))
joined_at bs at l = ap (λ x. joined x) (sym (take-append-drop at bs)) ∙ joined-append (take at bs) (drop at bs) ∙ ap (λ x. joined (take at bs) ++ joined x) (drop_more bs at [] l)

pub slice_get-joined : (bs : List (List Slot)) (position at o : ℕ) → at < length bs → o < length (get_or bs at []) → length (joined (take at bs)) + o ≡ position → slice_get (joined bs) position ≡ slice_get (get_or bs at []) o
slice_get-joined bs position at o l inside sum =
    ap (λ x. slice_get x position) (joined_at bs at l) ∙ slice_get_append_right (joined (take at bs)) _ position o (sym sum) ∙ slice_get_append_left (get_or bs at []) (joined (drop (at + 1) bs)) o inside

pub entry-spot : (bs : List (List Slot)) (position at o : ℕ) → IsSpot bs 0 position at o → position < length (joined bs) → (at < length bs) × (slice_get (entries_of (joined bs)) position ≡ slice_get (entries_of (get_or bs at [])) o)
entry-spot bs position at o h less =
    let off : at - 0 ≡ at = omega arith in
    let taken : length (joined (slice_range bs 0 at)) ≡ length (joined (take at bs)) = ap (λ (n : ℕ). length (joined (take n bs))) off in
    let sum = h.sum in
    elim h.inside [
      | inl p ↦
          let all : length (joined (take at bs)) + length (joined (drop at bs)) ≡ length (joined bs) = sym (length-append (joined (take at bs)) (joined (drop at bs))) ∙ ap (λ x. length x) (sym (joined-append (take at bs) (drop at bs)) ∙ ap (λ x. joined x) (take-append-drop at bs)) in
          let none : length (joined (drop at bs)) ≡ 0 = ap (λ x. length (joined x)) (drop_all at bs (let e = p.0 in omega arith)) in
          absurd (let z = p.1 in omega arith)
      | inr p ↦
          let entry : Slot → Entry = λ s. s.entry in
          (p.0, slice_get-map entry (joined bs) position ∙ ap (option_map entry) (slice_get-joined bs position at o p.0 p.1 (omega arith)) ∙ sym (slice_get-map entry (get_or bs at []) o))
    ]

-- the slots from where the first of three positions is
pub parted-rest : (S : List Slot) (bs : List (List Slot)) (low middle high i j k : ℕ) → low ≤ middle → middle ≤ high → IsParted S bs low middle high i j k → joined (drop i bs) ≡ drop low S
parted-rest S bs low middle high i j k le1 le2 h =
    joined_split bs i j h.first ∙ (λ t. h.left t ++ joined_split bs j k h.second t) ∙ ap (λ x. slice_range S low middle ++ x) ((λ t. h.right t ++ h.back t) ∙ sym (drop_split S middle high le2)) ∙ sym (drop_split S low middle le1)

-- an id that one slot has, where no two have the same
first_at : (ss : List Slot) (id position : ℕ) → position < length ss → ((k : ℕ) (d : Slot) → k < position → (get_or ss k d).entry.id ≢ id) → ((d : Slot) → (get_or ss position d).entry.id ≡ id) → position_or_len (λ (s : Slot). s.entry.id == id) ss ≡ position
first_at [] id position l before is = absurd (omega arith)
first_at (s ∷ ss) id zero l before is = cond-false (not (s.entry.id == id)) _ _ (ap not (eq-eqb s.entry.id id (is s)))
first_at (s ∷ ss) id (suc position) l before is =
    let rest : position_or_len (λ (s : Slot). s.entry.id == id) ss ≡ position = first_at ss id position (omega arith) (λ k d less. before (suc k) d (omega arith)) is in
    let more : 1 + position ≡ suc position = omega arith in
    cond-true (not (s.entry.id == id)) _ _ (ap not (ne_eqb s.entry.id id (before 0 s (omega arith)))) ∙ ap (λ n. 1 + n) rest ∙ more

first_none : (ss : List Slot) (id : ℕ) → All (λ (s : Slot). s.entry.id ≢ id) ss → position_or_len (λ (s : Slot). s.entry.id == id) ss ≡ length ss
first_none [] id none = refl
first_none (s ∷ ss) id none =
    let rest = first_none ss id (λ k d l. none (suc k) d (omega arith)) in
    let more : 1 + length ss ≡ suc (length ss) = omega arith in
    cond-true (not (s.entry.id == id)) _ _ (ap not (ne_eqb s.entry.id id (none 0 s (omega arith)))) ∙ ap (λ n. 1 + n) rest ∙ more

pub position-found : (ss : List Slot) (id first_position : ℕ) → AllPairs (λ e f. e.id ≢ f.id) (entries_of ss) → first_position < length ss → ((d : Slot) → (get_or ss first_position d).entry.id ≡ id) → position (λ (s : Slot). s.entry.id == id) ss ≡ Some first_position
position-found ss id first_position distinct less is =
    let entry : Slot → Entry = λ s. s.entry in
    let long : length (entries_of ss) ≡ length ss = length-map ss entry in
    let other : (k : ℕ) (d : Slot) → k < first_position → (get_or ss k d).entry.id ≢ id = λ k d l same.
    distinct k first_position d.entry l (omega arith) (ap (λ (e : Entry). e.id) (get_or-map entry ss k d d.entry (omega arith)) ∙ same ∙ sym (is d) ∙ ap (λ (e : Entry). e.id) (sym (get_or-map entry ss first_position d d.entry less))) in
    let at = first_at ss id first_position less other is in
    cond-true _ _ _ (lt-ltb _ (length ss) (omega arith)) ∙ ap Some at

pub position-none : (ss : List Slot) (id : ℕ) → All (λ (s : Slot). s.entry.id ≢ id) ss → position (λ (s : Slot). s.entry.id == id) ss ≡ None
position-none ss id none = let at = first_none ss id none in cond-false _ _ _ (le-ltb _ (length ss) (omega arith))

-- a slot of one block, in all of them
pub get_or-joined : (bs : List (List Slot)) (at o : ℕ) (d : Slot) → at < length bs → o < length (get_or bs at []) → get_or (joined bs) (length (joined (take at bs)) + o) d ≡ get_or (get_or bs at []) o d
get_or-joined bs at o d l inside = get_or-flat_map (λ (b : List Slot). b) bs at o [] d l inside

-- all blocks up to one more
pub joined-more : (bs : List (List Slot)) (at : ℕ) → at < length bs → joined (take (at + 1) bs) ≡ joined (take at bs) ++ get_or bs at []
joined-more bs at l = ap (λ x. joined x) (take_more bs at [] l) ∙ joined-append (take at bs) (get_or bs at [] ∷ []) ∙ ap (λ x. joined (take at bs) ++ x) (joined-one (get_or bs at []))

pub joined-within : (bs : List (List Slot)) (at : ℕ) → at < length bs → length (joined (take at bs)) + length (get_or bs at []) ≤ length (joined bs)
joined-within bs at l =
    let one = ap (λ x. length x) (joined_at bs at l) ∙ length-append (joined (take at bs)) (get_or bs at [] ++ joined (drop (at + 1) bs)) in
    let two = length-append (get_or bs at []) (joined (drop (at + 1) bs)) in
    omega arith

-- a first position that a block has for an id
pub has_position : (b : List Slot) (id first_position : ℕ) → Some first_position ≡ position (λ (s : Slot). s.entry.id == id) b → (first_position < length b) × ((d : Slot) → (get_or b first_position d).entry.id ≡ id)
has_position [] id first_position e = cc
has_position (s ∷ ss) id first_position e =
    let at : (d : Slot) → (first_position < length (s ∷ ss)) × ((get_or (s ∷ ss) first_position d).entry.id == id ≡ true) × ((k : ℕ) → k < first_position → (get_or (s ∷ ss) k d).entry.id == id ≡ false) = λ d. position-Some (λ (s : Slot). s.entry.id == id) (s ∷ ss) first_position d (sym e) in
    ((at s).0, λ d. eqb-true (get_or (s ∷ ss) first_position d).entry.id id (at d).1)

all_before : (ss : List Slot) (id : ℕ) → length ss ≤ position_or_len (λ (s : Slot). s.entry.id == id) ss → All (λ (s : Slot). s.entry.id ≢ id) ss
all_before [] id h = λ k d l. absurd (omega arith)
all_before (s ∷ ss) id h = elim (cases_Bool (s.entry.id == id)) [
  | inl t ↦ let none : position_or_len (λ (s : Slot). s.entry.id == id) (s ∷ ss) ≡ 0 = cond-false (not (s.entry.id == id)) _ _ (ap not t) in absurd (omega arith)
  | inr f ↦
      let more : position_or_len (λ (s : Slot). s.entry.id == id) (s ∷ ss) ≡ 1 + position_or_len (λ (s : Slot). s.entry.id == id) ss = cond-true (not (s.entry.id == id)) _ _ (ap not f) in
      All-cons (λ (s : Slot). s.entry.id ≢ id) s ss (eqb-false s.entry.id id f) (all_before ss id (omega arith))
]

pub has_no_position : (b : List Slot) (id : ℕ) → None ≡ position (λ (s : Slot). s.entry.id == id) b → All (λ (s : Slot). s.entry.id ≢ id) b
has_no_position b id e = elim (cases_lt (position_or_len (λ (s : Slot). s.entry.id == id) b) (length b)) [
  | inl less ↦ let some : position (λ (s : Slot). s.entry.id == id) b ≡ Some (position_or_len (λ (s : Slot). s.entry.id == id) b) = cond-true _ _ _ (lt-ltb _ (length b) less) in absurd (let clash = e ∙ some in cc)
  | inr more ↦ all_before b id more
]
