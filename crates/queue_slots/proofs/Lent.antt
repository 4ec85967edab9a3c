-- The entries that a block lends.
use Rattle.std.proofs.Common.{◌≡◌, ℕ, ◌+◌, ◌-◌, ◌<◌, ◌≤◌, List, [], ◌++◌, length, take, drop, get_or, ap, sym, subst, ◌∙◌, arith}
use Rattle.std.specs.Prelude.{All}
use Rattle.std.specs.List.{slice_range, take-map, drop-map}
use Rattle.std.proofs.lemmas.List.{drop_at, take_at, drop-append-le, drop-drop, take-take, length-map, get_or-map}
use Rattle.std.proofs.lemmas.List.Elements.{All-append, All-take, All-drop}
use Rattle.queue_slots.specs.declared.entry.Entry.{Entry}
use Rattle.queue_slots.specs.declared.entry.Slot.{Slot}
use Rattle.queue_slots.specs.Slots.{entries_of}
use Rattle.queue_slots.specs.Blocks.{joined}
use Rattle.queue_slots.proofs.Joined.{entries_of-append, slice_front, slice_back, slice_split}
use Rattle.queue_slots.proofs.Positions.{joined_at}

-- the entries of a block from a position on are those of all blocks from there up to its end
pub lent : (bs : List (List Slot)) (position at o : ℕ) → at < length bs → o < length (get_or bs at []) → length (joined (take at bs)) + o ≡ position
    → drop o (entries_of (get_or bs at [])) ≡ slice_range (entries_of (joined bs)) position (position + length (drop o (entries_of (get_or bs at []))))
lent bs position at o l inside sum =
    let entry : Slot → Entry = λ s. s.entry in
    let a : List Entry = entries_of (joined (take at bs)) in
    let b : List Entry = entries_of (get_or bs at []) in
    let d : List Entry = entries_of (joined (drop (at + 1) bs)) in
    let part : List Entry = drop o b in
    let all : entries_of (joined bs) ≡ a ++ (b ++ d) =
    ap (λ x. entries_of x) (joined_at bs at l) ∙ entries_of-append (joined (take at bs)) _ ∙ ap (λ x. a ++ x) (entries_of-append (get_or bs at []) (joined (drop (at + 1) bs))) in
    let long : length a ≡ length (joined (take at bs)) = length-map (joined (take at bs)) entry in
    let size : length b ≡ length (get_or bs at []) = length-map (get_or bs at []) entry in
    let to : length a + o ≡ position = omega arith in
    let from : drop position (entries_of (joined bs)) ≡ part ++ d =
    ap (drop position) all ∙ ap (λ (n : ℕ). drop n (a ++ (b ++ d))) (sym to) ∙ sym (drop-drop o (length a) (a ++ (b ++ d)))
    ∙ ap (drop o) (drop_at a (b ++ d) (length a) (omega arith)) ∙ drop-append-le o b d (omega arith) in
    let count : position + length part - position ≡ length part = omega arith in
    sym (ap (λ x. take (position + length part - position) x) from ∙ take_at part d _ (omega arith))

-- what holds of the entries of slots holds of the same entries in other slots
pub All-entries : (Q : Entry → Type 0) (xs ys : List Slot) → entries_of xs ≡ entries_of ys → All (λ (s : Slot). Q s.entry) xs → All (λ (s : Slot). Q s.entry) ys
All-entries Q xs ys e all = λ k d l.
    let entry : Slot → Entry = λ s. s.entry in
    let n : length (entries_of xs) ≡ length (entries_of ys) = ap (λ x. length x) e in
    let a = length-map xs entry in
    let b = length-map ys entry in
    let m : k < length xs = omega arith in
    subst Q (sym (get_or-map entry xs k d d.entry m) ∙ ap (λ x. get_or x k d.entry) e ∙ get_or-map entry ys k d d.entry l) (all k d m)

-- the first slots that are lent have the entries of a part
pub entries-lent : (S R : List Slot) (at count : ℕ) → entries_of R ≡ slice_range (entries_of S) at (at + length R) → count ≤ length R → entries_of (take count R) ≡ entries_of (slice_range S at (at + count))
entries-lent S R at count lends le =
    let entry : Slot → Entry = λ s. s.entry in
    let n : at + count - at ≡ count = omega arith in
    sym (take-map entry count R) ∙ ap (take count) lends ∙ take-take count (at + length R - at) (drop at (entries_of S)) (omega arith)
    ∙ ap (λ (m : ℕ). take m (drop at (entries_of S))) (sym n) ∙ ap (take (at + count - at)) (drop-map entry at S) ∙ take-map entry (at + count - at) (drop at S)

-- a part of a part
pub All-inside : (P : Slot → Type 0) (S : List Slot) (start at to end : ℕ) → start ≤ at → at ≤ to → to ≤ end → All P (slice_range S start end) → All P (slice_range S at to)
All-inside P S start at to end le1 le2 le3 all =
    let behind = subst (All P) (slice_back S start at end le1 (omega arith)) (All-drop P (at - start) (slice_range S start end) all) in
    subst (All P) (slice_front S at to end le2 le3) (All-take P (to - at) (slice_range S at end) behind)

pub All-longer : (P : Slot → Type 0) (S : List Slot) (start at to : ℕ) → start ≤ at → at ≤ to → All P (slice_range S start at) → All P (slice_range S at to) → All P (slice_range S start to)
All-longer P S start at to le1 le2 front back = subst (All P) (sym (slice_split S start at to le1 le2)) (All-append P (slice_range S start at) (slice_range S at to) front back)
