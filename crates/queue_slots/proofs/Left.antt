-- What edits of the blocks leave.
use Rattle.std.proofs.Common.{◌≡◌, ℕ, ◌+◌, ◌-◌, ◌≤◌, Bool, List, ◌++◌, length, map, take, drop, ap, sym, ◌∙◌, arith, length-append, length-drop, length-take}
use Rattle.std.specs.List.{drop-map, slice_range}
use Rattle.std.proofs.lemmas.List.{take_at, drop_at, length-take-le, length-map}
use Rattle.queue_slots.specs.declared.entry.Entry.{Entry}
use Rattle.queue_slots.specs.declared.entry.Slot.{Slot}
use Rattle.queue_slots.specs.Slots.{kept, written, entries_of}
use Rattle.queue_slots.specs.Blocks.{joined, IsParted}
use Rattle.queue_slots.proofs.Joined.{joined-append, entries_of-append, joined_split, drop_split}
use Rattle.queue_slots.proofs.Positions.{parted-rest}

pub put_in-is : (v : ℕ) (w : Bool) (S : List Slot) (B added X R : List (List Slot)) (at i j k : ℕ) (es : List Entry) → IsParted S B at at at i j k → entries_of (joined added) ≡ es → X ≡ take i B ++ (added ++ drop i B)
    → joined R ≡ map (kept w) (joined (take i X)) ++ map (written v w) (entries_of (joined (drop i X)))
    → joined R ≡ map (kept w) (take at S) ++ map (written v w) (es ++ drop at (entries_of S))
put_in-is v w S B added X R at i j k es parts made x r =
    let first = parts.first in
    let second = parts.second in
    let third = parts.within in
    let n : length (take i B) ≡ i = length-take-le i B (omega arith) in
    let front : joined (take i X) ≡ take at S = ap (λ y. joined (take i y)) x ∙ ap (λ y. joined y) (take_at (take i B) (added ++ drop i B) i n) ∙ parts.front in
    let rest : joined (drop i B) ≡ drop at S = parted-rest S B at at at i j k (omega arith) (omega arith) parts in
    let back : entries_of (joined (drop i X)) ≡ es ++ drop at (entries_of S) =
    ap (λ y. entries_of (joined (drop i y))) x ∙ ap (λ y. entries_of (joined y)) (drop_at (take i B) (added ++ drop i B) i n) ∙ ap (λ y. entries_of y) (joined-append added (drop i B) ∙ ap (λ y. joined added ++ y) rest)
    ∙ entries_of-append (joined added) (drop at S) ∙ (let same = sym (drop-map (λ (s : Slot). s.entry) at S) in λ t. made t ++ same t) in
    r ∙ (λ t. map (kept w) (front t) ++ map (written v w) (back t))

pub length-put_in : (v : ℕ) (w : Bool) (S : List Slot) (at : ℕ) (es : List Entry) → at ≤ length S → length (map (kept w) (take at S) ++ map (written v w) (es ++ drop at (entries_of S))) ≡ length S + length es
length-put_in v w S at es le =
    let a = length-append (map (kept w) (take at S)) (map (written v w) (es ++ drop at (entries_of S))) in
    let b = length-map (take at S) (kept w) in
    let d = length-map (es ++ drop at (entries_of S)) (written v w) in
    let e = length-append es (drop at (entries_of S)) in
    let f = length-drop at (entries_of S) in
    let g : length (entries_of S) ≡ length S = length-map S (λ (s : Slot). s.entry) in
    let h = length-take-le at S le in
    omega arith

pub take_out-is : (v : ℕ) (w : Bool) (S : List Slot) (B X R : List (List Slot)) (start end i j k : ℕ) → IsParted S B start end end i j k → X ≡ take i B ++ drop k B
    → joined R ≡ map (kept w) (joined (take i X)) ++ map (written v w) (entries_of (joined (drop i X)))
    → joined R ≡ map (kept w) (take start S) ++ map (written v w) (drop end (entries_of S))
take_out-is v w S B X R start end i j k parts x r =
    let first = parts.first in
    let second = parts.second in
    let third = parts.within in
    let n : length (take i B) ≡ i = length-take-le i B (omega arith) in
    let front : joined (take i X) ≡ take start S = ap (λ y. joined (take i y)) x ∙ ap (λ y. joined y) (take_at (take i B) (drop k B) i n) ∙ parts.front in
    let back : entries_of (joined (drop i X)) ≡ drop end (entries_of S) =
    ap (λ y. entries_of (joined (drop i y))) x ∙ ap (λ y. entries_of (joined y)) (drop_at (take i B) (drop k B) i n) ∙ ap (λ y. entries_of y) parts.back ∙ sym (drop-map (λ (s : Slot). s.entry) end S) in
    r ∙ (λ t. map (kept w) (front t) ++ map (written v w) (back t))

pub length-take_out : (v : ℕ) (w : Bool) (S : List Slot) (start end : ℕ) → start ≤ end → end ≤ length S → length (map (kept w) (take start S) ++ map (written v w) (drop end (entries_of S))) ≡ length S - (end - start)
length-take_out v w S start end order le =
    let a = length-append (map (kept w) (take start S)) (map (written v w) (drop end (entries_of S))) in
    let b = length-map (take start S) (kept w) in
    let d = length-map (drop end (entries_of S)) (written v w) in
    let f = length-drop end (entries_of S) in
    let g : length (entries_of S) ≡ length S = length-map S (λ (s : Slot). s.entry) in
    let h = length-take-le start S (omega arith) in
    omega arith

pub part-is : (f : Slot → Slot) (S : List Slot) (B R : List (List Slot)) (start end i j k : ℕ) → IsParted S B start end end i j k → joined R ≡ joined (take i B) ++ (map f (joined (slice_range B i j)) ++ joined (drop j B))
    → joined R ≡ take start S ++ (map f (slice_range S start end) ++ drop end S)
part-is f S B R start end i j k parts r =
    let back : joined (drop j B) ≡ drop end S = joined_split B j k parts.second ∙ (λ t. parts.right t ++ parts.back t) ∙ sym (drop_split S end end (omega arith)) in
    let front = parts.front in
    let middle = parts.left in
    r ∙ (λ t. front t ++ (map f (middle t) ++ back t))

pub length-part : (f : Slot → Slot) (S : List Slot) (start end : ℕ) → start ≤ end → end ≤ length S → length (take start S ++ (map f (slice_range S start end) ++ drop end S)) ≡ length S
length-part f S start end order le =
    let a = length-append (take start S) (map f (slice_range S start end) ++ drop end S) in
    let b = length-append (map f (slice_range S start end)) (drop end S) in
    let d = length-map (slice_range S start end) f in
    let e = length-take (end - start) (drop start S) in
    let g = length-drop start S in
    let h = length-drop end S in
    let m = length-take start S in
    omega arith
