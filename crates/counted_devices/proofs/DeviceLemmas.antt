-- A read from memory.
use Rattle.std.proofs.Common.{◌≡◌, ℕ, ◌+◌, ◌<◌, ◌≤◌, min, List, [], ◌++◌, length, take, drop, sym, ap, ◌∙◌, arith}
use Rattle.std.proofs.lemmas.List.{take-append-drop, take_at, drop-drop, drop_all, length-drop, length-append, length-take-le}

pub read_gives : (items copied buf : List ℕ) (position count : ℕ) → count ≤ length (drop position items) → copied ≡ take count (drop position items)
    → drop position items ≡ take count (copied ++ drop count buf) ++ drop (position + count) items
read_gives items copied buf position count fits e =
    let len : length copied ≡ count = ap length e ∙ length-take-le count (drop position items) fits in
    sym (take-append-drop count (drop position items))
    ∙ ap (λ (xs : List ℕ). xs ++ drop count (drop position items)) (sym e ∙ sym (take_at copied (drop count buf) count len))
    ∙ ap (λ (xs : List ℕ). take count (copied ++ drop count buf) ++ xs) (drop-drop count position items)

pub read_ends : (items copied buf : List ℕ) (position room count : ℕ) → 0 < room → count ≡ min (min room (length (drop position items))) (length buf) → length copied ≡ count
    → count ≡ 0 → 0 < length (copied ++ drop count buf) → drop (position + count) items ≡ []
read_ends items copied buf position room count some is len none wide =
    let joined = length-append copied (drop count buf) in
    let left = length-drop count buf in
    let dropped = length-drop position items in
    let over : length items ≤ position + count = omega arith in
    drop_all (position + count) items over
