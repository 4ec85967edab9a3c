-- The chunk at an offset of bytes that go up to an end.
use Rattle.std.proofs.Common.{ℕ, ◌+◌, ◌-◌, ◌%◌, ◌^◌, ◌<◌, ◌≤◌, ◌≡◌, List, [], ◌∷◌, length, take, drop, min, sym, ap, ◌∙◌, arith, length-drop, length-take}
use Rattle.std.proofs.lemmas.List.{drop-drop, drop-take, drop_min, take_min, take-take}
use Rattle.wave.specs.Chunks.{Chunk, chunks, first_chunk, first_size, after_first, little_endian}
use Rattle.wave.specs.Parts.{chunks_within}
use Rattle.wave.proofs.ChunkLaws.{chunks_none, chunks_more}

-- the shorter of two starts
pub take_both : (m n : ℕ) (xs : List ℕ) → take m (take n xs) ≡ take (min m n) xs
take_both m n xs =
    sym (take_min m (take n xs)) ∙ ap (λ k. take k (take n xs)) (simp length-take (omega arith)) ∙ take-take (min (min m n) (length xs)) n xs (omega arith)
    ∙ take_min (min m n) xs

-- an offset that stops at the greatest number drops the same bytes
pub drop_after : (at k : ℕ) (bytes : List ℕ) → length bytes < 2 ^ 64 → drop (min (at + k) (2 ^ 64 - 1)) bytes ≡ drop k (drop at bytes)
drop_after at k bytes h =
    let e : min (min (at + k) (2 ^ 64 - 1)) (length bytes) ≡ min (at + k) (length bytes) = omega arith in
    sym (drop_min (min (at + k) (2 ^ 64 - 1)) bytes) ∙ ap (λ n. drop n bytes) e ∙ drop_min (at + k) bytes ∙ sym (drop-drop k at bytes)

size_of_eight : (xs : List ℕ) → first_size (take 8 xs) ≡ first_size xs
size_of_eight xs = ap little_endian (ap (take 4) (drop-take 4 4 xs) ∙ take-take 4 4 (drop 4 xs) (omega arith))

-- the bytes from an offset up to an end that lies after its next n
pub window : (at n end : ℕ) (bytes : List ℕ) → at + n ≤ end → drop at (take end bytes) ≡ take (n + (end - (at + n))) (drop at bytes)
window at n end bytes h =
    let e : end ≡ at + (n + (end - (at + n))) = omega arith in
    ap (λ k. drop at (take k bytes)) e ∙ drop-take at (n + (end - (at + n))) bytes

pub nothing_within : (bytes : List ℕ) (at end : ℕ) → end ≤ length bytes → end - at < 8 → chunks_within bytes at end ≡ []
nothing_within bytes at end h short = chunks_none (drop at (take end bytes)) (simp (length-drop, length-take) (omega arith))

abbrev made : List ℕ → ℕ → List ℕ → Chunk
made name size content = record { name = name; size = size; content = content }

pub starts : (bytes name : List ℕ) (size at end len next : ℕ) → end ≤ length bytes → at + 8 ≤ end → end < 2 ^ 64
    → name ≡ take 4 (take 8 (drop at bytes)) → size ≡ first_size (take 8 (drop at bytes)) → len ≡ min size (end - (at + 8)) → next ≡ min (at + 8 + (size + size % 2)) (2 ^ 64 - 1)
    → (chunks_within bytes at end ≡ record { name = name; size = size; content = take len (drop (at + 8) bytes) } ∷ chunks_within bytes next end) × (length (take len (drop (at + 8) bytes)) ≡ len)
starts bytes name size at end len next inside room small n s l b =
    let xs = drop at (take end bytes) in
    let left = end - (at + 8) in
    let is : xs ≡ take (8 + left) (drop at bytes) = window at 8 end bytes room in
    let long : 8 ≤ length xs = rw is (simp (length-take, length-drop) (omega arith)) in
    let eight : take 8 xs ≡ take 8 (drop at bytes) = ap (take 8) is ∙ take-take 8 (8 + left) (drop at bytes) (omega arith) in
    let letters : take 4 xs ≡ name = sym (take-take 4 8 xs (omega arith)) ∙ ap (take 4) eight ∙ sym n in
    let written : first_size xs ≡ size = sym (size_of_eight xs) ∙ ap first_size eight ∙ sym s in
    let rest : drop 8 xs ≡ take left (drop (at + 8) bytes) = ap (drop 8) is ∙ drop-take 8 left (drop at bytes) ∙ ap (take left) (drop-drop 8 at bytes) in
    let body : take (first_size xs) (drop 8 xs) ≡ take len (drop (at + 8) bytes) =
    ap (λ k. take k (drop 8 xs)) written ∙ ap (take size) rest ∙ take_both size left (drop (at + 8) bytes) ∙ ap (λ k. take k (drop (at + 8) bytes)) (sym l) in
    let first : first_chunk xs ≡ made name size (take len (drop (at + 8) bytes)) =
    ap (λ k. made k (first_size xs) (take (first_size xs) (drop 8 xs))) letters ∙ ap (λ k. made name k (take (first_size xs) (drop 8 xs))) written ∙ ap (made name size) body in
    let view : length (take end bytes) < 2 ^ 64 = simp length-take (omega arith) in
    let on : drop next (take end bytes) ≡ after_first xs =
    ap (λ k. drop k (take end bytes)) (b ∙ ap (λ k. min k (2 ^ 64 - 1)) (omega arith)) ∙ drop_after at (8 + size + size % 2) (take end bytes) view
    ∙ ap (λ k. drop (8 + k + k % 2) xs) (sym written) in (
      chunks_more xs long ∙ ap (λ c. c ∷ chunks (after_first xs)) first ∙ ap (λ ys. made name size (take len (drop (at + 8) bytes)) ∷ chunks ys) (sym on),
      simp (length-take, length-drop) (omega arith),
    )
