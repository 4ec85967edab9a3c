-- Chunks one after another.
use Rattle.std.proofs.Common.{ℕ, zero, suc, ◌+◌, ◌%◌, ◌<◌, ◌≤◌, ◌≡◌, List, [], ◌∷◌, ◌++◌, length, take, drop, Bool, true, false, ltb, refl, sym, ap, ◌∙◌, arith, length-drop, length-take, length-append, if◌then◌else◌, nat_lt}
use Rattle.std.proofs.lemmas.Bool.Decides.{nat_tests}
use Rattle.std.proofs.lemmas.List.{drop-drop, take-append-drop, take_at, drop_at}
use Rattle.std.proofs.lemmas.Bool.{ltb-true, ltb-false}
use Rattle.wave.specs.Chunks.{Chunk, chunks, chunks_up_to, first_chunk, first_size, after_first, AreChunks, little_endian}

after_fits : (bytes : List ℕ) (m : ℕ) → length bytes ≤ suc m → length (after_first bytes) ≤ m
after_fits bytes m h = simp length-drop (omega arith)

same : (m n : ℕ) (bytes : List ℕ) → length bytes ≤ m → length bytes ≤ n → chunks_up_to m bytes ≡ chunks_up_to n bytes
unfolding chunks_up_to
same zero zero bytes h k = refl
same zero (suc n) [] h k = refl
same zero (suc n) (b ∷ bs) h k = absurd (omega arith)
same (suc m) zero [] h k = refl
same (suc m) zero (b ∷ bs) h k = absurd (omega arith)
same (suc m) (suc n) bytes h k =
    ap (λ more. if nat_lt (length bytes) 8 then [] else first_chunk bytes ∷ more) (same m n (after_first bytes) (after_fits bytes m h) (after_fits bytes n k))

-- the chunks are the first and those after it
pub chunks_next : (bytes : List ℕ) → chunks bytes ≡ (if nat_lt (length bytes) 8 then [] else first_chunk bytes ∷ chunks (after_first bytes))
unfolding chunks chunks_up_to
chunks_next bytes =
    same (length bytes) (suc (length bytes)) bytes (omega arith) (omega arith)
    ∙ ap (λ more. if nat_lt (length bytes) 8 then [] else first_chunk bytes ∷ more)
    (same (length bytes) (length (after_first bytes)) (after_first bytes) (after_fits bytes (length bytes) (omega arith)) (omega arith))

pub chunks_none : (bytes : List ℕ) → length bytes < 8 → chunks bytes ≡ []
chunks_none bytes h = let e : nat_lt (length bytes) 8 ≡ true = grind (arith, nat_tests) in chunks_next bytes ∙ rw e refl

pub chunks_more : (bytes : List ℕ) → 8 ≤ length bytes → chunks bytes ≡ first_chunk bytes ∷ chunks (after_first bytes)
chunks_more bytes h = let e : nat_lt (length bytes) 8 ≡ false = grind (arith, nat_tests) in chunks_next bytes ∙ rw e refl

split_start : (bytes : List ℕ) → bytes ≡ take 4 bytes ++ (take 4 (drop 4 bytes) ++ drop 8 bytes)
split_start bytes =
    let eight : drop 8 bytes ≡ drop 4 (drop 4 bytes) = sym (drop-drop 4 4 bytes) in
    rw (eight, take-append-drop, take-append-drop) refl

after_is : (bytes : List ℕ) → after_first bytes ≡ drop (first_size bytes + first_size bytes % 2) (drop 8 bytes)
after_is bytes = ap (λ n. drop n bytes) (omega arith) ∙ sym (drop-drop (first_size bytes + first_size bytes % 2) 8 bytes)

by_test : {P : Type 0} (a b : ℕ) (t : Bool) → ltb a b ≡ t → (a < b → P) → (b ≤ a → P) → P
by_test a b true e f g = f (ltb-true a b e)
by_test a b false e f g = g (ltb-false a b e)

by_lt : {P : Type 0} (a b : ℕ) → (a < b → P) → (b ≤ a → P) → P
by_lt a b f g = by_test a b (ltb a b) refl f g

-- the chunks given are those that the bytes are made of
are : (most : ℕ) (bytes : List ℕ) → length bytes ≤ most → AreChunks bytes (chunks bytes)
are zero bytes h = rw (chunks_none bytes (omega arith)) (omega arith)
are (suc most) bytes h =
    by_lt (length bytes) 8
    (λ short. rw (chunks_none bytes short) short)
    (λ long. rw (chunks_more bytes long) (
      take 4 (drop 4 bytes),
      drop 8 bytes,
      split_start bytes,
      simp length-take (omega arith),
      simp (length-take, length-drop) (omega arith),
      refl,
      refl,
      rw (← after_is bytes) (are most (after_first bytes) (after_fits bytes most h)),
    ))

pub chunks_are : (bytes : List ℕ) → AreChunks bytes (chunks bytes)
chunks_are bytes = are (length bytes) bytes (omega arith)

abbrev made : List ℕ → ℕ → List ℕ → Chunk
made name size content = record { name = name; size = size; content = content }

same_chunk : (c d : Chunk) → c.name ≡ d.name → c.size ≡ d.size → c.content ≡ d.content → c ≡ d
same_chunk c d e f g = ap (λ n. made n c.size c.content) e ∙ ap (λ n. made d.name n c.content) f ∙ ap (λ b. made d.name d.size b) g

-- and no others are
pub chunks_only : (parts : List Chunk) (bytes : List ℕ) → AreChunks bytes parts → parts ≡ chunks bytes
chunks_only [] bytes h = sym (chunks_none bytes h)
chunks_only (part ∷ more) bytes (size, rest, e, four, also, written, content, others) =
    let name : take 4 bytes ≡ part.name = rw e (take_at part.name (size ++ rest) 4 four) in
    let tail : drop 4 bytes ≡ size ++ rest = rw e (drop_at part.name (size ++ rest) 4 four) in
    let number : take 4 (drop 4 bytes) ≡ size = rw tail (take_at size rest 4 also) in
    let past : drop 8 bytes ≡ rest = sym (drop-drop 4 4 bytes) ∙ ap (drop 4) tail ∙ drop_at size rest 4 also in
    let long : 8 ≤ length bytes = rw e (simp length-append (omega arith)) in
    let is : first_size bytes ≡ part.size = ap little_endian number ∙ sym written in
    let body : take (first_size bytes) (drop 8 bytes) ≡ part.content = rw (is, past) (sym content) in
    let first : first_chunk bytes ≡ part = same_chunk (first_chunk bytes) part name is body in
    let next : after_first bytes ≡ drop (part.size + part.size % 2) rest = after_is bytes ∙ rw (is, past) refl in
    rw (chunks_more bytes long, first, next) (ap (λ xs. part ∷ xs) (chunks_only more (drop (part.size + part.size % 2) rest) others))
