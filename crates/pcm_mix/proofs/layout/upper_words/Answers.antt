use Rattle.std.proofs.Common.{ℕ, List, ◌+◌, ◌≤◌, [], ◌∷◌, length, map, get_or, refl, ◌∙◌, arith}
use Rattle.std.specs.Simd.Lanes.{chunk, digits_l, number_l}
use Rattle.pcm_mix.proofs.Words.{words_of, each_fits, in_first, in_second}
use Rattle.pcm_mix.proofs.layout.upper_words.Goals as goal

pub returns : goal.returns
returns c =
    let bytes = c.args.bytes.now in
    let at : ℕ = c.args.at in
    let long : at + 24 ≤ length bytes = omega arith in
    let byte : ℕ → ℕ = λ k. get_or bytes k 0 in
    let offsets : List ℕ = (at + 0 + 1) ∷ (at + 0 + 1 + 1) ∷ (at + 3 + 1) ∷ (at + 3 + 1 + 1) ∷ (at + 6 + 1) ∷ (at + 6 + 1 + 1) ∷ (at + 9 + 1) ∷ (at + 9 + 1 + 1) ∷
    (at + 12 + 1) ∷ (at + 12 + 1 + 1) ∷ (at + 15 + 1) ∷ (at + 15 + 1 + 1) ∷ (at + 18 + 1) ∷ (at + 18 + 1 + 1) ∷ (at + 21 + 1) ∷ (at + 21 + 1 + 1) ∷ [] in
    let b0 = in_first bytes (chunk (at + 8) 16 bytes) at 1 (at + 0 + 1) long (omega arith) (omega arith) in
    let b1 = in_first bytes (chunk (at + 8) 16 bytes) at 2 (at + 0 + 1 + 1) long (omega arith) (omega arith) in
    let b2 = in_first bytes (chunk (at + 8) 16 bytes) at 4 (at + 3 + 1) long (omega arith) (omega arith) in
    let b3 = in_first bytes (chunk (at + 8) 16 bytes) at 5 (at + 3 + 1 + 1) long (omega arith) (omega arith) in
    let b4 = in_first bytes (chunk (at + 8) 16 bytes) at 7 (at + 6 + 1) long (omega arith) (omega arith) in
    let b5 = in_first bytes (chunk (at + 8) 16 bytes) at 8 (at + 6 + 1 + 1) long (omega arith) (omega arith) in
    let b6 = in_first bytes (chunk (at + 8) 16 bytes) at 10 (at + 9 + 1) long (omega arith) (omega arith) in
    let b7 = in_first bytes (chunk (at + 8) 16 bytes) at 11 (at + 9 + 1 + 1) long (omega arith) (omega arith) in
    let b8 = in_second bytes at 21 5 (at + 12 + 1) long (omega arith) (omega arith) (omega arith) in
    let b9 = in_second bytes at 22 6 (at + 12 + 1 + 1) long (omega arith) (omega arith) (omega arith) in
    let b10 = in_second bytes at 24 8 (at + 15 + 1) long (omega arith) (omega arith) (omega arith) in
    let b11 = in_second bytes at 25 9 (at + 15 + 1 + 1) long (omega arith) (omega arith) (omega arith) in
    let b12 = in_second bytes at 27 11 (at + 18 + 1) long (omega arith) (omega arith) (omega arith) in
    let b13 = in_second bytes at 28 12 (at + 18 + 1 + 1) long (omega arith) (omega arith) (omega arith) in
    let b14 = in_second bytes at 30 14 (at + 21 + 1) long (omega arith) (omega arith) (omega arith) in
    let b15 = in_second bytes at 31 15 (at + 21 + 1 + 1) long (omega arith) (omega arith) (omega arith) in
    (λ t. digits_l 65536 8 (number_l 256 (b0 t ∷ b1 t ∷ b2 t ∷ b3 t ∷ b4 t ∷ b5 t ∷ b6 t ∷ b7 t ∷ b8 t ∷ b9 t ∷ b10 t ∷ b11 t ∷ b12 t ∷ b13 t ∷ b14 t ∷ b15 t ∷ [])))
    ∙ words_of 8 (map byte offsets) refl (each_fits byte (λ k. (c.type_inv.bytes k).fits) offsets)
