use Rattle.std.proofs.Common.{ℕ, ℤ, ◌+◌, ◌*◌, [], ◌∷◌, get_or, ◌∙◌, arith}
use Rattle.pcm_mix.specs.Layouts.{signed}
use Rattle.pcm_mix.proofs.Words.{upper}
use Rattle.pcm_mix.proofs.layout.upper_stereo.Goals as goal

pub returns : goal.returns
returns c =
    let bytes = c.args.bytes.now in
    let fits = λ (k : ℕ). (c.type_inv.bytes k).fits in
    let sample : ℕ → ℤ = λ n. signed 32768 n in
    let words = c.upper_words.ensures in
    let others = c.upper_words-2.ensures in
    let l0 = (λ t. sample (get_or (words t) 0 0)) ∙ upper bytes fits _ ((c.args.offset + 0) * 6) (omega arith) in
    let r0 = (λ t. sample (get_or (words t) 1 0)) ∙ upper bytes fits _ ((c.args.offset + 0) * 6 + 3) (omega arith) in
    let l1 = (λ t. sample (get_or (words t) 2 0)) ∙ upper bytes fits _ ((c.args.offset + 1) * 6) (omega arith) in
    let r1 = (λ t. sample (get_or (words t) 3 0)) ∙ upper bytes fits _ ((c.args.offset + 1) * 6 + 3) (omega arith) in
    let l2 = (λ t. sample (get_or (words t) 4 0)) ∙ upper bytes fits _ ((c.args.offset + 2) * 6) (omega arith) in
    let r2 = (λ t. sample (get_or (words t) 5 0)) ∙ upper bytes fits _ ((c.args.offset + 2) * 6 + 3) (omega arith) in
    let l3 = (λ t. sample (get_or (words t) 6 0)) ∙ upper bytes fits _ ((c.args.offset + 3) * 6) (omega arith) in
    let r3 = (λ t. sample (get_or (words t) 7 0)) ∙ upper bytes fits _ ((c.args.offset + 3) * 6 + 3) (omega arith) in
    let l4 = (λ t. sample (get_or (others t) 0 0)) ∙ upper bytes fits _ ((c.args.offset + 4) * 6) (omega arith) in
    let r4 = (λ t. sample (get_or (others t) 1 0)) ∙ upper bytes fits _ ((c.args.offset + 4) * 6 + 3) (omega arith) in
    let l5 = (λ t. sample (get_or (others t) 2 0)) ∙ upper bytes fits _ ((c.args.offset + 5) * 6) (omega arith) in
    let r5 = (λ t. sample (get_or (others t) 3 0)) ∙ upper bytes fits _ ((c.args.offset + 5) * 6 + 3) (omega arith) in
    let l6 = (λ t. sample (get_or (others t) 4 0)) ∙ upper bytes fits _ ((c.args.offset + 6) * 6) (omega arith) in
    let r6 = (λ t. sample (get_or (others t) 5 0)) ∙ upper bytes fits _ ((c.args.offset + 6) * 6 + 3) (omega arith) in
    let l7 = (λ t. sample (get_or (others t) 6 0)) ∙ upper bytes fits _ ((c.args.offset + 7) * 6) (omega arith) in
    let r7 = (λ t. sample (get_or (others t) 7 0)) ∙ upper bytes fits _ ((c.args.offset + 7) * 6 + 3) (omega arith) in
    let front = c.pairs.ensures in
    let back = c.pairs-2.ensures in
    (λ t. get_or (front t) 0 [] ∷ get_or (front t) 1 [] ∷ get_or (front t) 2 [] ∷ get_or (front t) 3 [] ∷ get_or (back t) 0 [] ∷ get_or (back t) 1 [] ∷ get_or (back t) 2 [] ∷ get_or (back t) 3 [] ∷ [])
    ∙ (λ t. (l0 t ∷ r0 t ∷ []) ∷ (l1 t ∷ r1 t ∷ []) ∷ (l2 t ∷ r2 t ∷ []) ∷ (l3 t ∷ r3 t ∷ []) ∷ (l4 t ∷ r4 t ∷ []) ∷ (l5 t ∷ r5 t ∷ []) ∷ (l6 t ∷ r6 t ∷ []) ∷ (l7 t ∷ r7 t ∷ []) ∷ [])
