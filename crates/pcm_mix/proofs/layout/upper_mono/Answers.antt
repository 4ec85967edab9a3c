use Rattle.std.proofs.Common.{ℕ, ℤ, ◌+◌, ◌*◌, [], ◌∷◌, map, get_or, ◌∙◌, arith}
use Rattle.pcm_mix.specs.Layouts.{signed}
use Rattle.pcm_mix.proofs.Words.{upper}
use Rattle.pcm_mix.proofs.Eights.{eight_are}
use Rattle.pcm_mix.proofs.layout.upper_mono.Goals as goal

pub returns : goal.returns
returns c =
    let bytes = c.args.bytes.now in
    let fits = λ (k : ℕ). (c.type_inv.bytes k).fits in
    let sample : ℕ → ℤ = λ n. signed 32768 n in
    let words = c.upper_words.ensures in
    let s0 = (λ t. sample (get_or (words t) 0 0)) ∙ upper bytes fits _ ((c.args.offset + 0) * 3) (omega arith) in
    let s1 = (λ t. sample (get_or (words t) 1 0)) ∙ upper bytes fits _ ((c.args.offset + 1) * 3) (omega arith) in
    let s2 = (λ t. sample (get_or (words t) 2 0)) ∙ upper bytes fits _ ((c.args.offset + 2) * 3) (omega arith) in
    let s3 = (λ t. sample (get_or (words t) 3 0)) ∙ upper bytes fits _ ((c.args.offset + 3) * 3) (omega arith) in
    let s4 = (λ t. sample (get_or (words t) 4 0)) ∙ upper bytes fits _ ((c.args.offset + 4) * 3) (omega arith) in
    let s5 = (λ t. sample (get_or (words t) 5 0)) ∙ upper bytes fits _ ((c.args.offset + 5) * 3) (omega arith) in
    let s6 = (λ t. sample (get_or (words t) 6 0)) ∙ upper bytes fits _ ((c.args.offset + 6) * 3) (omega arith) in
    let s7 = (λ t. sample (get_or (words t) 7 0)) ∙ upper bytes fits _ ((c.args.offset + 7) * 3) (omega arith) in
    c.both_sides.ensures ∙ (λ t. map (λ word. sample word ∷ sample word ∷ []) (eight_are c.upper_words.result 0 (omega arith) t))
    ∙ (λ t. (s0 t ∷ s0 t ∷ []) ∷ (s1 t ∷ s1 t ∷ []) ∷ (s2 t ∷ s2 t ∷ []) ∷ (s3 t ∷ s3 t ∷ []) ∷ (s4 t ∷ s4 t ∷ []) ∷ (s5 t ∷ s5 t ∷ []) ∷ (s6 t ∷ s6 t ∷ []) ∷ (s7 t ∷ s7 t ∷ []) ∷ [])
