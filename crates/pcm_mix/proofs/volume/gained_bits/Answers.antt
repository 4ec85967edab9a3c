use Rattle.std.proofs.Common.{ℕ, ◌*◌, ◌/◌, ◌<◌, [], ◌∷◌, get_or, ap, ◌∙◌, arith}
use Rattle.std.proofs.lemmas.Simd.{Each1-get_or}
use Rattle.pcm_mix.specs.Samples.{gained}
use Rattle.pcm_mix.specs.Layouts.{signed}
use Rattle.pcm_mix.proofs.Eights.{eight_are}
use Rattle.pcm_mix.proofs.Gains.{size_at, high_fits, lane_is}
use Rattle.pcm_mix.proofs.volume.gained_bits.Goals as goal

pub overflow_cast-least : goal.overflow_cast-least
overflow_cast-least c =
    let bits = c.args.bits in
    let fit = λ (k : ℕ). high_fits (size_at (get_or bits k 0) * (c.from.result * 65536 / 100)) in
    rw (eight_are bits 0 c.requires.eight) (fit 0, (fit 1, (fit 2, (fit 3, (fit 4, (fit 5, (fit 6, (fit 7, tt))))))))

pub returns : goal.returns
returns c =
    let bits = c.args.bits in
    let lane = λ (k : ℕ) (less : k < 8).
    lane_is c.from-2.result (c.from.result * 65536 / 100) (get_or bits k 0) (omega arith) (omega arith) (Each1-get_or (λ (word : ℕ). word < 65536) bits k 0 (omega arith) c.requires.fits)
    ∙ ap (λ (v : ℕ). gained v (signed 32768 (get_or bits k 0))) c.from-2.ensures in
    let a = lane 0 (omega arith) in
    let b = lane 1 (omega arith) in
    let d = lane 2 (omega arith) in
    let e = lane 3 (omega arith) in
    let f = lane 4 (omega arith) in
    let g = lane 5 (omega arith) in
    let h = lane 6 (omega arith) in
    let i = lane 7 (omega arith) in
    rw (eight_are bits 0 c.requires.eight) (λ t. a t ∷ b t ∷ d t ∷ e t ∷ f t ∷ g t ∷ h t ∷ i t ∷ [])
