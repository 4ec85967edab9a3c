use Rattle.std.proofs.Common.{ℕ, ℤ, List, ◌+◌, [], map, get_or, ap, ◌∙◌, arith}
use Rattle.pcm_mix.specs.Samples.{gained}
use Rattle.pcm_mix.proofs.Gains.{four_framed}
use Rattle.pcm_mix.proofs.volume.four_gained.Goals as goal

pub returns : goal.returns
returns c =
    let v = c.args.volume in
    let at : ℕ → List ℤ = λ k. get_or c.args.frames.now k [] in
    let offset = c.args.offset in
    let same = c.gained_bits.ensures ∙ ap (map (gained v)) c.bits_of.ensures.is in
    c.pairs.ensures
    ∙ four_framed v c.gained_bits.result (at (offset + 0)) (at (offset + 1)) (at (offset + 2)) (at (offset + 3)) (omega arith) (omega arith) (omega arith) (omega arith) (omega arith) same
