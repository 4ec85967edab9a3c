use Rattle.std.proofs.Common.{[], ◌∷◌, map, sym, ◌∙◌, arith}
use Rattle.pcm_mix.specs.Layouts.{signed}
use Rattle.pcm_mix.proofs.Eights.{eight_are}
use Rattle.pcm_mix.proofs.lanes.both_sides.Goals as goal

pub returns : goal.returns
returns c =
    let a = c.frame_of.ensures in
    let b = c.frame_of-2.ensures in
    let d = c.frame_of-3.ensures in
    let e = c.frame_of-4.ensures in
    let f = c.frame_of-5.ensures in
    let g = c.frame_of-6.ensures in
    let h = c.frame_of-7.ensures in
    let i = c.frame_of-8.ensures in
    (λ t. a t ∷ b t ∷ d t ∷ e t ∷ f t ∷ g t ∷ h t ∷ i t ∷ [])
    ∙ sym (λ t. map (λ word. signed 32768 word ∷ signed 32768 word ∷ []) (eight_are c.args.words 0 (omega arith) t))
