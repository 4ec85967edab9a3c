use Rattle.std.proofs.Common.{◌≡◌, ◌+◌, [], ◌∷◌, ap, ◌∙◌, arith}
use Rattle.pcm_mix.specs.Layouts.{frame_at}
use Rattle.pcm_mix.proofs.layout.eight_frames.Goals as goal

pub returns-in-TwentyFour-Stereo : goal.returns-in-TwentyFour-Stereo
returns-in-TwentyFour-Stereo c = rw (c.in-TwentyFour-Stereo.is-0, c.in-TwentyFour-Stereo.is-1) c.upper_stereo.ensures

pub returns-in_default : goal.returns-in_default
returns-in_default c =
    let here : c.args.offset ≡ c.args.offset + 0 = omega arith in
    let first = c.frame_at.ensures ∙ ap (frame_at c.args.depth c.args.channels c.args.bytes.now) here in
    λ t. first t ∷ c.frame_at-in_default.ensures t ∷ c.frame_at-in_default-2.ensures t ∷ c.frame_at-in_default-3.ensures t ∷
    c.frame_at-in_default-4.ensures t ∷ c.frame_at-in_default-5.ensures t ∷ c.frame_at-in_default-6.ensures t ∷ c.frame_at-in_default-7.ensures t ∷ []

pub returns-in-Sixteen-Stereo : goal.returns-in-Sixteen-Stereo
returns-in-Sixteen-Stereo c = rw (c.in-Sixteen-Stereo.is-0, c.in-Sixteen-Stereo.is-1) c.whole_stereo.ensures
