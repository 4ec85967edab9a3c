use Rattle.std.proofs.Common.{◌≡◌, arith, sym}
use Rattle.std.proofs.lemmas.Bool.Decides.{nat_tests}
use Rattle.pcm_mix.proofs.Volumes.{full_volume}
use Rattle.pcm_mix.proofs.volume.gain.Goals as goal

pub returns-else-volume-ne100 : goal.returns-else-volume-ne100
returns-else-volume-ne100 c =
    let full : c.args.volume ≡ 100 = grind (arith, nat_tests, c.if-volume-ne100.false) in
    rw full (sym (full_volume c.args.frames.now))
