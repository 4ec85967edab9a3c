use Rattle.std.proofs.Common.{◌≡◌, ◌++◌, take, drop}
use Rattle.pcm_mix.specs.Samples.{faded_frames}
use Rattle.pcm_mix.proofs.crossfade.fade.Given as goal

abbrev pub invariant-loop-i : goal.invariant-loop-i
invariant-loop-i l = l.frames ≡ faded_frames l.len l.offset (take l.i l.initial.frames) (take l.i l.others) ++ drop l.i l.initial.frames
