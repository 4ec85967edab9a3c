use Rattle.std.proofs.Common.{[], ◌*◌, map, get_or}
use Rattle.pcm_mix.specs.Samples.{gained}
use Rattle.pcm_mix.proofs.Eights.{Filled, Kept}
use Rattle.pcm_mix.proofs.volume.lower.Given as goal

abbrev pub invariant-loop-step : goal.invariant-loop-step
invariant-loop-step l = Filled (λ k. map (gained l.volume) (get_or l.initial.frames k [])) (8 * l.step) l.frames × Kept l.initial.frames (8 * l.step) l.frames

abbrev pub invariant-loop-i : goal.invariant-loop-i
invariant-loop-i l = Filled (λ k. map (gained l.volume) (get_or l.fn.frames k [])) l.i l.frames × Kept l.fn.frames l.i l.frames
