use Rattle.std.proofs.Common.{◌≡◌, ◌<◌, ◌*◌, ℕ, [], get_or}
use Rattle.pcm_mix.specs.Layouts.{frame_at}
use Rattle.pcm_mix.proofs.layout.read.Given as goal

abbrev pub invariant-loop-step : goal.invariant-loop-step
invariant-loop-step l = (k : ℕ) → k < 8 * l.step → get_or l.frames k [] ≡ frame_at l.depth l.channels l.bytes k

abbrev pub invariant-loop-i : goal.invariant-loop-i
invariant-loop-i l = (k : ℕ) → k < l.i → get_or l.frames k [] ≡ frame_at l.depth l.channels l.bytes k
