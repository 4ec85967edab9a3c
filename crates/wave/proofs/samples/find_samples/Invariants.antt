-- What all chunks mean is what those that are left mean, after the layout so far.
use Rattle.std.proofs.Common.{◌≡◌, ◌-◌, IfSome}
use Rattle.counted_devices.specs.CallCounts.{NoFewer}
use Rattle.wave.specs.Devices.{KeepsTo}
use Rattle.wave.specs.Parts.{chunks_within}
use Rattle.wave.specs.Waves.{sound_of}
use Rattle.wave.specs.Heads.{sound_after}
use Rattle.wave.proofs.samples.find_samples.Given as goal

abbrev pub invariant-loop-part : goal.invariant-loop-part
invariant-loop-part g l = record {
  goes : IfSome (g.M.Media.all_bytes l.initial.media) (λ bytes. sound_of l.rate (chunks_within bytes 12 l.end) ≡ sound_after l.rate l.layout (chunks_within bytes l.at l.end));
  stays : g.M.Media.all_bytes l.media ≡ g.M.Media.all_bytes l.initial.media;
  keeps : KeepsTo l.limit (g.M.Failing.call_counts l.initial.media) (g.M.Failing.call_counts l.media);
  calm : NoFewer (g.M.Failing.call_counts l.initial.media) (g.M.Failing.call_counts l.media);
}

abbrev pub decreases-loop-part : goal.decreases-loop-part
decreases-loop-part g l = l.end - l.at
