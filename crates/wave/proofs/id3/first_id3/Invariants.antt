-- The first such chunk of those that are left is that of the whole file.
use Rattle.std.proofs.Common.{◌≡◌, ◌-◌, IfSome}
use Rattle.std.specs.List.{find}
use Rattle.counted_devices.specs.CallCounts.{NoFewer}
use Rattle.wave.specs.Devices.{KeepsTo}
use Rattle.wave.specs.Everyday.{is_id3}
use Rattle.wave.specs.Parts.{chunks_within}
use Rattle.wave.proofs.id3.first_id3.Given as goal

abbrev pub invariant-loop-part : goal.invariant-loop-part
invariant-loop-part g l = record {
  goes : IfSome (g.M.Media.all_bytes l.initial.media) (λ bytes. find is_id3 (chunks_within bytes l.at l.end) ≡ find is_id3 (chunks_within bytes 12 l.end));
  stays : g.M.Media.all_bytes l.media ≡ g.M.Media.all_bytes l.initial.media;
  keeps : KeepsTo l.limit (g.M.Failing.call_counts l.initial.media) (g.M.Failing.call_counts l.media);
  calm : NoFewer (g.M.Failing.call_counts l.initial.media) (g.M.Failing.call_counts l.media);
}

abbrev pub decreases-loop-part : goal.decreases-loop-part
decreases-loop-part g l = l.end - l.at
