-- The texts so far and those that are left are those of the whole file.
use Rattle.std.proofs.Common.{◌≡◌, ◌-◌, IfSome}
use Rattle.counted_devices.specs.CallCounts.{NoFewer}
use Rattle.wave.specs.Texts.{items}
use Rattle.wave.specs.Devices.{KeepsTo}
use Rattle.wave.specs.Parts.{chunks_within}
use Rattle.wave.specs.Found.{text_in, joined, no_texts}
use Rattle.wave.proofs.texts.read_texts.Given as goal

abbrev pub invariant-loop-texts : goal.invariant-loop-texts
invariant-loop-texts g l = record {
  goes : IfSome (g.M.Media.all_bytes l.initial.media) (λ bytes. joined (text_in l.everyday) l.texts (items (chunks_within bytes l.at l.end)) ≡ joined (text_in l.everyday) no_texts (items (chunks_within bytes 12 l.end)));
  stays : g.M.Media.all_bytes l.media ≡ g.M.Media.all_bytes l.initial.media;
  keeps : KeepsTo l.limit (g.M.Failing.call_counts l.initial.media) (g.M.Failing.call_counts l.media);
  calm : NoFewer (g.M.Failing.call_counts l.initial.media) (g.M.Failing.call_counts l.media);
}

abbrev pub decreases-loop-texts : goal.decreases-loop-texts
decreases-loop-texts g l = l.end - l.at
