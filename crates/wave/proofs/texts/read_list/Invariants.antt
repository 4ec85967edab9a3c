-- The texts so far and those that are left are those of the whole list.
use Rattle.std.proofs.Common.{◌≡◌, ◌-◌, ◌++◌, List, IfSome}
use Rattle.counted_devices.specs.CallCounts.{NoFewer}
use Rattle.wave.specs.Chunks.{Chunk}
use Rattle.wave.specs.Devices.{KeepsTo}
use Rattle.wave.specs.Parts.{chunks_within}
use Rattle.wave.specs.Found.{text_in, joined}
use Rattle.wave.proofs.texts.read_list.Given as goal

abbrev pub invariant-loop-texts : goal.invariant-loop-texts
invariant-loop-texts g l = record {
  goes : IfSome (g.M.Media.all_bytes l.initial.media) (λ bytes. (more : List Chunk) →
      joined (text_in l.everyday) l.texts (chunks_within bytes l.at l.end ++ more) ≡ joined (text_in l.everyday) l.initial.texts (chunks_within bytes l.initial.at l.end ++ more));
  stays : g.M.Media.all_bytes l.media ≡ g.M.Media.all_bytes l.initial.media;
  keeps : KeepsTo l.limit (g.M.Failing.call_counts l.initial.media) (g.M.Failing.call_counts l.media);
  calm : NoFewer (g.M.Failing.call_counts l.initial.media) (g.M.Failing.call_counts l.media);
}

abbrev pub decreases-loop-texts : goal.decreases-loop-texts
decreases-loop-texts g l = l.end - l.at
