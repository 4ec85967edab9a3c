use Rattle.std.proofs.Common.{take}
use Rattle.std.specs.Prelude.{map}
use Rattle.song_groups.specs.Tuples.{listed_tuples, tuples_now, HaveTheSame}
use Rattle.song_groups.proofs.grouping.listed_tuples.Given as goal

abbrev pub invariant-loop-song : goal.invariant-loop-song
invariant-loop-song l = HaveTheSame (tuples_now l.found.keys) (listed_tuples l.columns (map (λ s. s.now) (take l.song-index l.songs)))
