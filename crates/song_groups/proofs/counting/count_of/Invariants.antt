use Rattle.std.proofs.Common.{◌≡◌, ◌≤◌, ◌*◌, ◌^◌, take}
use Rattle.std.specs.Prelude.{map}
use Rattle.song_search.specs.Answers.{millis_of_all}
use Rattle.song_groups.proofs.counting.count_of.Given as goal

abbrev pub invariant-loop-song : goal.invariant-loop-song
invariant-loop-song l = record {
  millis : l.millis ≡ millis_of_all l.rate (map (λ s. s.now) (take l.song-index l.songs));
  short : l.millis ≤ l.song-index * 2 ^ 61;
}
