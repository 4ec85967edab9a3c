use Rattle.std.proofs.Common.{◌≡◌, ◌≤◌, ◌*◌, ◌^◌, take, length}
use Rattle.filters.specs.declared.matching.Case.TheVariants.{Heeded}
use Rattle.song_search.specs.Answers.{found, millis_of_all}
use Rattle.song_search.proofs.search.counted.Given as goal

abbrev pub invariant-loop-song : goal.invariant-loop-song
invariant-loop-song l = record {
  songs : l.songs ≡ length (found Heeded l.filter (take l.song-index l.song-items));
  few : l.songs ≤ l.song-index;
  millis : l.millis ≡ millis_of_all l.rate (found Heeded l.filter (take l.song-index l.song-items));
  short : l.millis ≤ l.song-index * 2 ^ 61;
}
