use Rattle.std.proofs.Common.{◌≡◌, ◌≤◌, ◌*◌, ◌^◌, take}
use Rattle.song_search.specs.Answers.{millis_of_all}
use Rattle.status_commands.proofs.stats.seconds_of.Given as goal

abbrev pub invariant-loop-song : goal.invariant-loop-song
invariant-loop-song l = record {
  millis : l.millis ≡ millis_of_all l.rate (take l.song-index l.songs);
  short : l.millis ≤ l.song-index * 2 ^ 61;
}
