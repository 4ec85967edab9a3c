use Rattle.std.proofs.Common.{◌≡◌, take}
use Rattle.std.specs.Prelude.{map}
use Rattle.song_search.specs.Answers.{found}
use Rattle.song_search.proofs.search.find.Given as goal

abbrev pub invariant-loop-song : goal.invariant-loop-song
invariant-loop-song l = map (λ s. s.now) l.songs.items ≡ found l.case l.filter (take l.song-index l.song-items)
