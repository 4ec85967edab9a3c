use Rattle.std.proofs.Common.{◌≡◌, take}
use Rattle.std.specs.Prelude.{map}
use Rattle.song_search.specs.Answers.{tag_texts}
use Rattle.song_groups.proofs.counting.tag_texts.Given as goal

abbrev pub invariant-loop-song : goal.invariant-loop-song
invariant-loop-song l = map (λ t. t.now) l.texts.items ≡ tag_texts l.tag (take l.song-index l.songs)
