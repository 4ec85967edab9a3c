use Rattle.std.proofs.Common.{◌≡◌, take}
use Rattle.std.specs.Prelude.{map}
use Rattle.song_groups.specs.Tuples.{tuple_of}
use Rattle.song_groups.proofs.grouping.tuple_of.Given as goal

abbrev pub invariant-loop-column : goal.invariant-loop-column
invariant-loop-column l = map (λ t. t.now) l.tuple.items ≡ tuple_of (take l.column-index l.columns) l.song
