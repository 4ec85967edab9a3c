use Rattle.std.proofs.Common.{◌≡◌, ◌++◌}
use Rattle.std.specs.Vec.Iter.{into_iter_items}
use Rattle.song_db.proofs.db.shared.Given as goal

abbrev pub invariant-loop-song : goal.invariant-loop-song
invariant-loop-song l =
    (goal.iterator-loop-song).can_next l.song-iterator × (goal.iterator-loop-song).is_finite l.song-iterator
    × (l.handles.items ≡ l.yielded) × (l.yielded ++ into_iter_items l.song-iterator ≡ l.fn.songs.items)
