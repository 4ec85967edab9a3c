use Rattle.std.proofs.Common.{◌≡◌, ◌+◌, ◌++◌, length}
use Rattle.std.specs.Vec.Iter.{into_iter_items}
use Rattle.song_queue.specs.State.{entries_of}
use Rattle.song_queue.specs.Entries.{entries_for}
use Rattle.song_queue.proofs.slots.new_slots.Given as goal

abbrev pub invariant-loop-song : goal.invariant-loop-song
invariant-loop-song l =
    (goal.iterator-loop-song).can_next l.song-iterator × (goal.iterator-loop-song).is_finite l.song-iterator × (l.id ≡ l.fn.id + length l.yielded)
    × (entries_of l.slots.items ≡ entries_for (l.fn.id + 1) l.yielded) × (l.yielded ++ into_iter_items l.song-iterator ≡ l.fn.songs.items)
