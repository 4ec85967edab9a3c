use Rattle.std.proofs.Common.{length, map}
use Rattle.song_search.specs.Folders.{under}
use Rattle.song_search.proofs.Walk.{Walk}
use Rattle.song_search.proofs.folders.list_folder.Given as goal

abbrev pub decreases-loop-first : goal.decreases-loop-first
decreases-loop-first l = length l.rest

abbrev pub invariant-loop-first : goal.invariant-loop-first
invariant-loop-first l = Walk l.folder (under l.folder l.db) l.rest (map (λ t. t.now) l.folders.items) (map (λ s. s.now) l.songs.items)
