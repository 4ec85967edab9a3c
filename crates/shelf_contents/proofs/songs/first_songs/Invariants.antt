use Rattle.std.proofs.Common.{◌≡◌, ◌++◌, take}
use denote.Text.{Utf8}
use denote.Shadow.{shadow}
use Rattle.shelf.specs.Lines.{lines_of}
use Rattle.std.specs.List.{filter_map}
use Rattle.song_db.specs.Library.{song_of}
use Rattle.shelf_contents.proofs.songs.first_songs.Given as goal

abbrev pub invariant-loop-left : goal.invariant-loop-left
invariant-loop-left l = shadow (Utf8 l.rest) × (l.songs.items ++ filter_map (song_of l.db) (take l.left (lines_of l.rest)) ≡ filter_map (song_of l.db) (take l.fn.count (lines_of l.fn.text)))

abbrev pub decreases-loop-left : goal.decreases-loop-left
decreases-loop-left l = l.left
