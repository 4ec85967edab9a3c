use Rattle.std.proofs.Common.{◌≡◌, ◌++◌, take, map, string_bytes}
use Rattle.shelf_contents.specs.Shown.{playlist_lines}
use Rattle.shelf_contents.proofs.shown.push_names.Given as goal

abbrev pub invariant-loop-name : goal.invariant-loop-name
invariant-loop-name l = l.answer ≡ l.initial.answer ++ playlist_lines (map string_bytes (take l.name-index l.names))
