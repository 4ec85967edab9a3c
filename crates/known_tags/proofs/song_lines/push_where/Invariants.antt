use Rattle.std.proofs.Common.{◌≡◌, ◌++◌, take}
use Rattle.std.specs.List.{flat_map}
use Rattle.known_tags.specs.Lines.{tag_line_where}
use Rattle.known_tags.proofs.song_lines.push_where.Given as goal

abbrev pub invariant-loop-name : goal.invariant-loop-name
invariant-loop-name l = l.answer ≡ l.initial.answer ++ flat_map (tag_line_where l.bits l.tags) (take l.name-index l.names)
