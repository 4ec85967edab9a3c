use Rattle.std.proofs.Common.{◌≡◌, ◌++◌, take}
use Rattle.std.specs.List.{flat_map}
use Rattle.known_tags.specs.Lines.{tagtype_line_where}
use Rattle.known_tags.proofs.song_lines.push_types_where.Given as goal

abbrev pub invariant-loop-name : goal.invariant-loop-name
invariant-loop-name l = l.answer ≡ l.initial.answer ++ flat_map (tagtype_line_where l.bits) (take l.name-index l.names)
