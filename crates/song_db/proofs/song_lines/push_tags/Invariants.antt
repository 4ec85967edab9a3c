use Rattle.std.proofs.Common.{◌≡◌, ◌++◌, drop}
use Rattle.std.specs.List.{flat_map}
use Rattle.song_db.specs.Lines.{tag_line}
use Rattle.song_db.proofs.song_lines.push_tags.Given as goal

abbrev pub invariant-loop-name : goal.invariant-loop-name
invariant-loop-name l =
    l.answer ++ flat_map (λ name. tag_line name l.tags) (drop l.name-index l.name-items) ≡ l.initial.answer ++ flat_map (λ name. tag_line name l.tags) l.name-items
