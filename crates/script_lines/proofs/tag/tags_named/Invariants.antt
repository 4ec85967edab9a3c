use Rattle.std.proofs.Common.{◌≡◌, ◌++◌, map, string_bytes, drop}
use Rattle.std.specs.List.{filter_map}
use Rattle.mpd_text.specs.Songs.Tags.{tag_with}
use Rattle.script_lines.specs.Tags.{first_text, tags_named}
use Rattle.script_lines.proofs.tag.tags_named.Given as goal

-- the tags so far, and those of the names that are left
abbrev pub invariant-loop-name : goal.invariant-loop-name
invariant-loop-name l =
    l.tags.items ++ filter_map (λ name. tag_with name (first_text name (map string_bytes l.words))) (drop l.name-index l.names)
    ≡ tags_named l.names (map string_bytes l.words)
