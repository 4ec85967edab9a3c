use Rattle.std.proofs.Common.{◌≡◌, map, string_bytes, drop}
use Rattle.std.specs.List.{list_all}
use Rattle.script_lines.specs.Tags.{is_tag}
use Rattle.script_lines.proofs.tag.are_tags.Given as goal

-- each word so far is a tag
abbrev pub invariant-loop-word : goal.invariant-loop-word
invariant-loop-word l = list_all (is_tag l.everyday) (map string_bytes (drop l.word-index l.words)) ≡ list_all (is_tag l.everyday) (map string_bytes l.words)
