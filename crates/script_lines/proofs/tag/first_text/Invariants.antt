use Rattle.std.proofs.Common.{◌≡◌, map, string_bytes, drop}
use Rattle.script_lines.specs.Tags.{first_text}
use Rattle.script_lines.proofs.tag.first_text.Given as goal

-- no word so far counts
abbrev pub invariant-loop-word : goal.invariant-loop-word
invariant-loop-word l = first_text l.name (map string_bytes (drop l.word-index l.words)) ≡ first_text l.name (map string_bytes l.words)
