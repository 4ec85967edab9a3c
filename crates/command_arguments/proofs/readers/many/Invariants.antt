use Rattle.std.proofs.Common.{◌≡◌, drop, map, string_bytes}
use Rattle.command_arguments.specs.Readers.{many_of}
use Rattle.command_arguments.proofs.Manys.{after}
use Rattle.command_arguments.proofs.readers.many.Given as goal

abbrev pub invariant-loop-word : goal.invariant-loop-word
invariant-loop-word g l = after l.values (many_of g.A.Form.read_gives (map string_bytes (drop l.word-index l.words))) ≡ many_of g.A.Form.read_gives (map string_bytes l.words)
