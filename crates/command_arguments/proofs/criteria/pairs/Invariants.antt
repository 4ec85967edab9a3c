use Rattle.std.proofs.Common.{◌≡◌, length, map, string_bytes}
use Rattle.command_arguments.specs.Criteria.{pairs_of}
use Rattle.command_arguments.proofs.Manys.{after}
use Rattle.command_arguments.proofs.criteria.pairs.Given as goal

abbrev pub invariant-loop-rest : goal.invariant-loop-rest
invariant-loop-rest l = after l.pairs (pairs_of (map string_bytes l.rest)) ≡ pairs_of (map string_bytes l.words)

abbrev pub decreases-loop-rest : goal.decreases-loop-rest
decreases-loop-rest l = length l.rest
