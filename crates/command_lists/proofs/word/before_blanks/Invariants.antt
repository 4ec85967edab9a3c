use Rattle.std.proofs.Common.{◌≡◌, length}
use Rattle.command_lists.specs.Words.{before_blanks}
use Rattle.command_lists.proofs.word.before_blanks.Given as goal

abbrev pub invariant-loop-rest : goal.invariant-loop-rest
invariant-loop-rest l = before_blanks l.rest ≡ before_blanks l.fn.text

abbrev pub decreases-loop-rest : goal.decreases-loop-rest
decreases-loop-rest l = length l.rest
