use Rattle.std.proofs.Common.{◌≡◌, length}
use Rattle.std.specs.Bool.{beq}
use lib.Pointwise.{pointwise}
use Rattle.connected_clients.proofs.fingerprint.same_flags.Given as goal

abbrev pub decreases-loop-ones : goal.decreases-loop-ones
decreases-loop-ones l = length l.ones

abbrev pub invariant-loop-ones : goal.invariant-loop-ones
invariant-loop-ones l = pointwise beq l.ones l.others ≡ pointwise beq l.first l.second
