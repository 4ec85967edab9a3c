use Rattle.std.proofs.Common.{ℕ, ◌<◌}
use Rattle.server_rounds.specs.Rounds.{IsCalledFrom}
use Rattle.server_rounds.proofs.rounds.next_called.Given as goal

abbrev pub invariant-loop-slot : goal.invariant-loop-slot
invariant-loop-slot l = (other : ℕ) → other < l.slot → IsCalledFrom l.called l.from other → ⊥
