use Rattle.std.proofs.Common.{ℕ, ◌<◌}
use Rattle.server_rounds.specs.Rounds.{HasTurnFrom}
use Rattle.server_rounds.proofs.rounds.next_turn.Given as goal

abbrev pub invariant-loop-slot : goal.invariant-loop-slot
invariant-loop-slot l = (other : ℕ) → other < l.slot → HasTurnFrom l.slots l.from other → ⊥
