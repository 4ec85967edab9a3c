use Rattle.std.proofs.Common.{◌≡◌, ◌↔◌, ℕ, ◌<◌, length, true, false, slice_index_or}
use Rattle.server_rounds.specs.Rounds.{IsCalledAmong}
use Rattle.server_rounds.proofs.rounds.called_in.Given as goal

abbrev pub invariant-loop-slot : goal.invariant-loop-slot
invariant-loop-slot l =
    (length l.called ≡ 64) × ((k : ℕ) → k < l.slot → (slice_index_or l.called k false ≡ true) ↔ IsCalledAmong l.slots l.clients k)
