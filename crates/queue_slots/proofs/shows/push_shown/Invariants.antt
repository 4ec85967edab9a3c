use Rattle.std.proofs.Common.{◌≡◌, ◌++◌, ◌||◌, ℕ, map, take, ltb}
use Rattle.std.specs.Prelude.{filter}
use Rattle.std.specs.List.{enumerate_from}
use Rattle.queue_slots.specs.declared.entry.Slot.{Slot}
use Rattle.queue_slots.proofs.shows.push_shown.Given as goal

abbrev pub invariant-loop-step : goal.invariant-loop-step
invariant-loop-step l = l.positions.items ≡ l.fn.positions.items ++ map (λ (p : ℕ × Slot). p.0) (filter (λ (p : ℕ × Slot). p.1.marked || ltb l.version p.1.stamp || ltb l.present l.version) (enumerate_from l.at (take l.step l.slots)))
