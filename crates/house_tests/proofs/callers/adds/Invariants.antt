use Rattle.std.specs.Prelude.{◌≡◌, ◌+◌, ◌<◌}
use Rattle.house.specs.Seats.{seat_count}
use Rattle.house_tests.proofs.callers.adds.Given as goal

abbrev pub invariant-loop-i : goal.invariant-loop-i
invariant-loop-i g l = (l.initial.seat.number < 4) × (l.seat ≡ seat_count l.initial.seat.number (l.initial.seat.made + l._i))
