use Rattle.std.proofs.Common.{◌≡◌, ◌≤◌, ◌+◌, ◌-◌, length}
use Rattle.std.specs.List.{slice_range}
use Rattle.queue_slots.specs.Blocks.{joined}
use Rattle.queue_slots.proofs.many.seek.Given as goal

abbrev pub invariant-loop-at : goal.invariant-loop-at
invariant-loop-at l = record { low : l.from ≤ l.at; high : l.at ≤ length l.blocks; sum : length (joined (slice_range l.blocks l.from l.at)) + l.left ≡ l.position }

abbrev pub decreases-loop-at : goal.decreases-loop-at
decreases-loop-at l = length l.blocks - l.at
