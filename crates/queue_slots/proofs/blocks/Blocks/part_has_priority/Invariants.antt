use Rattle.std.proofs.Common.{◌≡◌, ◌≤◌, ◌-◌}
use Rattle.std.specs.Prelude.{All}
use Rattle.std.specs.List.{slice_range}
use Rattle.queue_slots.proofs.blocks.Blocks.part_has_priority.Given as goal

abbrev pub invariant-loop-at : goal.invariant-loop-at
invariant-loop-at l =
    record {
      low : l.start ≤ l.at;
      high : l.at ≤ l.end;
      all : All (λ s. s.entry.priority ≡ l.priority) (slice_range l.self l.start l.at);
    }

abbrev pub decreases-loop-at : goal.decreases-loop-at
decreases-loop-at l = l.end - l.at
