use Rattle.std.proofs.Common.{◌≤◌, All, take}
use Rattle.song_queue.proofs.queue.any_lies_outside.Given as goal

abbrev pub invariant-loop-range : goal.invariant-loop-range
invariant-loop-range l = All (λ r. (r.start ≤ r.end) × (r.end ≤ l.len)) (take l.range-index l.ranges)
