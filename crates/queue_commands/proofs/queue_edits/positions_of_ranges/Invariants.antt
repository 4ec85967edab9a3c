use Rattle.std.proofs.Common.{◌≡◌, ◌≤◌, drop}
use Rattle.std.specs.List.{All}
use Rattle.mpd_text.specs.Answers.Range.{within}
use Rattle.queue_commands.specs.Queue.{all_of}
use Rattle.queue_commands.proofs.Gathers.{after}
use Rattle.queue_commands.proofs.queue_edits.positions_of_ranges.Given as goal

abbrev pub invariant-loop-range : goal.invariant-loop-range
invariant-loop-range l =
    record {
      positions : after l.positions (all_of (λ range. within range l.len) (drop l.range-index l.ranges)) ≡ all_of (λ range. within range l.len) l.ranges;
      inside : All (λ r. (r.start ≤ r.end) × (r.end ≤ l.len)) l.positions;
    }
