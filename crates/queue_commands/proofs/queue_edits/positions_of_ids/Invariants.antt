use Rattle.std.proofs.Common.{◌≡◌, ◌≤◌, drop, length}
use Rattle.std.specs.List.{All}
use Rattle.song_queue.specs.State.{queue_of}
use Rattle.queue_commands.specs.Queue.{all_of, position_with}
use Rattle.queue_commands.proofs.Gathers.{after}
use Rattle.queue_commands.proofs.queue_edits.positions_of_ids.Given as goal

abbrev pub invariant-loop-id : goal.invariant-loop-id
invariant-loop-id l =
    record {
      positions : after l.positions (all_of (λ id. position_with l.queue id) (drop l.id-index l.ids)) ≡ all_of (λ id. position_with l.queue id) l.ids;
      inside : All (λ r. (r.start ≤ r.end) × (r.end ≤ length (queue_of l.queue))) l.positions;
    }
