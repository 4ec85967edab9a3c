use Rattle.std.proofs.Common.{◌≡◌, ◌+◌, ◌≤◌, length, vec_capacity}
use Rattle.std.specs.Vec.Iter.{into_iter_items, into_iter_len}
use Rattle.partition.proofs.ListRuns.{Ran}
use Rattle.partition.proofs.partition.Partition.run_requests.Given as goal

abbrev pub invariant-loop-request : goal.invariant-loop-request
invariant-loop-request g l =
    record {
      ran : Ran g.S.Shelf.standing g.S.Shelf.failed l.seat l.client l.form l.initial.self l.self l.initial.shelf l.shelf (into_iter_items l.initial.request-iterator) (into_iter_items l.request-iterator) l.outcomes.items;
      room : length l.outcomes.items + length (into_iter_items l.request-iterator) ≤ vec_capacity l.outcomes;
      left : into_iter_len l.request-iterator ≡ length (into_iter_items l.request-iterator);
    }
