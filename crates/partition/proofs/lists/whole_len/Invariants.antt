use Rattle.std.proofs.Common.{◌≡◌, ◌+◌, ◌≤◌, length, drop}
use Rattle.partition.specs.Lists.{answers_of, counted}
use Rattle.partition.proofs.lists.whole_len.Given as goal

abbrev pub invariant-loop-outcome : goal.invariant-loop-outcome
invariant-loop-outcome l =
    record {
      bound : l.len ≤ 18446744073709551615;
      whole : counted (l.len + length (answers_of (drop l.outcome-index l.outcomes))) ≡ counted (length l.end + length (answers_of l.outcomes));
    }
