use Rattle.std.proofs.Common.{◌≡◌, ◌+◌, ◌≤◌, ◌++◌, drop, length, take, vec_len, vec_capacity}
use Rattle.house.specs.Lists.{notices_in}
use Rattle.house.proofs.waiting.put_each.Given as goal

abbrev pub invariant-loop-outcome : goal.invariant-loop-outcome
invariant-loop-outcome l = record {
  put : l.notices.items ≡ l.initial.notices.items ++ notices_in (take l.outcome-index l.outcomes);
  room : vec_len l.notices + length (notices_in (drop l.outcome-index l.outcomes)) ≤ vec_capacity l.notices;
}
