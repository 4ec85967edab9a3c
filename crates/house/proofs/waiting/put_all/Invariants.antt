use Rattle.std.proofs.Common.{◌≡◌, ◌+◌, ◌≤◌, ◌++◌, drop, length, take, vec_len, vec_capacity}
use Rattle.house.proofs.waiting.put_all.Given as goal

abbrev pub invariant-loop-notice : goal.invariant-loop-notice
invariant-loop-notice l = record {
  put : l.notices.items ≡ l.initial.notices.items ++ take l.notice-index l.new;
  room : vec_len l.notices + length (drop l.notice-index l.new) ≤ vec_capacity l.notices;
  capacity : vec_capacity l.notices ≡ vec_capacity l.initial.notices;
}
