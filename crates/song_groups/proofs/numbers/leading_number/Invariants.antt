use Rattle.std.proofs.Common.{◌≡◌, ◌≤◌, drop}
use Rattle.song_groups.specs.Numbers.{leading_number}
use Rattle.song_groups.proofs.Leading.{behind}
use Rattle.song_groups.proofs.numbers.leading_number.Given as goal

-- the digits that are left go on with the number so far
abbrev pub invariant-loop-byte : goal.invariant-loop-byte
invariant-loop-byte l = record {
  small : l.number ≤ 4294967295;
  rest : leading_number l.text ≡ behind l.number (drop l.byte-index l.byte-items);
}
