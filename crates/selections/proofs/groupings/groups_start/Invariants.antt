use Rattle.std.proofs.Common.{◌≡◌, ◌≤◌, length, map, string_bytes}
use Rattle.selections.specs.Groupings.{groups_start}
use Rattle.selections.proofs.groupings.groups_start.Given as goal

-- before the groups of the words that are left are as many words as before those of all
abbrev pub invariant-loop-rest : goal.invariant-loop-rest
invariant-loop-rest l =
    record {
      start : groups_start (map string_bytes l.rest) ≡ groups_start (map string_bytes l.words);
      inside : length l.rest ≤ length l.words;
    }

abbrev pub decreases-loop-rest : goal.decreases-loop-rest
decreases-loop-rest l = length l.rest
