use Rattle.std.proofs.Common.{◌≡◌, ◌++◌, take}
use Rattle.song_groups.specs.Counts.{lines_of_groups, groups_now}
use Rattle.song_groups.proofs.counting.push_counts.Given as goal

abbrev pub invariant-loop-group : goal.invariant-loop-group
invariant-loop-group l = l.answer ≡ l.initial.answer ++ lines_of_groups l.label (groups_now (take l.group-index l.groups))
