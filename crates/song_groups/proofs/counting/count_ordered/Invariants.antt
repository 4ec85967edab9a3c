use Rattle.std.proofs.Common.{◌≡◌, ◌++◌, false, length, map}
use Rattle.std.specs.List.Sorted.{IsSorted}
use Rattle.song_groups.specs.Order.{in_order, text_key}
use Rattle.song_groups.specs.Counts.{groups, groups_now}
use Rattle.song_groups.proofs.counting.count_ordered.Given as goal

abbrev pub decreases-loop-first : goal.decreases-loop-first
decreases-loop-first l = length l.rest

-- the groups so far, and those of the songs that are left, are all groups
abbrev pub invariant-loop-first : goal.invariant-loop-first
invariant-loop-first l = record {
  order : IsSorted (in_order (text_key l.column) false) (map (λ s. s.now) l.rest);
  all : groups_now l.found.items ++ groups l.column l.rate (map (λ s. s.now) l.rest) ≡ groups l.column l.rate (map (λ s. s.now) l.songs);
}
