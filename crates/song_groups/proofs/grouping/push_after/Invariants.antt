use Rattle.std.proofs.Common.{◌≡◌, ◌++◌, drop}
use Rattle.std.specs.Prelude.{map}
use Rattle.song_groups.specs.Tuples.{lines_after, tuples_now}
use Rattle.song_groups.proofs.grouping.push_after.Given as goal

-- the lines so far, and those that are left, are all lines
abbrev pub invariant-loop-tuple : goal.invariant-loop-tuple
invariant-loop-tuple l =
    l.answer ++ lines_after (map (λ t. t.now) l.labels) (map (λ t. t.now) l.before) (tuples_now (drop l.tuple-index l.tuples))
    ≡ l.initial.answer ++ lines_after (map (λ t. t.now) l.labels) (map (λ t. t.now) l.initial.before) (tuples_now l.tuples)
