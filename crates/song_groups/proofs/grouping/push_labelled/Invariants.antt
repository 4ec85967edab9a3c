use Rattle.std.proofs.Common.{◌≡◌, ◌++◌, drop, length}
use Rattle.std.specs.Prelude.{map}
use Rattle.song_groups.specs.Tuples.{labelled}
use Rattle.song_groups.proofs.grouping.push_labelled.Given as goal

-- the lines so far, and those that are left, are all lines
abbrev pub invariant-loop-label : goal.invariant-loop-label
invariant-loop-label l =
    l.answer ++ labelled (map (λ t. t.now) (drop (length l.yielded) l.labels)) (map (λ t. t.now) (drop (length l.yielded) l.texts))
    ≡ l.initial.answer ++ labelled (map (λ t. t.now) l.labels) (map (λ t. t.now) l.texts)
