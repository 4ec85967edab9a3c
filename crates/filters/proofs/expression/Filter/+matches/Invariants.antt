use Rattle.std.proofs.Common.{drop}
use Rattle.std.specs.Prelude.{◌↔◌}
use Rattle.filters.proofs.Truths.{HoldAll}
use Rattle.filters.proofs.expression.Filter.+matches.Given as goal

abbrev pub decreases-matches : goal.decreases-matches
decreases-matches l = goal.size-matches l

-- the filters so far hold
abbrev pub invariant-loop-filter : goal.invariant-loop-filter
invariant-loop-filter l = HoldAll l.case l.filter-items l.song ↔ HoldAll l.case (drop l.filter-index l.filter-items) l.song
