use Rattle.std.proofs.Common.{◌≡◌, drop}
use Rattle.filters.specs.PairSteps.{joined_with, pairs_of}
use Rattle.filters.proofs.pairs.read_pairs.Given as goal

-- the pairs so far and those that are left are all of them
abbrev pub invariant-loop-pair : goal.invariant-loop-pair
invariant-loop-pair l = joined_with l.vocabulary l.test l.filter (drop l.pair-index l.more) ≡ pairs_of l.vocabulary l.test l.pairs
