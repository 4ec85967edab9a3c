use Rattle.std.proofs.Common.{◌≡◌, ◌+◌, ◌≤◌, ℕ, List, [], length, drop, nat_le, true, arith, ap, sym, ◌∙◌}
use Rattle.std.proofs.Math.ListN.{drop_of_length-le}
use Rattle.player_events.specs.Outcomes.{OutcomeData}
use Rattle.partition.specs.Lists.{answers_of, counted}
use Rattle.partition.proofs.lists.whole_len.Goals as goal

-- nothing is left: what was counted is all
at_end : (len whole : ℕ) → len ≤ 18446744073709551615 → counted (len + 0) ≡ counted whole → len ≡ counted whole
at_end len whole fits h = let all : nat_le (len + 0) 18446744073709551615 ≡ true = grind (arith, fits) in let same : len + 0 ≡ len = omega arith in cc

-- src/lists.rt:132:1
pub returns : goal.returns
returns c =
    let none : drop c.loop-outcome.outcome-index c.args.outcomes.now ≡ [] = drop_of_length-le c.args.outcomes.now c.loop-outcome-test.false in
    at_end c.loop-outcome.len (length c.args.end.now + length (answers_of c.args.outcomes.now)) c.loop-outcome.invariant.bound
    (ap (λ (rest : List OutcomeData). counted (c.loop-outcome.len + length (answers_of rest))) (sym none) ∙ c.loop-outcome.invariant.whole)
