use Rattle.std.proofs.Common.{◌≡◌, ◌++◌, ℕ, List, drop}
use Rattle.std.specs.List.{flat_map}
use Rattle.partition.proofs.lists.push_each.Given as goal

abbrev pub invariant-loop-outcome : goal.invariant-loop-outcome
invariant-loop-outcome l =
    record {
      whole : l.bytes.items ++ flat_map (λ t. t.answer.text) (drop l.outcome-index l.outcomes) ≡ l.initial.bytes.items ++ flat_map (λ t. t.answer.text) l.outcomes;
      front : (more : List ℕ) × (l.bytes.items ≡ l.initial.bytes.items ++ more);
    }
