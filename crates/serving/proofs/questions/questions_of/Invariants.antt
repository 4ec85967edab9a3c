use Rattle.std.specs.Prelude.{◌≡◌, [], ◌∷◌, ◌++◌, codes, take}
use Rattle.std.specs.List.{flat_map}
use Rattle.serving.specs.Keeping.{asked_by, questions_in}
use Rattle.serving.proofs.questions.questions_of.Given as goal

abbrev pub invariant-loop-name : goal.invariant-loop-name
invariant-loop-name l =
    l.requests.items ≡ (asked_by (codes "listpartitions") ∷ []) ++ flat_map questions_in (take l.name-index l.names)
