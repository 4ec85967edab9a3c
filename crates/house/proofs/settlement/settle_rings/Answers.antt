use Rattle.std.proofs.Common.{◌≡◌, ◌∙◌, [], subst}
use Rattle.std.proofs.lemmas.List.{nil_from_length}
use Rattle.std.specs.Vec.Iter.{into_iter_items}
use Rattle.house.specs.Settling.{SettlesInTurn, numbers_in}
use Rattle.house.proofs.InTurn.{settles_all}
use Rattle.house.proofs.settlement.settle_rings.Goals as goal

pub returns-clause-settles : goal.returns-clause-settles
returns-clause-settles g c =
    let was = c.loop-ring.invariant in
    let none : into_iter_items c.loop-ring.ring-iterator ≡ [] = nil_from_length (into_iter_items c.loop-ring.ring-iterator) (was.left ∙ c.in-None.ensures.steps.0) in
    subst (λ rings. SettlesInTurn 0 (numbers_in c.args.books.now) rings c.loop-ring.results.items) c.into_iter-ring-iterator.ensures.into_iter_gives.0 (settles_all _ _ _ _ _ _ none was.settles)
