use Rattle.std.proofs.Common.{◌≤◌, take}
use Rattle.std.specs.Prelude.{All}
use Rattle.play_order.proofs.ranks.greatest_of.Given as goal

abbrev pub invariant-loop-id : goal.invariant-loop-id
invariant-loop-id l = record { first : l.first ≤ l.greatest; ids : All (λ id. id ≤ l.greatest) (take l.id-index l.ids) }
