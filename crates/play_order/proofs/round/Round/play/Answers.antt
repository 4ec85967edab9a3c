use Rattle.std.proofs.Common.{subst, sym, ℕ, List, IfSome}
use Rattle.play_order.specs.Waits.{IsOrderOf}
use Rattle.play_order.proofs.round.Round.play.Goals as goal

pub invariant_of-self-2 : goal.invariant_of-self-2
invariant_of-self-2 c =
    subst (λ (played : List ℕ). IfSome c.leave.new.waiting (IsOrderOf c.self.inside.ranks played)) (sym c.in_ok-move_last.ensures.ok)
    (c.leave.ensures c.self.inside.ranks c.self.inside.played c.self.invariant)
