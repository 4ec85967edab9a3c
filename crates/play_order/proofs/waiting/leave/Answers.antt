use Rattle.std.proofs.Common.{subst, sym, Option, IfSome}
use Rattle.play_order.specs.Draws.{moved_last}
use Rattle.play_order.specs.Waits.{IsOrderOf, WaitingState}
use Rattle.play_order.proofs.waiting.leave.Goals as goal

pub returns-in-Some : goal.returns-in-Some
returns-in-Some c = λ ranks played order. c.remove.ensures ranks played (subst (λ (o : Option WaitingState). IfSome o (IsOrderOf ranks played)) c.in-Some.is order)

pub returns-in_default : goal.returns-in_default
returns-in_default c = λ ranks played order. subst (λ (o : Option WaitingState). IfSome o (IsOrderOf ranks (moved_last played c.args.id))) (sym c.in_default.is) tt
