use Rattle.std.proofs.Common.{subst, sym}
use Rattle.play_order.specs.Waits.{HasKeyWith, IsOrderOf, WaitingState}
use Rattle.play_order.proofs.Orders.{order-lacks, order-left}
use Rattle.play_order.proofs.waiting.Waiting.remove.Goals as goal

pub returns-in-Some : goal.returns-in-Some
returns-in-Some c = λ ranks played order.
    order-left ranks played c.self.inside.known.items c.self.inside.keys.keys c.remove.new.self.keys c.self.inside.version c.args.id c.in-Some.key
    (subst (λ (w : WaitingState). HasKeyWith c.args.id w c.in-Some.key) (sym c.self.view_is) c.in-Some.ensures.found) c.remove.ensures.updates.0
    (subst (λ (w : WaitingState). IsOrderOf ranks played w) (sym c.self.view_is) order)

pub returns-in_default : goal.returns-in_default
returns-in_default c = λ ranks played order. order-lacks ranks played c.args.id c.args.self.now c.in_default.ensures.none order
