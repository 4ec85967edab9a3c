use Rattle.std.proofs.Common.{◌≡◌, ◌∙◌, ap, sym, ℕ, ◌==◌, false, arith}
use Rattle.play_order.specs.Draws.{moved_last, others}
use Rattle.play_order.proofs.Ids.{moved-then-others, moved-same}
use Rattle.play_order.proofs.played.Played.leave_for.Goals as goal

pub returns-then-other-id-clause-ok : goal.returns-then-other-id-clause-ok
returns-then-other-id-clause-ok c =
    let apart : (c.args.other == c.args.id) ≡ false = grind (arith, c.if-other-id.true) in
    c.remove_one.ensures ∙ ap (others c.args.id) c.in_ok-move_last.ensures.ok ∙ moved-then-others c.args.self.now c.args.id c.args.other apart

pub returns-else-other-id-clause-ok : goal.returns-else-other-id-clause-ok
returns-else-other-id-clause-ok c =
    c.in_ok-move_last.ensures.ok ∙ sym (moved-same c.args.self.now c.args.other)
    ∙ ap (λ (id : ℕ). moved_last (others id c.args.self.now) c.args.other) c.if-other-id.false
