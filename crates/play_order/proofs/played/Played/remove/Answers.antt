use Rattle.std.proofs.Common.{◌∙◌, ap, sym, ℕ, List, filter, not, get_or, take, arith}
use Rattle.std.proofs.lemmas.List.{take_more}
use Rattle.play_order.specs.Draws.{is_among, others}
use Rattle.play_order.proofs.Ids.{left-more}
use Rattle.play_order.proofs.Lists.{filter-all}
use Rattle.play_order.proofs.played.Played.remove.Goals as goal

pub loop-id-init : goal.loop-id-init
loop-id-init c = sym (filter-all c.args.self.now)

pub loop-id-preserved : goal.loop-id-preserved
loop-id-preserved c =
    let ids = c.args.ids.now in
    let i = c.loop-id.id-index in
    c.remove_one.ensures ∙ ap (others (get_or ids i 0)) c.loop-id.invariant ∙ left-more (get_or ids i 0) (take i ids) c.args.self.now
    ∙ ap (λ (gone : List ℕ). filter (λ (id : ℕ). not (is_among id gone)) c.args.self.now) (sym (take_more ids i 0 (omega arith)))
