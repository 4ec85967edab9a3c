use Rattle.std.proofs.Common.{◌∙◌, ◌<◌, ap, ℕ, Option, get_or, nat_eq}
use Rattle.std.specs.HashMap.{get}
use Rattle.std.proofs.lemmas.List.Elements.{All-from_get_or, All-weaker}
use Rattle.play_order.proofs.Keeping.{KeepsNone, has_drawn, left-known, none-above}
use Rattle.play_order.proofs.ranks.keep_apart.Goals as goal

pub returns-then-not-are_new-clause-none_gone : goal.returns-then-not-are_new-clause-none_gone
returns-then-not-are_new-clause-none_gone c =
    let known : ℕ → Option ℕ = get nat_eq c.args.by_id.now in
    let ids = c.args.ids.now in
    All-from_get_or (KeepsNone known c.keep_known.new.drawn.items) ids 0
    (λ i l none. ap (has_drawn (get_or ids i 0)) c.keep_known.ensures.items ∙ left-known known c.args.drawn.now.items (get_or ids i 0) none)

pub returns-else-not-are_new-clause-none_gone : goal.returns-else-not-are_new-clause-none_gone
returns-else-not-are_new-clause-none_gone c =
    let known : ℕ → Option ℕ = get nat_eq c.args.by_id.now in
    All-weaker (λ (id : ℕ). c.args.greatest < id) (KeepsNone known c.args.drawn.now.items)
    (λ (id : ℕ) (above : c.args.greatest < id) none. none-above c.args.drawn.now.items c.args.greatest id c.requires above) c.args.ids.now (c.are_new.ensures c.if-not-are_new.false)
