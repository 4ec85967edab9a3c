use Rattle.std.proofs.Common.{◌∙◌, ap, ℕ, ◌≤◌, ◌++◌, List, nat_eq, arith}
use Rattle.std.specs.HashMap.{get}
use Rattle.std.specs.Prelude.{All}
use Rattle.std.proofs.lemmas.List.Elements.{All-append, All-same, All-weaker}
use Rattle.play_order.specs.declared.modes.Rank.{Rank}
use Rattle.play_order.specs.Draws.{ranks_drawn}
use Rattle.play_order.proofs.Keeping.{drawn-within, finds-left}
use Rattle.play_order.proofs.ranks.draw_all.Goals as goal

pub draw_each-requires-clause-finds : goal.draw_each-requires-clause-finds
draw_each-requires-clause-finds c =
    finds-left (get nat_eq c.args.by_id.now) (get nat_eq c.args.by_id.now) c.args.drawn.now.items c.keep_apart.new.drawn.items (λ q i. get nat_eq c.args.by_id.now q) c.keep_apart.ensures.left.0 c.requires.kept.0

pub returns-clause-ranks : goal.returns-clause-ranks
returns-clause-ranks c = c.draw_each.ensures.ranks ∙ ap (λ (r : List Rank). r ++ ranks_drawn c.args.generator.now c.args.ids.now) c.keep_apart.ensures.left.0

pub returns-clause-kept : goal.returns-clause-kept
returns-clause-kept c =
    let first : ℕ = c.args.greatest.now in
    let most : ℕ = c.greatest_of.result in
    let above : first ≤ most = c.greatest_of.ensures.first in
    let within : All (λ (r : Rank). r.id ≤ most) c.keep_apart.new.drawn.items =
    All-weaker (λ (r : Rank). r.id ≤ first) (λ (r : Rank). r.id ≤ most) (λ (r : Rank) (h : r.id ≤ first). omega (arith, h, above)) c.keep_apart.new.drawn.items
    (c.keep_apart.ensures.left.1 first c.requires.kept.1) in (
      c.draw_each.ensures.finds,
      All-same (λ (r : Rank). r.id ≤ most) c.draw_each.new.drawn.items (c.keep_apart.new.drawn.items ++ ranks_drawn c.args.generator.now c.args.ids.now) c.draw_each.ensures.items
          (All-append (λ (r : Rank). r.id ≤ most) c.keep_apart.new.drawn.items (ranks_drawn c.args.generator.now c.args.ids.now) within
          (drawn-within c.args.generator.now c.args.ids.now most c.greatest_of.ensures.ids)),
    )
