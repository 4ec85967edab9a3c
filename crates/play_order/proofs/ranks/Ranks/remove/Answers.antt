use Rattle.std.proofs.Common.{◌≡◌, ◌∙◌, sym, ap, ℕ, nat_eq, List, filter, not, None, Option, cond}
use Rattle.std.specs.HashMap.{get}
use Rattle.play_order.specs.declared.modes.Rank.{Rank}
use Rattle.play_order.specs.Draws.{is_among}
use Rattle.play_order.specs.Scans.{ranks_left}
use Rattle.play_order.proofs.Ids.{rank_at, rank-left}
use Rattle.play_order.proofs.Keeping.{left-forgotten}
use Rattle.play_order.proofs.ranks.Ranks.remove.Goals as goal

left : (c : goal.After-forget_all) → ranks_left c.forget_all.new.by_id c.self.inside.drawn.items ≡ filter (λ (r : Rank). not (is_among r.id c.args.ids.now)) (ranks_left c.self.inside.by_id c.self.inside.drawn.items)
left c = left-forgotten (get nat_eq c.self.inside.by_id) (get nat_eq c.forget_all.new.by_id) c.args.ids.now c.self.inside.drawn.items c.forget_all.ensures

pub invariant_of-self : goal.invariant_of-self
invariant_of-self c =
    let old : List Rank = ranks_left c.self.inside.by_id c.self.inside.drawn.items in (
      λ id.
          c.forget_all.ensures id ∙ ap (λ (r : Option ℕ). cond (is_among id c.args.ids.now) None r) (c.self.invariant.0 id) ∙ sym (rank-left id c.args.ids.now old)
          ∙ ap (λ (ranks : List Rank). rank_at ranks id) (sym (left c)),
      c.self.invariant.1,
    )

pub returns : goal.returns
returns c = left c ∙ ap (filter (λ (r : Rank). not (is_among r.id c.args.ids.now))) c.self.view_is
