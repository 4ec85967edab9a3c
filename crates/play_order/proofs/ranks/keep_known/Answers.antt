use Rattle.std.proofs.Common.{◌≡◌, ◌∙◌, ap, ℕ, ◌≤◌, nat_eq, is_some, rules}
use Rattle.std.specs.HashMap.{get}
use Rattle.std.proofs.lemmas.Fn.{filter_same}
use Rattle.std.proofs.lemmas.List.Elements.{All-filter, All-same}
use Rattle.play_order.specs.declared.modes.Rank.{Rank}
use Rattle.play_order.specs.Scans.{ranks_left}
use Rattle.play_order.proofs.Keeping.{left_of, left-twice}
use Rattle.play_order.proofs.ranks.keep_known.Goals as goal

kept : (c : goal.After-retain) → c.retain.new.self.items ≡ ranks_left c.args.by_id.now c.args.drawn.now.items
kept c = filter_same _ (λ (r : Rank). is_some (get nat_eq c.args.by_id.now r.id)) _ (λ x b q k. search rules) _ _ c.retain.ensures.filtered

pub returns-clause-items : goal.returns-clause-items
returns-clause-items c = kept c

pub returns-clause-left : goal.returns-clause-left
returns-clause-left c = (
  ap (left_of (get nat_eq c.args.by_id.now)) (kept c) ∙ left-twice (get nat_eq c.args.by_id.now) c.args.drawn.now.items,
  λ (greatest : ℕ) h.
      All-same (λ (r : Rank). r.id ≤ greatest) c.retain.new.self.items (ranks_left c.args.by_id.now c.args.drawn.now.items) (kept c)
      (All-filter (λ (r : Rank). is_some (get nat_eq c.args.by_id.now r.id)) (λ (r : Rank). r.id ≤ greatest) c.args.drawn.now.items h),
)
