use Rattle.std.proofs.Common.{◌∙◌, ap, ◌≤◌, nat_eq}
use Rattle.std.specs.HashMap.{get, hash_map_len}
use Rattle.std.proofs.lemmas.List.Elements.{All-same}
use Rattle.play_order.specs.declared.modes.Rank.{Rank}
use Rattle.play_order.proofs.Keeping.{finds-left, left-alike, left_of, tidy-alike}
use Rattle.play_order.proofs.ranks.make_room.Goals as goal

pub returns-in_err-reserve-clause-ranks : goal.returns-in_err-reserve-clause-ranks
returns-in_err-reserve-clause-ranks c = ap (left_of (get nat_eq c.args.by_id.now)) c.reserve.ensures.items ∙ c.tidy.ensures.left.0

pub returns-in_err-reserve-clause-kept : goal.returns-in_err-reserve-clause-kept
returns-in_err-reserve-clause-kept c = λ n h. (
  finds-left (get nat_eq c.args.by_id.now) (get nat_eq c.args.by_id.now) c.args.drawn.now.items c.reserve.new.self.items (λ q i. get nat_eq c.args.by_id.now q)
      (ap (left_of (get nat_eq c.args.by_id.now)) c.reserve.ensures.items ∙ c.tidy.ensures.left.0) h.0,
  All-same (λ (r : Rank). r.id ≤ n) c.reserve.new.self.items c.tidy.new.drawn.items c.reserve.ensures.items (c.tidy.ensures.left.1 n h.1),
)

pub returns-clause-ranks : goal.returns-clause-ranks
returns-clause-ranks c =
    left-alike (get nat_eq c.args.by_id.now) (get nat_eq c.reserve-2.new.self) c.reserve.new.self.items c.reserve-2.ensures.entries.2
    ∙ ap (left_of (get nat_eq c.args.by_id.now)) c.reserve.ensures.items ∙ c.tidy.ensures.left.0

pub returns-clause-kept : goal.returns-clause-kept
returns-clause-kept c = λ n h. (
  finds-left (get nat_eq c.args.by_id.now) (get nat_eq c.reserve-2.new.self) c.args.drawn.now.items c.reserve.new.self.items c.reserve-2.ensures.entries.2
      (
      left-alike (get nat_eq c.args.by_id.now) (get nat_eq c.reserve-2.new.self) c.reserve.new.self.items c.reserve-2.ensures.entries.2
      ∙ ap (left_of (get nat_eq c.args.by_id.now)) c.reserve.ensures.items ∙ c.tidy.ensures.left.0)
      h.0,
  All-same (λ (r : Rank). r.id ≤ n) c.reserve.new.self.items c.tidy.new.drawn.items c.reserve.ensures.items (c.tidy.ensures.left.1 n h.1),
)

pub returns-clause-tidy : goal.returns-clause-tidy
returns-clause-tidy c = λ full.
    tidy-alike (get nat_eq c.args.by_id.now) (get nat_eq c.reserve-2.new.self) c.tidy.new.drawn.items c.reserve.new.self.items (hash_map_len c.args.by_id.now) (hash_map_len c.reserve-2.new.self) c.reserve-2.ensures.entries.2
    c.reserve-2.ensures.entries.1 c.reserve.ensures.items (c.tidy.ensures.tidy full)
