use Rattle.std.proofs.Common.{◌≤◌, ℕ, get_or, sym, take, arith}
use Rattle.std.proofs.lemmas.List.Elements.{All-more, All-same, All-weaker}
use Rattle.play_order.proofs.Lists.{take-all}
use Rattle.play_order.proofs.ranks.greatest_of.Goals as goal

pub loop-id-preserved : goal.loop-id-preserved
loop-id-preserved c =
    let ids = c.args.ids.now in
    let i = c.loop-id.id-index in
    let most = c.max-greatest.result in
    let above : c.loop-id.greatest ≤ most = omega (arith, c.max-greatest.ensures) in
    let here : get_or ids i 0 ≤ most = omega (arith, c.max-greatest.ensures) in
    let first = c.loop-id.invariant.first in
    record {
      first = omega (arith, first, above);
      ids =
          All-more (λ (id : ℕ). id ≤ most) ids i 0 (omega arith)
          (All-weaker (λ (id : ℕ). id ≤ c.loop-id.greatest) (λ (id : ℕ). id ≤ most) (λ (id : ℕ) (h : id ≤ c.loop-id.greatest). omega (arith, h, above)) (take i ids) c.loop-id.invariant.ids) here;
    }

pub returns-clause-ids : goal.returns-clause-ids
returns-clause-ids c =
    All-same (λ (id : ℕ). id ≤ c.loop-id.greatest) c.args.ids.now (take c.loop-id.id-index c.args.ids.now) (sym (take-all c.args.ids.now c.loop-id.id-index (omega arith))) c.loop-id.invariant.ids
