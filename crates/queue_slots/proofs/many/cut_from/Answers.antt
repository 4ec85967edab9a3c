use Rattle.std.proofs.Common.{◌+◌, List, sym, subst, ◌∙◌, inl, inr, arith}
use Rattle.std.specs.List.{insert}
use Rattle.queue_slots.specs.declared.entry.Slot.{Slot}
use Rattle.queue_slots.specs.Blocks.{IsCut, IsSpot}
use Rattle.queue_slots.proofs.Joined.{cut-none, cut-inside}
use Rattle.queue_slots.proofs.many.cut_from.Goals as goal

pub returns-then-offset-eq0-clause-cut : goal.returns-then-offset-eq0-clause-cut
returns-then-offset-eq0-clause-cut c =
    let bs = c.args.blocks.now.items in
    let spot = subst (λ (x : List (List Slot)). IsSpot x c.args.from c.args.position c.seek-at.result.0 c.seek-at.result.1) c.deref.ensures.value c.seek-at.ensures in
    cut-none bs c.args.from c.args.position _ _ c.if-offset-eq0.true spot

pub returns-clause-cut : goal.returns-clause-cut
returns-clause-cut c =
    let bs = c.args.blocks.now.items in
    let at = c.seek-at.result.0 in
    let is = c.put_block.ensures.blocks ∙ (λ i. insert (c.cut_block-back.ensures.front i) (at + 1) (c.cut_block-back.ensures.back i)) in
    let spot = subst (λ (x : List (List Slot)). IsSpot x c.args.from c.args.position at c.seek-at.result.1) c.deref.ensures.value c.seek-at.ensures in
    elim spot.inside [
      | inl p ↦ absurd (let zero = p.1 in omega arith)
      | inr p ↦
          let inside = p.1 in
          subst (λ (x : List (List Slot)). IsCut bs x c.args.from c.args.position (at + 1)) (sym is) (cut-inside bs c.args.from c.args.position at c.seek-at.result.1 spot.low p.0 (omega arith) spot.sum)
    ]
