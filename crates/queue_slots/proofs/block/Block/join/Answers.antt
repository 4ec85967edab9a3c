use Rattle.std.proofs.Common.{◌++◌, ◌||◌, List, ap, sym, subst, ◌∙◌, length, arith}
use Rattle.queue_slots.specs.declared.entry.Slot.{Slot}
use Rattle.queue_slots.specs.Blocks.{IsWithin}
use Rattle.queue_slots.proofs.Shown.{length-shown_as, IsWithin-append, IsWithin-more, none_left, none_right}
use Rattle.queue_slots.proofs.block.Block.join.Goals as goal

pub invariant_of-self : goal.invariant_of-self
invariant_of-self c =
    let b = c.self.inside in
    let o = c.other.inside in
    let long = length-shown_as b.alike b.top b.marked b.slots.items in
    let view = ap length c.self.view_is in
    let longer = length-shown_as o.alike o.top o.marked o.slots.items in
    let others = ap length c.other.view_is in
    let is = c.move_all.ensures.items ∙ (λ i. c.push_down.ensures.items i ++ c.push_down-2.ensures.items i) in
    record {
      room = omega arith;
      len = omega arith;
      within = subst (λ (x : List Slot). IsWithin c.max-self-inside.result (b.marked || o.marked) x) (sym is)
          (IsWithin-append c.max-self-inside.result (b.marked || o.marked) _ _
          (IsWithin-more b.top c.max-self-inside.result b.marked (b.marked || o.marked) _ (omega arith) (none_left b.marked o.marked) c.self.invariant.within)
          (IsWithin-more o.top c.max-self-inside.result o.marked (b.marked || o.marked) _ (omega arith) (none_right b.marked o.marked) c.other.invariant.within));
    }
