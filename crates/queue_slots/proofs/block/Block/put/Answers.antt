use Rattle.std.proofs.Common.{◌||◌, List, ap, length, sym, subst, ◌∙◌, arith}
use Rattle.std.specs.List.{insert}
use Rattle.queue_slots.specs.declared.entry.Slot.{Slot}
use Rattle.queue_slots.specs.Blocks.{IsWithin}
use Rattle.queue_slots.proofs.Shown.{length-shown_as, IsWithin-insert, IsWithin-more, none_left, none_right}
use Rattle.queue_slots.proofs.block.Block.put.Goals as goal

pub invariant_of-self : goal.invariant_of-self
invariant_of-self c =
    let b = c.self.inside in
    let s = c.args.slot in
    let long = length-shown_as b.alike b.top b.marked b.slots.items in
    let view = ap length c.self.view_is in
    let t = c.max-self-inside.result in
    let m = b.marked || s.marked in
    let is = c.put_slot.ensures.items ∙ ap (λ x. insert x c.args.at s) c.push_down.ensures.items in
    record {
      room = omega arith;
      len = omega arith;
      within = subst (λ (x : List Slot). IsWithin t m x) (sym is)
          (IsWithin-insert t m _ c.args.at s (omega arith) (none_right b.marked s.marked) (IsWithin-more b.top t b.marked m _ (omega arith) (none_left b.marked s.marked) c.self.invariant.within));
    }
