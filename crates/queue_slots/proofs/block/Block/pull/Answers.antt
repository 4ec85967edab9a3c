use Rattle.std.proofs.Common.{List, ap, length, sym, subst, ◌∙◌, arith}
use Rattle.std.specs.List.{remove}
use Rattle.queue_slots.specs.declared.entry.Slot.{Slot}
use Rattle.queue_slots.specs.Blocks.{IsWithin}
use Rattle.queue_slots.proofs.Shown.{length-shown_as, IsWithin-remove}
use Rattle.queue_slots.proofs.block.Block.pull.Goals as goal

pub invariant_of-self : goal.invariant_of-self
invariant_of-self c =
    let b = c.self.inside in
    let long = length-shown_as b.alike b.top b.marked b.slots.items in
    let view = ap length c.self.view_is in
    let is = c.pull_slot.ensures.items ∙ ap (λ x. remove x c.args.at) c.push_down.ensures.items in
    record {
      room = omega arith;
      len = omega arith;
      within = subst (λ (x : List Slot). IsWithin b.top b.marked x) (sym is) (IsWithin-remove b.top b.marked _ c.args.at c.self.invariant.within);
    }
