use Rattle.std.proofs.Common.{◌||◌, List, ap, sym, subst, map, ◌∙◌, arith}
use Rattle.queue_slots.specs.declared.entry.Slot.{Slot}
use Rattle.queue_slots.specs.Slots.{prioritized_slot}
use Rattle.queue_slots.specs.Blocks.{IsWithin}
use Rattle.queue_slots.proofs.Shown.{IsWithin-prioritized, IsWithin-more, none_left, none_right}
use Rattle.queue_slots.proofs.block.Block.prioritize.Goals as goal

pub invariant_of-self : goal.invariant_of-self
invariant_of-self c =
    let b = c.self.inside in
    let t = c.max-self-inside.result in
    let m = b.marked || c.args.wraps in
    let is = c.prioritize.ensures.items ∙ ap (map (prioritized_slot c.args.version c.args.wraps c.args.priority)) c.push_down.ensures.items in
    record {
      room = omega arith;
      len = omega arith;
      within = subst (λ (x : List Slot). IsWithin t m x) (sym is)
          (IsWithin-prioritized t m c.args.version c.args.wraps c.args.priority _ (omega arith) (none_right b.marked c.args.wraps)
          (IsWithin-more b.top t b.marked m _ (omega arith) (none_left b.marked c.args.wraps) c.self.invariant.within));
    }
