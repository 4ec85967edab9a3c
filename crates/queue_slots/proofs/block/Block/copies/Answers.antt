use Rattle.std.proofs.Common.{List, take, drop, ap, sym, ◌∙◌}
use Rattle.queue_slots.specs.declared.entry.Slot.{Slot}
use Rattle.queue_slots.specs.Blocks.{shown_as}
use Rattle.queue_slots.proofs.Shown.{take-shown_as, drop-shown_as}
use Rattle.queue_slots.proofs.block.Block.copies.Goals as goal

pub returns : goal.returns
returns c =
    let b = c.self.inside in
    let from = c.args.from in
    let most = c.args.most in
    c.push_down.ensures.items ∙ ap (λ x. shown_as b.alike b.top b.marked x) (c.in_ok-copies.ensures ∙ c.part_of.ensures ∙ ap (λ (x : List Slot). take most (drop from x)) c.deref.ensures.value)
    ∙ sym (take-shown_as b.alike b.top b.marked most (drop from b.slots.items)) ∙ ap (take most) (sym (drop-shown_as b.alike b.top b.marked from b.slots.items) ∙ ap (drop from) c.self.view_is)
