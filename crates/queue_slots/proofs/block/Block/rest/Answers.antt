use Rattle.std.proofs.Common.{drop, ap, sym, ◌∙◌}
use Rattle.std.specs.List.{drop-map}
use Rattle.queue_slots.specs.declared.entry.Slot.{Slot}
use Rattle.queue_slots.specs.Slots.{entries_of}
use Rattle.queue_slots.proofs.Shown.{entries_of-shown_as}
use Rattle.queue_slots.proofs.block.Block.rest.Goals as goal

pub returns : goal.returns
returns c =
    let b = c.self.inside in
    let position = c.args.position in
    ap (λ x. entries_of x) (c.slots_from.ensures ∙ ap (drop position) c.deref.ensures.value) ∙ sym (drop-map (λ (s : Slot). s.entry) position b.slots.items)
    ∙ ap (drop position) (sym (entries_of-shown_as b.alike b.top b.marked b.slots.items) ∙ ap (λ x. entries_of x) c.self.view_is)
