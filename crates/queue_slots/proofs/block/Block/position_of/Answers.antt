use Rattle.std.proofs.Common.{ap, sym, ◌∙◌}
use Rattle.std.specs.Prelude.{position, ◌==◌}
use Rattle.queue_slots.specs.declared.entry.Entry.{Entry}
use Rattle.queue_slots.specs.declared.entry.Slot.{Slot}
use Rattle.queue_slots.proofs.Shown.{position-shown_as}
use Rattle.queue_slots.proofs.block.Block.position_of.Goals as goal

pub returns : goal.returns
returns c =
    let b = c.self.inside in
    c.position_in.ensures ∙ ap (position (λ (s : Slot). s.entry.id == c.args.id)) c.deref.ensures.value
    ∙ sym (position-shown_as (λ (e : Entry). e.id == c.args.id) b.alike b.top b.marked b.slots.items) ∙ ap (position (λ (s : Slot). s.entry.id == c.args.id)) c.self.view_is
