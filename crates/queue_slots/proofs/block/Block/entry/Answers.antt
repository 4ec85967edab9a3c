use Rattle.std.proofs.Common.{ap, sym, ◌∙◌}
use Rattle.std.specs.Prelude.{slice_get}
use Rattle.queue_slots.specs.Slots.{entries_of}
use Rattle.queue_slots.proofs.Shown.{entries_of-shown_as}
use Rattle.queue_slots.proofs.block.Block.entry.Goals as goal

pub returns : goal.returns
returns c =
    let b = c.self.inside in
    c.entry_at.ensures ∙ ap (λ x. slice_get (entries_of x) c.args.position) c.deref.ensures.value
    ∙ ap (λ x. slice_get x c.args.position) (sym (entries_of-shown_as b.alike b.top b.marked b.slots.items) ∙ ap (λ x. entries_of x) c.self.view_is)
