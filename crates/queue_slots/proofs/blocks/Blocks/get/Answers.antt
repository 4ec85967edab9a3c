use Rattle.std.proofs.Common.{List, [], ap, sym, subst, ◌∙◌, arith}
use Rattle.std.specs.Prelude.{slice_get}
use Rattle.std.proofs.lemmas.List.{get_or_read}
use Rattle.queue_slots.specs.declared.entry.Slot.{Slot}
use Rattle.queue_slots.specs.Slots.{entries_of}
use Rattle.queue_slots.specs.Blocks.{IsSpot}
use Rattle.queue_slots.proofs.Positions.{entry-spot}
use Rattle.queue_slots.proofs.blocks.Blocks.get.Goals as goal

pub returns : goal.returns
returns c =
    let bs = c.self.inside.blocks.items in
    let at = c.seek-at.result.0 in
    let spot = subst (λ (x : List (List Slot)). IsSpot x 0 c.args.position at c.seek-at.result.1) c.deref.ensures.value c.seek-at.ensures in
    let found = entry-spot bs c.args.position at c.seek-at.result.1 spot (omega arith) in
    let inside = found.0 in
    let read = get_or_read bs at c.index.result.now (omega arith) c.index.ensures [] in
    c.entry.ensures ∙ ap (λ x. slice_get (entries_of x) c.seek-at.result.1) read ∙ sym found.1 ∙ ap (λ x. slice_get (entries_of x) c.args.position) c.self.view_is
