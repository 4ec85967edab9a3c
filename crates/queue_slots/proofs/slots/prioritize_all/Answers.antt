use Rattle.std.proofs.Common.{◌<◌, length, get_or, ap, ◌∙◌, arith}
use Rattle.std.specs.Prelude.{slice_set}
use Rattle.std.proofs.lemmas.List.{get_or_default}
use Rattle.std.proofs.lemmas.List.Edits.{map_over_more}
use Rattle.queue_slots.specs.Slots.{prioritized_slot}
use Rattle.queue_slots.proofs.slots.prioritize_all.Goals as goal

pub loop-slot-preserved : goal.loop-slot-preserved
loop-slot-preserved c =
    let r = c.slot-item.result in
    let xs = c.loop-slot.slot-items in
    let i = c.loop-slot.slot-index in
    let inside : i < length xs = omega arith in
    ap (slice_set xs i) c.prioritize_one.ensures
    ∙ map_over_more (prioritized_slot c.args.version c.args.wraps c.args.priority) c.args.slots.now xs i (get_or xs i r) (omega arith) c.loop-slot.invariant (get_or_default xs i r (get_or xs i r) inside)
