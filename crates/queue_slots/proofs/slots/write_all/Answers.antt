use Rattle.std.proofs.Common.{◌<◌, length, ◌≤◌, map, ◌++◌, get_or, arith, ◌∙◌}
use Rattle.std.proofs.lemmas.List.{get_or_default, take_all, drop_all, append-nil}
use Rattle.std.proofs.lemmas.List.Edits.{map_over_more}
use Rattle.queue_slots.specs.declared.entry.Slot.{Slot}
use Rattle.queue_slots.proofs.Shown.{map-written}
use Rattle.queue_slots.specs.Slots.{written}
use Rattle.queue_slots.proofs.slots.write_all.Goals as goal

pub loop-slot-preserved : goal.loop-slot-preserved
loop-slot-preserved c =
    let r = c.slot-item.result in
    let xs = c.loop-slot.slot-items in
    let i = c.loop-slot.slot-index in
    let inside : i < length xs = omega arith in
    map_over_more (λ s. written c.args.version c.args.wraps s.entry) c.args.slots.now xs i (get_or xs i r) (omega arith) c.loop-slot.invariant (get_or_default xs i r (get_or xs i r) inside)

pub returns : goal.returns
returns c =
    let xs = c.args.slots.now in
    let all : length xs ≤ c.loop-slot.slot-index = omega arith in
    c.loop-slot.invariant ∙ (λ j. map (λ (s : Slot). written c.args.version c.args.wraps s.entry) (take_all _ xs all j) ++ drop_all _ xs all j) ∙ append-nil _ ∙ map-written c.args.version c.args.wraps xs
