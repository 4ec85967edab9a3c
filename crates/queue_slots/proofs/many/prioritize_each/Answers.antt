use Rattle.std.proofs.Common.{◌≤◌, ◌<◌, List, ◌++◌, ap, ◌∙◌, length, map, get_or, arith}
use Rattle.std.specs.Prelude.{slice_set}
use Rattle.std.proofs.lemmas.List.{take_all, drop_all, append-nil, get_or_default}
use Rattle.std.proofs.lemmas.List.Edits.{map_over_more}
use Rattle.queue_slots.specs.declared.entry.Slot.{Slot}
use Rattle.queue_slots.specs.Slots.{prioritized_slot}
use Rattle.queue_slots.specs.Blocks.{joined}
use Rattle.queue_slots.proofs.Joined.{joined-map}
use Rattle.queue_slots.proofs.many.prioritize_each.Goals as goal

pub loop-block-preserved : goal.loop-block-preserved
loop-block-preserved c =
    let r = c.block-item.result in
    let xs = c.loop-block.block-items in
    let i = c.loop-block.block-index in
    let inside : i < length xs = omega arith in
    ap (slice_set xs i) c.prioritize.ensures
    ∙ map_over_more (λ (b : List Slot). map (prioritized_slot c.args.version c.args.wraps c.args.priority) b) c.args.blocks.now xs i (get_or xs i r) (omega arith) c.loop-block.invariant (get_or_default xs i r (get_or xs i r) inside)

pub returns-clause-blocks : goal.returns-clause-blocks
returns-clause-blocks c =
    let xs = c.args.blocks.now in
    let all : length xs ≤ c.loop-block.block-index = omega arith in
    ap (λ x. joined x) (c.loop-block.invariant ∙ (λ i. map (λ (b : List Slot). map (prioritized_slot c.args.version c.args.wraps c.args.priority) b) (take_all _ xs all i) ++ drop_all _ xs all i) ∙ append-nil _) ∙ joined-map (prioritized_slot c.args.version c.args.wraps c.args.priority) xs
