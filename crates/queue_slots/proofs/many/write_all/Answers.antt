use Rattle.std.proofs.Common.{◌≤◌, ◌<◌, List, ◌++◌, ap, ◌∙◌, length, map, get_or, arith}
use Rattle.std.specs.Prelude.{slice_set}
use Rattle.std.proofs.lemmas.List.{take_all, drop_all, append-nil, get_or_default}
use Rattle.std.proofs.lemmas.List.Edits.{map_over_more}
use Rattle.queue_slots.specs.declared.entry.Slot.{Slot}
use Rattle.queue_slots.specs.Slots.{written, entries_of}
use Rattle.queue_slots.specs.Blocks.{joined}
use Rattle.queue_slots.proofs.Joined.{joined-written}
use Rattle.queue_slots.proofs.many.write_all.Goals as goal

pub loop-block-preserved : goal.loop-block-preserved
loop-block-preserved c =
    let r = c.block-item.result in
    let xs = c.loop-block.block-items in
    let i = c.loop-block.block-index in
    let inside : i < length xs = omega arith in
    ap (slice_set xs i) c.write.ensures
    ∙ map_over_more (λ (b : List Slot). map (written c.args.version c.args.wraps) (entries_of b)) c.args.blocks.now xs i (get_or xs i r) (omega arith) c.loop-block.invariant (get_or_default xs i r (get_or xs i r) inside)

pub returns-clause-blocks : goal.returns-clause-blocks
returns-clause-blocks c =
    let xs = c.args.blocks.now in
    let all : length xs ≤ c.loop-block.block-index = omega arith in
    ap (λ x. joined x) (c.loop-block.invariant ∙ (λ i. map (λ (b : List Slot). map (written c.args.version c.args.wraps) (entries_of b)) (take_all _ xs all i) ++ drop_all _ xs all i) ∙ append-nil _) ∙ joined-written c.args.version c.args.wraps xs
