use Rattle.std.proofs.Common.{◌≡◌, ◌+◌, ◌-◌, ◌++◌, List, [], length, take, drop, ap, sym, ◌∙◌, length-append, arith}
use Rattle.std.proofs.lemmas.List.{get_or_read}
use Rattle.queue_slots.specs.declared.entry.Slot.{Slot}
use Rattle.queue_slots.specs.Blocks.{joined}
use Rattle.queue_slots.proofs.Parts.{part-more}
use Rattle.queue_slots.proofs.Positions.{joined-more}
use Rattle.queue_slots.proofs.many.copies_of.Goals as goal

pub loop-block-preserved : goal.loop-block-preserved
loop-block-preserved c =
    let bs = c.args.blocks.now in
    let start = c.args.start in
    let count = c.args.count in
    let i = c.loop-block.block-index in
    let b = c.block-item.result in
    let done : List Slot = joined (take i bs) in
    let read = get_or_read bs i b (omega arith) c.block-item.is [] in
    let more : joined (take (i + 1) bs) ≡ done ++ b = joined-more bs i (omega arith) ∙ ap (λ x. done ++ x) (sym read) in
    let long = ap (λ x. length x) more ∙ length-append done b in
    let copied = ap (λ x. length x) c.loop-block.invariant.copied in
    record {
      before = omega arith;
      copied = c.in_ok-append.ensures.items ∙ (λ t. c.loop-block.invariant.copied t ++ c.in_ok-part.ensures t)
          ∙ sym (part-more done b start count c.loop-block.before (count - c.len.result) c.loop-block.invariant.before (omega arith)) ∙ ap (λ x. take count (drop start x)) (sym more);
    }
