use Rattle.std.proofs.Common.{◌≡◌, ◌+◌, ◌++◌, ℕ, [], length, take, ap, sym, ◌∙◌, append_assoc, length-append, arith}
use Rattle.std.proofs.lemmas.List.{get_or_read}
use Rattle.queue_slots.specs.Blocks.{joined}
use Rattle.queue_slots.proofs.Changes.{positions, positions-append}
use Rattle.queue_slots.proofs.Positions.{joined-more, joined-within}
use Rattle.queue_slots.proofs.many.push_all_changed.Goals as goal

pub push_changed-requires : goal.push_changed-requires
push_changed-requires c =
    let bs = c.args.blocks.now in
    let i = c.loop-block.block-index in
    let read = get_or_read bs i c.block-item.result (omega arith) c.block-item.is [] in
    let long = ap (λ x. length x) read in
    let within = joined-within bs i (omega arith) in
    omega arith

pub overflow_add-at : goal.overflow_add-at
overflow_add-at c =
    let bs = c.args.blocks.now in
    let i = c.loop-block.block-index in
    let read = get_or_read bs i c.block-item.result (omega arith) c.block-item.is [] in
    let long = ap (λ x. length x) read in
    let within = joined-within bs i (omega arith) in
    record { fits = omega arith }

pub loop-block-preserved : goal.loop-block-preserved
loop-block-preserved c =
    let bs = c.args.blocks.now in
    let v = c.args.version in
    let p = c.args.present in
    let now = c.args.positions.now.items in
    let i = c.loop-block.block-index in
    let read = get_or_read bs i c.block-item.result (omega arith) c.block-item.is [] in
    let more : joined (take (i + 1) bs) ≡ joined (take i bs) ++ c.block-item.result = joined-more bs i (omega arith) ∙ ap (λ x. joined (take i bs) ++ x) (sym read) in
    let long = ap (λ x. length x) more ∙ length-append (joined (take i bs)) c.block-item.result in
    record {
      at = omega arith;
      shown = c.in_ok-push_changed.ensures ∙ ap (λ x. x ++ positions v p c.loop-block.at c.block-item.result) c.loop-block.invariant.shown ∙ append_assoc now (positions v p 0 (joined (take i bs))) (positions v p c.loop-block.at c.block-item.result)
          ∙ ap (λ x. now ++ x) (ap (λ (n : ℕ). positions v p 0 (joined (take i bs)) ++ positions v p n c.block-item.result) (let e : c.loop-block.at ≡ 0 + length (joined (take i bs)) = omega arith in e) ∙ sym (positions-append v p 0 (joined (take i bs)) c.block-item.result) ∙ ap (λ x. positions v p 0 x) (sym more));
    }
