use Rattle.std.proofs.Common.{◌≡◌, ◌≢◌, ◌+◌, ◌++◌, ℕ, [], List, length, take, get_or, ap, sym, subst, ◌∙◌, length-append, arith}
use Rattle.std.specs.Prelude.{All}
use Rattle.std.proofs.lemmas.List.{get_or_read}
use Rattle.std.proofs.lemmas.List.Elements.{All-append}
use Rattle.queue_slots.specs.declared.entry.Slot.{Slot}
use Rattle.queue_slots.specs.Blocks.{joined}
use Rattle.queue_slots.proofs.Positions.{get_or-joined, joined-more, joined-within}
use Rattle.queue_slots.proofs.many.seek_id.Goals as goal

pub overflow_add-result : goal.overflow_add-result
overflow_add-result c =
    let bs = c.args.blocks.now in
    let i = c.loop-block.block-index in
    let read = get_or_read bs i c.block-item.result (omega arith) c.block-item.is [] in
    let long = ap (λ x. length x) read in
    let within = joined-within bs i (omega arith) in
    let inside = c.in-Some.ensures.found.0 in
    record { fits = omega arith }

pub returns-in-Some-clause-found : goal.returns-in-Some-clause-found
returns-in-Some-clause-found c =
    let bs = c.args.blocks.now in
    let i = c.loop-block.block-index in
    let read = get_or_read bs i c.block-item.result (omega arith) c.block-item.is [] in
    let long = ap (λ x. length x) read in
    let within = joined-within bs i (omega arith) in
    let inside = c.in-Some.ensures.found.0 in
    let at = c.loop-block.invariant.at in (
      omega arith,
      λ d. ap (λ (n : ℕ). (get_or (joined bs) (n + c.in-Some.position) d).entry.id) at ∙ ap (λ (s : Slot). s.entry.id) (get_or-joined bs i c.in-Some.position d (omega arith) (omega arith)) ∙ ap (λ x. (get_or x c.in-Some.position d).entry.id) (sym read)
          ∙ c.in-Some.ensures.found.1 d,
    )

pub overflow_add-at : goal.overflow_add-at
overflow_add-at c =
    let bs = c.args.blocks.now in
    let i = c.loop-block.block-index in
    let read = get_or_read bs i c.block-item.result (omega arith) c.block-item.is [] in
    let long = ap (λ x. length x) read in
    let within = joined-within bs i (omega arith) in
    record { fits = omega arith }

pub loop-block-preserved : goal.loop-block-preserved
loop-block-preserved c =
    let bs = c.args.blocks.now in
    let i = c.loop-block.block-index in
    let read = get_or_read bs i c.block-item.result (omega arith) c.block-item.is [] in
    let more : joined (take (i + 1) bs) ≡ joined (take i bs) ++ c.block-item.result = joined-more bs i (omega arith) ∙ ap (λ x. joined (take i bs) ++ x) (sym read) in
    let long = ap (λ x. length x) more ∙ length-append (joined (take i bs)) c.block-item.result in
    record {
      at = omega arith;
      none = λ e. subst (λ (x : List Slot). All (λ (s : Slot). s.entry.id ≢ c.args.id) x) (sym more) (All-append (λ (s : Slot). s.entry.id ≢ c.args.id) (joined (take i bs)) c.block-item.result (c.loop-block.invariant.none e) (c.in_default.ensures.none e));
    }
