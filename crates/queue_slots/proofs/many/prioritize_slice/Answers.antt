use Rattle.std.proofs.Common.{◌≡◌, ◌+◌, ◌-◌, ◌++◌, List, map, take, drop, ap, ◌∙◌, arith}
use Rattle.std.proofs.lemmas.List.{drop-drop}
use Rattle.queue_slots.specs.declared.entry.Slot.{Slot}
use Rattle.queue_slots.specs.Slots.{prioritized_slot}
use Rattle.queue_slots.specs.Blocks.{joined}
use Rattle.queue_slots.proofs.Joined.{joined-append}
use Rattle.queue_slots.proofs.many.prioritize_slice.Goals as goal

pub returns-clause-blocks : goal.returns-clause-blocks
returns-clause-blocks c =
    let bs = c.args.blocks.now in
    let from = c.args.from in
    let to = c.args.to in
    let f : List Slot → List Slot = map (prioritized_slot c.args.version c.args.wraps c.args.priority) in
    let front = ap (λ x. joined x) c.split_at_mut-front.ensures.front in
    let rest = c.split_at_mut-front.ensures.back in
    let middle = c.prioritize_each.ensures.blocks ∙ ap (λ x. f (joined x)) (c.split_at_mut-span.ensures.front ∙ ap (take (to - from)) rest) in
    let last : from + (to - from) ≡ to = omega arith in
    let back = ap (λ x. joined x) (c.split_at_mut-span.ensures.back ∙ ap (drop (to - from)) rest ∙ drop-drop (to - from) from bs ∙ ap (λ n. drop n bs) last) in
    joined-append c.split_at_mut-front.result.0.now _ ∙ ap (λ x. joined c.split_at_mut-front.result.0.now ++ x) (joined-append c.prioritize_each.new.blocks c.split_at_mut-span.result.1.now) ∙ (λ t. front t ++ (middle t ++ back t))
