use Rattle.std.proofs.Common.{◌≤◌, ℕ, List, [], ◌∷◌, length, map, take, get_or, ap, sym, ◌∙◌, arith}
use Rattle.std.specs.declared.ops.Range.{Range}
use Rattle.std.proofs.lemmas.List.{take_all, take_more, length-map}
use Rattle.queue_slots.specs.declared.entry.Slot.{Slot}
use Rattle.song_queue.specs.State.{kept, prioritized_slot}
use Rattle.song_queue.proofs.Priorities.{named, length-named, named-none, named-part, named-named, named-restamped, prioritized_slot-twice}
use Rattle.song_queue.proofs.slots.prioritize.Goals as goal

pub loop-range-init : goal.loop-range-init
loop-range-init c = c.keep.ensures ∙ sym (named-none (prioritized_slot c.args.version c.args.wraps c.args.priority) 0 (map (kept c.args.wraps) c.args.slots.now))

pub prioritize_part-requires-clause-within : goal.prioritize_part-requires-clause-within
prioritize_part-requires-clause-within c =
    let f : Slot → Slot = prioritized_slot c.args.version c.args.wraps c.args.priority in
    let i = c.loop-range.range-index in
    let none : Range ℕ = record { start = 0; end = 0 } in
    let first : List Slot = map (kept c.args.wraps) c.args.slots.now in
    let long = ap (λ x. length x) c.loop-range.invariant ∙ length-named f (take i c.args.ranges.now) 0 first ∙ length-map c.args.slots.now (kept c.args.wraps) in
    let high = (c.requires i none (omega arith)).1 in
    omega arith

pub loop-range-preserved : goal.loop-range-preserved
loop-range-preserved c =
    let f : Slot → Slot = prioritized_slot c.args.version c.args.wraps c.args.priority in
    let i = c.loop-range.range-index in
    let ranges = c.args.ranges.now in
    let none : Range ℕ = record { start = 0; end = 0 } in
    let r : Range ℕ = get_or ranges i none in
    let cur = c.loop-range.slots in
    let first : List Slot = map (kept c.args.wraps) c.args.slots.now in
    let fits = c.requires i none (omega arith) in
    let long = ap (λ x. length x) c.loop-range.invariant ∙ length-named f (take i ranges) 0 first ∙ length-map c.args.slots.now (kept c.args.wraps) in
    let ends : r.end ≤ length cur = let high = fits.1 in omega arith in
    c.prioritize_part.ensures ∙ named-part f r cur fits.0 ends ∙ ap (named f (r ∷ []) 0) c.loop-range.invariant
    ∙ named-named f (prioritized_slot-twice c.args.version c.args.wraps c.args.priority) (take i ranges) r 0 first ∙ ap (λ x. named f x 0 first) (sym (take_more ranges i none (omega arith)))

pub returns : goal.returns
returns c =
    let f : Slot → Slot = prioritized_slot c.args.version c.args.wraps c.args.priority in
    c.loop-range.invariant ∙ ap (λ x. named f x 0 (map (kept c.args.wraps) c.args.slots.now)) (take_all c.loop-range.range-index c.args.ranges.now (omega arith))
    ∙ named-restamped c.args.version c.args.wraps c.args.priority c.args.ranges.now 0 c.args.slots.now
