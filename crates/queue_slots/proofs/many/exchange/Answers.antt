use Rattle.std.proofs.Common.{◌+◌, ◌-◌, ◌<◌, ◌≤◌, List, [], length, drop, get_or, ap, sym, subst, ◌∙◌, arith}
use Rattle.queue_slots.specs.declared.entry.Slot.{Slot}
use Rattle.queue_slots.specs.Blocks.{joined, IsSpot, with_slot_changed, with_slot_put}
use Rattle.queue_slots.proofs.Exchanges.{rest_fits, second_inside, first_still, third_inside, exchanged}
use Rattle.queue_slots.proofs.many.exchange.Goals as goal

pub seek-j-requires-clause-position : goal.seek-j-requires-clause-position
seek-j-requires-clause-position c =
    let bs = c.args.blocks.now.items in
    let low = c.args.low in
    let high = c.args.high in
    let i = c.seek-i.result.0 in
    let a = c.seek-i.result.1 in
    let one = subst (λ (x : List (List Slot)). IsSpot x 0 low i a) c.deref.ensures.value c.seek-i.ensures in
    let fits = rest_fits bs low high i a c.requires.order c.requires.within one in
    subst (λ (x : List (List Slot)). a + (high - low) ≤ length (joined (drop i x))) (sym c.deref-2.ensures.value) (omega arith)

pub pull-second-requires-clause-within : goal.pull-second-requires-clause-within
pull-second-requires-clause-within c =
    let bs = c.args.blocks.now.items in
    let low = c.args.low in
    let high = c.args.high in
    let i = c.seek-i.result.0 in
    let a = c.seek-i.result.1 in
    let one = subst (λ (x : List (List Slot)). IsSpot x 0 low i a) c.deref.ensures.value c.seek-i.ensures in
    let two = subst (λ (x : List (List Slot)). IsSpot x i (a + (high - low)) c.seek-j.result.0 c.seek-j.result.1) c.deref-2.ensures.value c.seek-j.ensures in
    let inside = (second_inside bs low high i a c.seek-j.result.0 c.seek-j.result.1 c.requires.order c.requires.within one two).0 in
    omega arith

pub pull-second-requires-clause-inside : goal.pull-second-requires-clause-inside
pull-second-requires-clause-inside c =
    let bs = c.args.blocks.now.items in
    let low = c.args.low in
    let high = c.args.high in
    let i = c.seek-i.result.0 in
    let a = c.seek-i.result.1 in
    let one = subst (λ (x : List (List Slot)). IsSpot x 0 low i a) c.deref.ensures.value c.seek-i.ensures in
    let two = subst (λ (x : List (List Slot)). IsSpot x i (a + (high - low)) c.seek-j.result.0 c.seek-j.result.1) c.deref-2.ensures.value c.seek-j.ensures in
    (second_inside bs low high i a c.seek-j.result.0 c.seek-j.result.1 c.requires.order c.requires.within one two).1

pub change-first-requires-clause-inside : goal.change-first-requires-clause-inside
change-first-requires-clause-inside c =
    let bs = c.args.blocks.now.items in
    let low = c.args.low in
    let high = c.args.high in
    let i = c.seek-i.result.0 in
    let a = c.seek-i.result.1 in
    let j = c.seek-j.result.0 in
    let b = c.seek-j.result.1 in
    let one = subst (λ (x : List (List Slot)). IsSpot x 0 low i a) c.deref.ensures.value c.seek-i.ensures in
    let two = subst (λ (x : List (List Slot)). IsSpot x i (a + (high - low)) j b) c.deref-2.ensures.value c.seek-j.ensures in
    subst (λ (x : List (List Slot)). a < length (get_or x i [])) (sym c.pull-second.ensures.blocks) (first_still bs low high i a j b c.requires.order c.requires.within one two).1

pub put-requires-clause-within : goal.put-requires-clause-within
put-requires-clause-within c =
    let bs = c.args.blocks.now.items in
    let low = c.args.low in
    let high = c.args.high in
    let i = c.seek-i.result.0 in
    let a = c.seek-i.result.1 in
    let one = subst (λ (x : List (List Slot)). IsSpot x 0 low i a) c.deref.ensures.value c.seek-i.ensures in
    let two = subst (λ (x : List (List Slot)). IsSpot x i (a + (high - low)) c.seek-j.result.0 c.seek-j.result.1) c.deref-2.ensures.value c.seek-j.ensures in
    let inside = (second_inside bs low high i a c.seek-j.result.0 c.seek-j.result.1 c.requires.order c.requires.within one two).0 in
    omega arith

pub put-requires-clause-inside : goal.put-requires-clause-inside
put-requires-clause-inside c =
    let bs = c.args.blocks.now.items in
    let low = c.args.low in
    let high = c.args.high in
    let i = c.seek-i.result.0 in
    let a = c.seek-i.result.1 in
    let j = c.seek-j.result.0 in
    let b = c.seek-j.result.1 in
    let one = subst (λ (x : List (List Slot)). IsSpot x 0 low i a) c.deref.ensures.value c.seek-i.ensures in
    let two = subst (λ (x : List (List Slot)). IsSpot x i (a + (high - low)) j b) c.deref-2.ensures.value c.seek-j.ensures in
    let is = c.change-first.ensures.blocks ∙ ap (λ (x : List (List Slot)). with_slot_changed x i a c.written_slot.result) c.pull-second.ensures.blocks in
    subst (λ (x : List (List Slot)). b ≤ length (get_or x j [])) (sym is) (third_inside bs low high i a j b c.requires.order c.requires.within one two c.written_slot.result).0

pub put-requires-clause-fits : goal.put-requires-clause-fits
put-requires-clause-fits c =
    let bs = c.args.blocks.now.items in
    let low = c.args.low in
    let high = c.args.high in
    let i = c.seek-i.result.0 in
    let a = c.seek-i.result.1 in
    let j = c.seek-j.result.0 in
    let b = c.seek-j.result.1 in
    let one = subst (λ (x : List (List Slot)). IsSpot x 0 low i a) c.deref.ensures.value c.seek-i.ensures in
    let two = subst (λ (x : List (List Slot)). IsSpot x i (a + (high - low)) j b) c.deref-2.ensures.value c.seek-j.ensures in
    let is = c.change-first.ensures.blocks ∙ ap (λ (x : List (List Slot)). with_slot_changed x i a c.written_slot.result) c.pull-second.ensures.blocks in
    let size = ap (λ (x : List (List Slot)). length (get_or x j [])) is ∙ (third_inside bs low high i a j b c.requires.order c.requires.within one two c.written_slot.result).1 ∙ ap (λ (x : List (List Slot)). length (get_or x j [])) (sym c.pull-second.ensures.blocks) in
    let few = c.pull-second.ensures.fits in
    omega arith

pub returns-clause-blocks : goal.returns-clause-blocks
returns-clause-blocks c =
    let bs = c.args.blocks.now.items in
    let low = c.args.low in
    let high = c.args.high in
    let i = c.seek-i.result.0 in
    let a = c.seek-i.result.1 in
    let j = c.seek-j.result.0 in
    let b = c.seek-j.result.1 in
    let one = subst (λ (x : List (List Slot)). IsSpot x 0 low i a) c.deref.ensures.value c.seek-i.ensures in
    let two = subst (λ (x : List (List Slot)). IsSpot x i (a + (high - low)) j b) c.deref-2.ensures.value c.seek-j.ensures in
    let pulls = c.pull-second.ensures.blocks in
    let changes = c.change-first.ensures.blocks ∙ (λ t. with_slot_changed (pulls t) i a (c.written_slot.ensures t)) in
    ap (λ x. joined x) (c.put.ensures.blocks ∙ (λ t. with_slot_put (changes t) j b (c.written_slot-2.ensures t)))
    ∙ exchanged bs low high i a j b c.requires.order c.requires.within one two c.args.version c.args.wraps c.change-first.result c.pull-second.result c.pull-second.ensures.slot
    (λ d. c.change-first.ensures.slot d ∙ ap (λ (x : List (List Slot)). get_or (get_or x i []) a d) pulls)
