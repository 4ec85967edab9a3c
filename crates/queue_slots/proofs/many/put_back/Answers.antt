use Rattle.std.proofs.Common.{◌+◌, ◌≤◌, ◌++◌, List, [], ◌∷◌, length, take, drop, ap, sym, subst, ◌∙◌, append_assoc, length-append, arith}
use Rattle.std.specs.Vec.Iter.{into_iter_items}
use Rattle.queue_slots.specs.declared.entry.Slot.{Slot}
use Rattle.queue_slots.specs.Blocks.{joined, IsSpot}
use Rattle.queue_slots.proofs.Parts.{next_within, next_inside, next_put, next_spot}
use Rattle.queue_slots.proofs.many.put_back.Goals as goal

pub seek-next-requires-clause-position : goal.seek-next-requires-clause-position
seek-next-requires-clause-position c =
    let S : List Slot = joined c.args.blocks.now.items in
    let bs = c.loop-slot.blocks.items in
    let xs = c.loop-slot.yielded in
    let start = c.args.start in
    let at = c.loop-slot.at in
    let offset = c.loop-slot.offset in
    let inv = c.loop-slot.invariant in
    let whole = ap (λ x. xs ++ x) (sym c.in-Some.ensures.steps.0) ∙ inv.part in
    let n = ap (λ x. length x) whole in
    let long = length-append xs (c.in-Some.slot ∷ into_iter_items c.next.new.self) in
    let fits = next_within S bs start at offset xs inv.put (omega arith) inv.spot (omega arith) in
    subst (λ (x : List (List Slot)). offset ≤ length (joined (drop at x))) (sym c.deref.ensures.value) (omega arith)

pub index-requires : goal.index-requires
index-requires c =
    let S : List Slot = joined c.args.blocks.now.items in
    let bs = c.loop-slot.blocks.items in
    let xs = c.loop-slot.yielded in
    let start = c.args.start in
    let at = c.loop-slot.at in
    let offset = c.loop-slot.offset in
    let inv = c.loop-slot.invariant in
    let whole = ap (λ x. xs ++ x) (sym c.in-Some.ensures.steps.0) ∙ inv.part in
    let n = ap (λ x. length x) whole in
    let long = length-append xs (c.in-Some.slot ∷ into_iter_items c.next.new.self) in
    let next = c.seek-next.result.0 in
    let inside = c.seek-next.result.1 in
    let found = subst (λ (x : List (List Slot)). IsSpot x at offset next inside) c.deref.ensures.value c.seek-next.ensures in
    let in_block = (next_inside S bs start at offset xs inv.put (omega arith) inv.spot (omega arith) next inside found).0 in
    omega arith

pub change-requires-clause-within : goal.change-requires-clause-within
change-requires-clause-within c =
    let S : List Slot = joined c.args.blocks.now.items in
    let bs = c.loop-slot.blocks.items in
    let xs = c.loop-slot.yielded in
    let start = c.args.start in
    let at = c.loop-slot.at in
    let offset = c.loop-slot.offset in
    let inv = c.loop-slot.invariant in
    let whole = ap (λ x. xs ++ x) (sym c.in-Some.ensures.steps.0) ∙ inv.part in
    let n = ap (λ x. length x) whole in
    let long = length-append xs (c.in-Some.slot ∷ into_iter_items c.next.new.self) in
    let next = c.seek-next.result.0 in
    let inside = c.seek-next.result.1 in
    let found = subst (λ (x : List (List Slot)). IsSpot x at offset next inside) c.deref.ensures.value c.seek-next.ensures in
    let in_block = (next_inside S bs start at offset xs inv.put (omega arith) inv.spot (omega arith) next inside found).0 in
    omega arith

pub change-requires-clause-inside : goal.change-requires-clause-inside
change-requires-clause-inside c =
    let S : List Slot = joined c.args.blocks.now.items in
    let bs = c.loop-slot.blocks.items in
    let xs = c.loop-slot.yielded in
    let start = c.args.start in
    let at = c.loop-slot.at in
    let offset = c.loop-slot.offset in
    let inv = c.loop-slot.invariant in
    let whole = ap (λ x. xs ++ x) (sym c.in-Some.ensures.steps.0) ∙ inv.part in
    let n = ap (λ x. length x) whole in
    let long = length-append xs (c.in-Some.slot ∷ into_iter_items c.next.new.self) in
    let next = c.seek-next.result.0 in
    let inside = c.seek-next.result.1 in
    let found = subst (λ (x : List (List Slot)). IsSpot x at offset next inside) c.deref.ensures.value c.seek-next.ensures in
    (next_inside S bs start at offset xs inv.put (omega arith) inv.spot (omega arith) next inside found).1

pub loop-slot-preserved : goal.loop-slot-preserved
loop-slot-preserved c =
    let S : List Slot = joined c.args.blocks.now.items in
    let bs = c.loop-slot.blocks.items in
    let xs = c.loop-slot.yielded in
    let start = c.args.start in
    let at = c.loop-slot.at in
    let offset = c.loop-slot.offset in
    let inv = c.loop-slot.invariant in
    let whole = ap (λ x. xs ++ x) (sym c.in-Some.ensures.steps.0) ∙ inv.part in
    let n = ap (λ x. length x) whole in
    let long = length-append xs (c.in-Some.slot ∷ into_iter_items c.next.new.self) in
    let next = c.seek-next.result.0 in
    let inside = c.seek-next.result.1 in
    let found = subst (λ (x : List (List Slot)). IsSpot x at offset next inside) c.deref.ensures.value c.seek-next.ensures in
    let slot = c.in-Some.slot in
    record {
      can_next = tt;
      is_finite = tt;
      part = append_assoc xs (slot ∷ []) (into_iter_items c.next.new.self) ∙ whole;
      put = ap (λ x. joined x) c.change.ensures.blocks ∙ next_put S bs start at offset xs inv.put (omega arith) inv.spot (omega arith) next inside found slot;
      spot = ap (λ (x : List (List Slot)). length (joined (take next x)) + (inside + 1)) c.change.ensures.blocks ∙ next_spot S bs start at offset xs inv.put (omega arith) inv.spot (omega arith) next inside found slot;
      within = let l = (next_inside S bs start at offset xs inv.put (omega arith) inv.spot (omega arith) next inside found).0 in omega arith;
      len = omega arith;
      room = omega arith;
    }
