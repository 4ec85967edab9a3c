use Rattle.std.proofs.Common.{◌++◌, [], ◌∷◌, List, ap, sym, ◌∙◌, append_assoc}
use Rattle.std.specs.Vec.Iter.{into_iter_items}
use Rattle.queue_slots.specs.declared.entry.Slot.{Slot}
use Rattle.queue_slots.specs.Blocks.{joined}
use Rattle.queue_slots.proofs.made.build.Goals as goal

pub loop-slot-preserved : goal.loop-slot-preserved
loop-slot-preserved c =
    let done = c.loop-slot.yielded in
    let slot = c.in-Some.slot in
    let front : List Slot = joined c.make_space.new.added.items in (
      tt,
      tt,
      ap (λ x. front ++ x) c.push.ensures ∙ sym (append_assoc front c.make_space.new.last (slot ∷ [])) ∙ ap (λ x. x ++ slot ∷ []) (c.in_ok-make_space.ensures.same ∙ c.loop-slot.invariant.2),
      append_assoc done (slot ∷ []) (into_iter_items c.next.new.self) ∙ ap (λ x. done ++ x) (sym c.in-Some.ensures.steps.0) ∙ c.loop-slot.invariant.3,
    )
