use Rattle.std.proofs.Common.{◌≡◌, true, List, map, ap, sym, subst, ◌∙◌, arith}
use Rattle.queue_slots.specs.declared.entry.Slot.{Slot}
use Rattle.queue_slots.specs.Slots.{kept}
use Rattle.queue_slots.specs.Blocks.{shown_as, IsWithin}
use Rattle.queue_slots.proofs.Shown.{map-kept_false}
use Rattle.queue_slots.proofs.Shown.{marked-shown_as, IsWithin-marked}
use Rattle.queue_slots.proofs.block.Block.keep.Goals as goal

pub invariant_of-self : goal.invariant_of-self
invariant_of-self c =
    let b = c.self.inside in
    let is : shown_as b.alike b.top true c.mark.new.slots.items ≡ map (kept true) (shown_as b.alike b.top b.marked b.slots.items) = ap (shown_as b.alike b.top true) c.mark.ensures.items ∙ marked-shown_as b.alike b.top b.marked b.slots.items in
    record { room = omega arith; len = omega arith; within = subst (λ (x : List Slot). IsWithin b.top true x) (sym is) (IsWithin-marked b.top b.marked (shown_as b.alike b.top b.marked b.slots.items) c.self.invariant.within) }

pub returns-then-wraps : goal.returns-then-wraps
returns-then-wraps c =
    let b = c.self.inside in
    ap (shown_as b.alike b.top true) c.mark.ensures.items ∙ marked-shown_as b.alike b.top b.marked b.slots.items ∙ ap (map (kept true)) c.self.view_is ∙ ap (λ w. map (kept w) c.args.self.now) (sym c.if-wraps.true)

pub returns-else-wraps : goal.returns-else-wraps
returns-else-wraps c = sym (map-kept_false c.args.self.now) ∙ ap (λ w. map (kept w) c.args.self.now) (sym c.if-wraps.false)
