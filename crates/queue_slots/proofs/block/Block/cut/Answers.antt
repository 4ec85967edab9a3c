use Rattle.std.proofs.Common.{List, take, drop, ap, sym, subst, ◌∙◌, length, arith}
use Rattle.std.proofs.lemmas.List.{length-take, length-drop}
use Rattle.queue_slots.specs.declared.entry.Slot.{Slot}
use Rattle.queue_slots.specs.Blocks.{shown_as, IsWithin}
use Rattle.queue_slots.proofs.Shown.{take-shown_as, drop-shown_as, IsWithin-take, IsWithin-drop}
use Rattle.queue_slots.proofs.block.Block.cut.Goals as goal

pub returns-clause-front : goal.returns-clause-front
returns-clause-front c =
    let b = c.self.inside in
    ap (shown_as b.alike b.top b.marked) c.move_tail.ensures.front ∙ sym (take-shown_as b.alike b.top b.marked c.args.at b.slots.items) ∙ ap (take c.args.at) c.self.view_is

pub returns-clause-back : goal.returns-clause-back
returns-clause-back c =
    let b = c.self.inside in
    ap (shown_as b.alike b.top b.marked) c.move_tail.ensures.back ∙ sym (drop-shown_as b.alike b.top b.marked c.args.at b.slots.items) ∙ ap (drop c.args.at) c.self.view_is

pub invariant_of-self : goal.invariant_of-self
invariant_of-self c =
    let b = c.self.inside in
    let is = ap (shown_as b.alike b.top b.marked) c.move_tail.ensures.front ∙ sym (take-shown_as b.alike b.top b.marked c.args.at b.slots.items) in
    record {
      room = omega arith;
      len = omega (arith, c.self.invariant.len, length-take c.args.at b.slots.items, ap length c.move_tail.ensures.front);
      within = subst (λ (x : List Slot). IsWithin b.top b.marked x) (sym is) (IsWithin-take b.top b.marked c.args.at _ c.self.invariant.within);
    }

pub invariant_of-result : goal.invariant_of-result
invariant_of-result c =
    let b = c.self.inside in
    let is = ap (shown_as b.alike b.top b.marked) c.move_tail.ensures.back ∙ sym (drop-shown_as b.alike b.top b.marked c.args.at b.slots.items) in
    record {
      room = omega arith;
      len = omega (arith, c.self.invariant.len, length-drop c.args.at b.slots.items, ap length c.move_tail.ensures.back);
      within = subst (λ (x : List Slot). IsWithin b.top b.marked x) (sym is) (IsWithin-drop b.top b.marked c.args.at _ c.self.invariant.within);
    }
