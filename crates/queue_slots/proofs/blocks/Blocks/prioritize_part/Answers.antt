use Rattle.std.proofs.Common.{◌++◌, List, map, take, drop, length, ap, ◌∙◌, arith}
use Rattle.std.specs.List.{slice_range}
use Rattle.queue_slots.specs.declared.entry.Slot.{Slot}
use Rattle.queue_slots.specs.Slots.{prioritized_slot}
use Rattle.queue_slots.specs.Blocks.{joined}
use Rattle.queue_slots.proofs.Joined.{few_blocks}
use Rattle.queue_slots.proofs.Left.{part-is, length-part}
use Rattle.queue_slots.proofs.blocks.Blocks.prioritize_part.Goals as goal

pub part-i-requires-clause-some : goal.part-i-requires-clause-some
part-i-requires-clause-some c =
    let few = few_blocks c.self.inside.blocks.items c.self.invariant.paired in
    let view = ap (λ x. length x) c.self.view_is in
    let some = c.self.invariant.enough (omega arith) in
    omega arith

pub returns : goal.returns
returns c =
    let f : Slot → Slot = prioritized_slot c.args.version c.args.wraps c.args.priority in
    let start = c.args.start in
    let end = c.args.end in
    let S : List Slot = joined c.self.inside.blocks.items in
    c.mend.ensures.same ∙ part-is f S c.part-i.new.blocks.items c.prioritize_blocks.new.blocks.items start end _ _ _ c.part-i.ensures.parted c.prioritize_blocks.ensures.blocks
    ∙ ap (λ (x : List Slot). take start x ++ (map f (slice_range x start end) ++ drop end x)) c.self.view_is

pub invariant_of-self : goal.invariant_of-self
invariant_of-self c =
    let f : Slot → Slot = prioritized_slot c.args.version c.args.wraps c.args.priority in
    let start = c.args.start in
    let end = c.args.end in
    let S : List Slot = joined c.self.inside.blocks.items in
    let view = ap (λ x. length x) c.self.view_is in
    let is = ap (λ x. length x) (c.mend.ensures.same ∙ part-is f S c.part-i.new.blocks.items c.prioritize_blocks.new.blocks.items start end _ _ _ c.part-i.ensures.parted c.prioritize_blocks.ensures.blocks) in
    let n = length-part f S start end (omega arith) (omega arith) in
    record {
      len = omega arith;
      paired = c.mend.ensures.paired;
      enough = λ some. let before = c.self.invariant.enough (omega arith) in omega arith;
      room = omega arith;
      spare_room = omega arith;
    }
