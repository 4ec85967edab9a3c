use Rattle.std.proofs.Common.{◌++◌, List, map, take, drop, length, ap, ◌∙◌, arith}
use Rattle.queue_slots.specs.declared.entry.Slot.{Slot}
use Rattle.queue_slots.specs.Slots.{kept, written, entries_of}
use Rattle.queue_slots.specs.Blocks.{joined}
use Rattle.queue_slots.proofs.Joined.{few_blocks}
use Rattle.queue_slots.proofs.Left.{take_out-is, length-take_out}
use Rattle.queue_slots.proofs.blocks.Blocks.take_out.Goals as goal

pub part-i-requires-clause-some : goal.part-i-requires-clause-some
part-i-requires-clause-some c =
    let few = few_blocks c.self.inside.blocks.items c.self.invariant.paired in
    let view = ap (λ x. length x) c.self.view_is in
    let some = c.self.invariant.enough (omega arith) in
    omega arith

pub returns : goal.returns
returns c =
    let v = c.args.version in
    let w = c.args.wraps in
    let start = c.args.start in
    let end = c.args.end in
    let S : List Slot = joined c.self.inside.blocks.items in
    c.mend.ensures.same ∙ take_out-is v w S c.part-i.new.blocks.items c.drop_blocks.new.blocks.items c.restamp.new.blocks.items start end _ _ _ c.part-i.ensures.parted c.drop_blocks.ensures.blocks c.restamp.ensures.blocks
    ∙ ap (λ (x : List Slot). map (kept w) (take start x) ++ map (written v w) (drop end (entries_of x))) c.self.view_is

pub invariant_of-self : goal.invariant_of-self
invariant_of-self c =
    let v = c.args.version in
    let w = c.args.wraps in
    let start = c.args.start in
    let end = c.args.end in
    let S : List Slot = joined c.self.inside.blocks.items in
    let view = ap (λ x. length x) c.self.view_is in
    let is = ap (λ x. length x) (c.mend.ensures.same ∙ take_out-is v w S c.part-i.new.blocks.items c.drop_blocks.new.blocks.items c.restamp.new.blocks.items start end _ _ _ c.part-i.ensures.parted c.drop_blocks.ensures.blocks c.restamp.ensures.blocks) in
    let n = length-take_out v w S start end (omega arith) (omega arith) in
    record {
      len = omega arith;
      paired = c.mend.ensures.paired;
      enough = λ some. let before = c.self.invariant.enough (omega arith) in omega arith;
      room = omega arith;
      spare_room = omega arith;
    }
