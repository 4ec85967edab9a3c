use Rattle.std.proofs.Common.{◌++◌, List, map, take, drop, length, ap, ◌∙◌, arith}
use Rattle.std.proofs.lemmas.List.{length-map}
use Rattle.queue_slots.specs.declared.entry.Slot.{Slot}
use Rattle.queue_slots.specs.Slots.{kept, written, entries_of}
use Rattle.queue_slots.specs.Blocks.{joined}
use Rattle.queue_slots.proofs.Joined.{few_blocks}
use Rattle.queue_slots.proofs.Left.{put_in-is, length-put_in}
use Rattle.queue_slots.proofs.blocks.Blocks.put_in.Goals as goal

pub part-i-requires-clause-some : goal.part-i-requires-clause-some
part-i-requires-clause-some c =
    let few = few_blocks c.self.inside.blocks.items c.self.invariant.paired in
    let view = ap (λ x. length x) c.self.view_is in
    let enough = c.in_ok-make_room.ensures.enough in
    let one = c.in_ok-reserve.ensures.len in
    let two = c.in_ok-reserve-2.ensures.len in
    omega arith

-- the blocks after the edit
pub returns-clause-ok : goal.returns-clause-ok
returns-clause-ok c =
    let v = c.args.version in
    let w = c.args.wraps in
    let at = c.args.at in
    let es = entries_of c.args.added.items in
    let same = ap (λ x. joined x) (c.in_ok-reserve.ensures.items ∙ c.in_ok-make_room.ensures.blocks) ∙ c.self.view_is in
    c.mend.ensures.same ∙ put_in-is v w _ c.part-i.new.blocks.items c.in_ok-added.added.items c.splice.new.blocks.items c.restamp.new.blocks.items at _ _ _ es c.part-i.ensures.parted (ap (λ x. entries_of x) c.in_ok-added.ensures) c.splice.ensures.blocks c.restamp.ensures.blocks
    ∙ ap (λ (x : List Slot). map (kept w) (take at x) ++ map (written v w) (es ++ drop at (entries_of x))) same

pub invariant_of-self-2 : goal.invariant_of-self-2
invariant_of-self-2 c =
    let v = c.args.version in
    let w = c.args.wraps in
    let at = c.args.at in
    let es = entries_of c.args.added.items in
    let view = ap (λ x. length x) c.self.view_is in
    let is = ap (λ x. length x) (returns-clause-ok c) in
    let n = length-put_in v w c.args.self.now at es (omega arith) in
    let m = length-map c.args.added.items (λ (s : Slot). s.entry) in
    let enough = c.in_ok-make_room.ensures.enough in
    let one = c.in_ok-reserve.ensures in
    let two = c.in_ok-reserve-2.ensures in
    record {
      len = omega arith;
      paired = c.mend.ensures.paired;
      enough = λ some. omega arith;
      room = omega arith;
      spare_room = omega arith;
    }
