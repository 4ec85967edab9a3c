use Rattle.std.proofs.Common.{List, map, length, ap, ◌∙◌, arith}
use Rattle.std.proofs.lemmas.List.{length-map}
use Rattle.queue_slots.specs.declared.entry.Slot.{Slot}
use Rattle.queue_slots.specs.Slots.{kept}
use Rattle.queue_slots.specs.Blocks.{joined, with_exchanged}
use Rattle.queue_slots.proofs.Exchanges.{length-exchanged}
use Rattle.queue_slots.proofs.blocks.Blocks.exchange.Goals as goal

pub invariant_of-self : goal.invariant_of-self
invariant_of-self c =
    let v = c.args.version in
    let w = c.args.wraps in
    let low = c.args.low in
    let high = c.args.high in
    let S : List Slot = joined c.self.inside.blocks.items in
    let view = ap (λ x. length x) c.self.view_is in
    let is = ap (λ x. length x) (c.mend.ensures.same ∙ c.exchange.ensures.blocks ∙ ap (λ x. with_exchanged v w x low high) c.keep_blocks.ensures.blocks) in
    let n = length-exchanged v w (map (kept w) S) low high in
    let m = length-map S (kept w) in
    record {
      len = omega arith;
      paired = c.mend.ensures.paired;
      enough = λ some. let before = c.self.invariant.enough (omega arith) in omega arith;
      room = omega arith;
      spare_room = omega arith;
    }
