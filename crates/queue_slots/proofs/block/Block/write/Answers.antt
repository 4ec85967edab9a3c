use Rattle.std.proofs.Common.{ap, sym, ◌∙◌, map}
use Rattle.queue_slots.specs.Slots.{written, entries_of}
use Rattle.queue_slots.proofs.Shown.{IsWithin-written, entries_of-shown_as}
use Rattle.queue_slots.proofs.block.Block.write.Goals as goal

pub invariant_of-self : goal.invariant_of-self
invariant_of-self c = record { room = c.self.invariant.room; len = c.self.invariant.len; within = IsWithin-written c.args.version c.args.wraps _ }

pub returns : goal.returns
returns c =
    let b = c.self.inside in
    ap (map (written c.args.version c.args.wraps)) (sym (entries_of-shown_as b.alike b.top b.marked b.slots.items) ∙ ap (λ x. entries_of x) c.self.view_is)
