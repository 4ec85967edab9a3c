use Rattle.std.proofs.Common.{◌≡◌, ◌+◌, ◌∙◌, length, drop, replicate, sym}
use Rattle.rtrb.specs.Ring.{received, known_items}
use Rattle.output_ring.specs.Runs.{cuts_of}
use Rattle.output_ring.proofs.Pairs.{all-joined, all-known}
use Rattle.output_ring.proofs.outlet.Outlet.after.Goals as goal

pub returns-clause-all : goal.returns-clause-all
returns-clause-all c =
    let old = c.args.self.now in
    let runs = c.slots_after.ensures.looked.1 in
    let frames = c.slots_after-2.ensures.looked.1 in
    let begun : length (cuts_of (received c.slots_after.new.self)) ≡ length (received c.slots_after-2.new.self) + old.rest = cc (runs, frames, old.begun) in
    let rest : drop (length (received c.slots_after-2.new.self)) (cuts_of (received c.slots_after.new.self)) ≡ replicate old.rest old.cut = cc (runs, frames, old.rest_is) in
    all-joined (received c.slots_after.new.self) (known_items c.slots_after.new.self) _ _ _ _ old.rest old.cut begun rest (c.slots_after.ensures.fifo ∙ sym c.slots_after.ensures.finished.1) (c.slots_after-2.ensures.fifo ∙ sym c.slots_after-2.ensures.finished.1)

pub returns-clause-length : goal.returns-clause-length
returns-clause-length c =
    let old = c.args.self.now in
    let runs = c.slots_after.ensures.looked.1 in
    let frames = c.slots_after-2.ensures.looked.1 in
    let begun : length (cuts_of (received c.slots_after.new.self)) ≡ length (received c.slots_after-2.new.self) + old.rest = cc (runs, frames, old.begun) in
    c.slots_after-2.ensures.value ∙ all-known (received c.slots_after.new.self) (known_items c.slots_after.new.self) _ _ _ _ old.rest old.cut begun c.slots_after.ensures.fifo c.slots_after-2.ensures.fifo c.args.end.now.whole
