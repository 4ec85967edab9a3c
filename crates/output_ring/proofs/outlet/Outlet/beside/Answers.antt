use Rattle.std.proofs.Common.{◌≡◌, ◌+◌, ◌∙◌, length, drop, replicate}
use Rattle.rtrb.specs.Ring.{sent, received, known_items}
use Rattle.output_ring.specs.Runs.{cuts_of}
use Rattle.output_ring.proofs.Pairs.{all-joined, all-known}
use Rattle.output_ring.proofs.outlet.Outlet.beside.Goals as goal

pub returns-clause-all : goal.returns-clause-all
returns-clause-all c =
    let old = c.args.self.now in
    let runs = c.slots_beside.ensures.looked.1 in
    let frames = c.slots_beside-2.ensures.looked.1 in
    let begun : length (cuts_of (received c.slots_beside.new.self)) ≡ length (received c.slots_beside-2.new.self) + old.rest = cc (runs, frames, old.begun) in
    let rest : drop (length (received c.slots_beside-2.new.self)) (cuts_of (received c.slots_beside.new.self)) ≡ replicate old.rest old.cut = cc (runs, frames, old.rest_is) in
    all-joined (received c.slots_beside.new.self) (known_items c.slots_beside.new.self) _ _ _ _ old.rest old.cut begun rest c.slots_beside.ensures.fifo c.slots_beside-2.ensures.fifo

pub returns-clause-length : goal.returns-clause-length
returns-clause-length c =
    let old = c.args.self.now in
    let runs = c.slots_beside.ensures.looked.1 in
    let frames = c.slots_beside-2.ensures.looked.1 in
    let begun : length (cuts_of (received c.slots_beside.new.self)) ≡ length (received c.slots_beside-2.new.self) + old.rest = cc (runs, frames, old.begun) in
    let sent_runs = c.slots_beside.ensures.producer.1 in
    let sent_frames = c.slots_beside-2.ensures.producer.1 in
    let whole : length (cuts_of (sent c.slots_beside.new.producer)) ≡ length (sent c.slots_beside-2.new.producer) = cc (sent_runs, sent_frames, c.args.inlet.now.whole) in
    c.slots_beside-2.ensures.value ∙ all-known (received c.slots_beside.new.self) (known_items c.slots_beside.new.self) _ _ _ _ old.rest old.cut begun c.slots_beside.ensures.fifo c.slots_beside-2.ensures.fifo whole
