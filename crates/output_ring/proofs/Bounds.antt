-- How many frames there can be.
use Rattle.std.proofs.Common.{ℤ, ◌+◌, ◌<◌, ◌≤◌, ◌^◌, List, [], ◌∷◌, ◌++◌, length, replicate, drop, arith}
use Rattle.std.proofs.lemmas.List.{length-map, length-drop}
use Rattle.rtrb.specs.Ring.{known_items}
use Rattle.output_ring.specs.declared.drainer.Drainer.{Drainer}
use Rattle.output_ring.specs.declared.feeder.FeederEnd.{FeederEnd}
use Rattle.output_ring.specs.declared.frames.Cut.{Cut}
use Rattle.output_ring.specs.declared.frames.CutFrame.{CutFrame}
use Rattle.output_ring.specs.Rings.{end_owed, hand_of, ring_of}
use Rattle.output_ring.specs.Runs.{cuts_of, paired}

length-paired-le : (cs : List Cut) (fs : List (List ℤ)) → length (paired cs fs) ≤ length fs
length-paired-le [] fs = omega arith
length-paired-le (c ∷ cs) [] = omega arith
length-paired-le (c ∷ cs) (f ∷ fs) = let rest = length-paired-le cs fs in omega (arith, rest)

-- the frames without a fate can be counted
pub left_fits : (d : Drainer) (e : FeederEnd) → (length (hand_of d) + length (ring_of d)) + length (end_owed e) < 2 ^ 64
left_fits d e =
    let ring = length-paired-le (replicate d.outlet.rest d.outlet.cut ++ cuts_of (known_items d.outlet.runs)) (known_items d.outlet.frames) in
    let counts = d.outlet.frames.counts in
    let reads = d.outlet.frames.reads.3 in
    let block = e.within.1 in
    let slots = d.room in
    let room = d.outgoing.bytes.small in
    let full = d.outgoing.bytes.ok in
    let owed : length (end_owed e) ≤ length e.block.items = omega (arith, length-map {B = CutFrame} (drop e.sent e.block.items) (λ frame. record { frame = frame; cut = e.cut }), length-drop e.sent e.block.items) in
    omega (arith, ring, counts, reads, block, slots, room, full, owed, d.hand_long, d.within, e.block.ok)
