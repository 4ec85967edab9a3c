use Rattle.std.proofs.Common.{take, get_or, set, ap, sym, ◌∙◌, arith}
use Rattle.std.proofs.Math.Numerals.{add-one}
use Rattle.song_queue.specs.State.{stamped_slot, stamped_by}
use Rattle.song_queue.proofs.Shuffles.{stamped_by-more}
use Rattle.song_queue.proofs.slots.stamp_others.Goals as goal

pub loop-position-preserved : goal.loop-position-preserved
loop-position-preserved c =
    let v = c.args.version in
    let w = c.args.wraps in
    let ids = c.args.ids.now in
    let at = c.loop-position.position in
    let slot = c.index-slots-position.result in
    ap (set c.loop-position.slots at) c.stamp_other.ensures ∙ (λ i. set (c.loop-position.invariant i) at (stamped_slot v w (get_or ids at 0) (get_or (c.loop-position.invariant i) at slot)))
    ∙ stamped_by-more v w ids c.args.slots.now at slot (omega arith) (omega arith) ∙ ap (λ n. stamped_by v w (take n ids) c.args.slots.now) (sym (add-one at))
