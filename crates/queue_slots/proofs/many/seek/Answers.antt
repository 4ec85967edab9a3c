use Rattle.std.proofs.Common.{◌≡◌, [], length, get_or, ap, arith}
use Rattle.std.proofs.lemmas.List.{get_or_read}
use Rattle.queue_slots.proofs.Joined.{spot-more}
use Rattle.queue_slots.proofs.many.seek.Goals as goal

pub loop-at-preserved : goal.loop-at-preserved
loop-at-preserved c =
    let bs = c.args.blocks.now in
    let at = c.loop-at.at in
    let read : c.index-blocks-at.result ≡ get_or bs at [] = get_or_read bs at c.index-blocks-at.result (omega arith) c.index-blocks-at.is [] in
    let long = ap (λ x. length x) read in
    let more = spot-more bs c.args.from at c.loop-at.invariant.low (omega arith) in
    record { low = omega arith; high = omega arith; sum = omega arith }
