use Rattle.std.proofs.Common.{◌∙◌, ap, sym, arith}
use Rattle.song_queue.specs.declared.entry.Slot.{Slot}
use Rattle.play_order.specs.Draws.{is_among}
use Rattle.play_order.proofs.Scanning.{any-at}
use Rattle.play_order.proofs.scan.any_of_run.Goals as goal

pub returns-then-not-has : goal.returns-then-not-has
returns-then-not-has c =
    sym
    (any-at c.args.played.now c.args.run.now c.loop-slot.slot-index c.slot-item.result (omega arith)
    (ap (λ (s : Slot). is_among s.entry.id c.args.played.now) (sym c.slot-item.is) ∙ sym c.if-not-has.ensures))
