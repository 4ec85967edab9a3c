use Rattle.std.proofs.Common.{◌∙◌, ap, sym, length, arith}
use Rattle.song_queue.specs.State.{queue_of}
use Rattle.play_order.specs.Scans.{has_unplayed}
use Rattle.play_order.proofs.Scanning.{any-found, any-more}
use Rattle.play_order.proofs.scan.any_within.Goals as goal

pub returns-then-any_of_run : goal.returns-then-any_of_run
returns-then-any_of_run c =
    sym
    (any-found c.args.played.now (queue_of c.args.queue.now) c.args.from c.loop-at.at (length c.run-run.result.now) c.args.end c.loop-at.invariant.low (omega arith)
    (ap (has_unplayed c.args.played.now) (sym c.run-run.ensures.part) ∙ sym c.if-any_of_run.ensures))

pub loop-at-preserved : goal.loop-at-preserved
loop-at-preserved c = record {
  low = omega arith;
  high = omega arith;
  none =
      any-more c.args.played.now (queue_of c.args.queue.now) c.args.from c.loop-at.at (length c.run-run.result.now) c.loop-at.invariant.low c.loop-at.invariant.none
      ∙ ap (has_unplayed c.args.played.now) (sym c.run-run.ensures.part) ∙ sym c.if-any_of_run.ensures;
}
