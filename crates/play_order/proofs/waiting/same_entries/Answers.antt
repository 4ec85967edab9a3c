use Rattle.std.proofs.Common.{◌+◌, ◌∙◌, ap, sym, refl, length, map, arith}
use Rattle.song_queue.specs.State.{queue_of}
use Rattle.play_order.specs.Waits.{priority_and_id}
use Rattle.play_order.proofs.Waits.{same_pairs-join, part-of, length-of}
use Rattle.play_order.proofs.waiting.same_entries.Goals as goal

pub loop-at-preserved : goal.loop-at-preserved
loop-at-preserved c = record {
  high = omega arith;
  same =
      same_pairs-join (queue_of c.args.queue.now) c.args.known.now c.loop-at.at (length c.run-run.result.now) c.loop-at.invariant.same
      (sym (ap (map priority_and_id) c.run-run.ensures.part) ∙ c.if-not-same_run.ensures.0 refl);
}

pub returns-then-not-same_run : goal.returns-then-not-same_run
returns-then-not-same_run c = (
  λ e. cc,
  λ h. c.if-not-same_run.ensures.1 (ap (map priority_and_id) c.run-run.ensures.part ∙ part-of (queue_of c.args.queue.now) c.args.known.now c.loop-at.at (c.loop-at.at + length c.run-run.result.now) h),
)

pub returns-then-len-known : goal.returns-then-len-known
returns-then-len-known c = (λ e. cc, λ h. absurd (c.if-len-known.true (c.len-len.ensures.len ∙ length-of (queue_of c.args.queue.now) c.args.known.now h)))
