use Rattle.std.proofs.Common.{◌++◌, ◌∙◌, ap, sym, ℕ, List, length, append_assoc, arith}
use Rattle.song_queue.specs.declared.entry.Entry.{Entry}
use Rattle.song_queue.specs.State.{entries_of, queue_of}
use Rattle.play_order.specs.Draws.{ids_of}
use Rattle.play_order.specs.Order.{ids_taken}
use Rattle.play_order.proofs.Scanning.{ids-join}
use Rattle.play_order.proofs.scan.push_ids.Goals as goal

pub loop-at-preserved : goal.loop-at-preserved
loop-at-preserved c =
    let queue : List Entry = queue_of c.args.queue.now in
    let at : ℕ = c.loop-at.at in
    let count : ℕ = length c.run-run.result.now in
    record {
      low = omega arith;
      high = omega arith;
      ids =
          c.in_ok-push_run.ensures ∙ ap (λ (ids : List ℕ). ids ++ ids_of (entries_of c.run-run.result.now)) c.loop-at.invariant.ids
          ∙ append_assoc c.args.ids.now.items (ids_taken queue c.args.from at) (ids_of (entries_of c.run-run.result.now))
          ∙ ap (λ (some : List Entry). c.args.ids.now.items ++ (ids_taken queue c.args.from at ++ ids_of some)) c.run-run.ensures.part
          ∙ ap (λ (ids : List ℕ). c.args.ids.now.items ++ ids) (sym (ids-join queue c.args.from at count c.loop-at.invariant.low));
    }
