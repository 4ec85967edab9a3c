use Rattle.std.proofs.Common.{ℕ, ◌+◌, List, Option, length, ap, sym, ◌∙◌, arith}
use Rattle.std.specs.List.{slice_range}
use Rattle.std.specs.Option.{option_copied}
use Rattle.song_queue.specs.declared.entry.Entry.{Entry}
use Rattle.song_queue.specs.State.{queue_of}
use Rattle.play_order.specs.declared.modes.Rank.{Rank}
use Rattle.play_order.specs.Scans.{best_among}
use Rattle.play_order.proofs.Lists.{slice_range-join}
use Rattle.play_order.proofs.Scanning.{best-more}
use Rattle.play_order.proofs.scan.first_within.Goals as goal

pub loop-at-preserved : goal.loop-at-preserved
loop-at-preserved c =
    let queue : List Entry = queue_of c.args.queue.now in
    let ranks : List Rank = c.args.ranks.now in
    let played : List ℕ = c.args.played.now in
    let from : ℕ = c.args.from in
    let at : ℕ = c.loop-at.at in
    let next : ℕ = at + length c.run-run.result.now in
    let start : Option Entry = option_copied c.args.best in
    record {
      low = omega arith;
      high = omega arith;
      best =
          c.first_of_run-first.ensures ∙ ap (λ (some : List Entry). best_among ranks played some (option_copied c.loop-at.first)) c.run-run.ensures.part
          ∙ ap (best_among ranks played (slice_range queue at next)) c.loop-at.invariant.best ∙ sym (best-more ranks played (slice_range queue from at) (slice_range queue at next) start)
          ∙ ap (λ (some : List Entry). best_among ranks played some start) (sym (slice_range-join queue from at (length c.run-run.result.now) c.loop-at.invariant.low));
    }
