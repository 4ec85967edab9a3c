use Rattle.std.proofs.Common.{ℕ, List, length, ◌∙◌, arith}
use Rattle.song_queue.specs.declared.entry.Entry.{Entry}
use Rattle.song_queue.specs.State.{entries_of, queue_of}
use Rattle.queue_commands.specs.Shown.{row_lines}
use Rattle.queue_commands.proofs.Rows.{one_run}
use Rattle.queue_commands.proofs.queue_songs.rows_between.Goals as goal

pub loop-at-preserved : goal.loop-at-preserved
loop-at-preserved c =
    let row : ℕ × Entry → List ℕ = row_lines c.args.shown c.args.tags c.args.library.now.rate in
    let queue : List Entry = queue_of c.args.queue.now in
    record {
      low = omega arith;
      high = omega arith;
      lines =
          c.in_ok-push_run.ensures
          ∙ one_run row queue (entries_of c.run-run.result.now) c.args.positions.now.start c.loop-at.at (length c.run-run.result.now) c.loop-at.lines c.loop-at.invariant.low (omega arith) c.run-run.ensures.part
          c.loop-at.invariant.lines;
    }
