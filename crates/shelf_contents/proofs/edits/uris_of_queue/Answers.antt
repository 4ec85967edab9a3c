use Rattle.std.proofs.Common.{ℕ, ◌+◌, List, ◌++◌, length, ap, sym, ◌∙◌, arith}
use Rattle.std.specs.List.{slice_range}
use Rattle.song_queue.specs.declared.entry.Entry.{Entry}
use Rattle.song_queue.specs.State.{queue_of}
use Rattle.shelf_contents.specs.Edits.{uris_in}
use Rattle.shelf_contents.proofs.Walks.{mapped_part}
use Rattle.shelf_contents.proofs.edits.uris_of_queue.Goals as goal

pub loop-at-preserved : goal.loop-at-preserved
loop-at-preserved c =
    let queue : List Entry = queue_of c.args.queue.now in
    let at : ℕ = c.loop-at.at in
    let count : ℕ = length c.run-run.result.now in
    record {
      within = omega arith;
      uris =
          c.in_ok-push_uris.ensures ∙ ap (λ (some : List Entry). c.loop-at.uris ++ uris_in some) c.run-run.ensures.part
          ∙ ap (λ (uris : List (List ℕ)). uris ++ uris_in (slice_range queue at (at + count))) c.loop-at.invariant.uris
          ∙ sym (mapped_part (λ (entry : Entry). entry.song.uri) queue at count);
    }
