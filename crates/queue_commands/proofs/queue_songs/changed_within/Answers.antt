use Rattle.std.proofs.Common.{◌≡◌, ◌∙◌, ℕ, List, filter, ap}
use Rattle.song_queue.specs.Entries.{rows_at}
use Rattle.song_queue.specs.State.{queue_of}
use Rattle.queue_commands.specs.Queue.{is_in}
use Rattle.queue_commands.proofs.Rows.{changed_rows, kept_all}
use Rattle.queue_commands.proofs.queue_songs.changed_within.Goals as goal

pub returns : goal.returns
returns c =
    let items : List ℕ = c.deref-position-items.result.now in
    let all : c.loop-position.positions.items ≡ filter (is_in c.args.within.now) items =
    kept_all (is_in c.args.within.now) items c.loop-position.position-index c.loop-position.positions.items c.loop-position-test.false c.loop-position.invariant in
    ap (rows_at (queue_of c.args.queue.now)) all
    ∙ changed_rows c.args.queue.now c.args.version c.args.within.now items (c.deref-position-items.ensures.value ∙ c.in_ok-changed.ensures.positions)
