use Rattle.std.proofs.Common.{◌≡◌, ◌∙◌, ap, sym, ℕ, List, Vec, Global}
use Rattle.song_queue.specs.Entries.{rows_at}
use Rattle.song_queue.specs.State.{queue_of}
use Rattle.queue_commands.proofs.Meetings.{fails_next, meets_next}
use Rattle.queue_commands.proofs.queue_songs.positions_meeting.Goals.{then-branch+in_ok-push, else-branch}
use Rattle.queue_commands.proofs.queue_songs.positions_meeting.Goals as goal

pub loop-position-preserved : goal.loop-position-preserved
loop-position-preserved c =
    let queue = c.args.queue.now in
    let rows : List ℕ → _ = λ (l : List ℕ). rows_at (queue_of queue) l in
    elim c.if-branch.branch [
      | then-branch+in_ok-push w ↦
          ap (λ (p : Vec ℕ Global). rows p.items) w.positions-is
          ∙ ap rows w.in_ok-push.ensures.items
          ∙ meets_next queue c.args.case c.args.filter.now c.loop-position.position c.loop-position.positions.items (sym c.in_ok-meets_at.ensures ∙ w.if-branch.true) c.loop-position.invariant
      | else-branch w ↦
          ap (λ (p : Vec ℕ Global). rows p.items) w.positions-is
          ∙ fails_next queue c.args.case c.args.filter.now c.loop-position.position c.loop-position.positions.items (sym c.in_ok-meets_at.ensures ∙ w.if-branch.false) c.loop-position.invariant
    ]
