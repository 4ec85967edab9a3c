use Rattle.std.proofs.Common.{◌≡◌, ◌∙◌, ap, sym, List, cond, Bool, filter, not, false}
use Rattle.song_queue.specs.declared.entry.Entry.{Entry}
use Rattle.song_queue.specs.State.{queue_of}
use Rattle.song_queue.proofs.Edits.{edited-same}
use Rattle.play_order.specs.Draws.{has_id}
use Rattle.play_order.specs.Ends.{consumes, entries_left}
use Rattle.play_order.proofs.round.Round.stop_after.Goals as goal

pub returns-then-not-consumes-clause-queue : goal.returns-then-not-consumes-clause-queue
returns-then-not-consumes-clause-queue c =
    let queue : List Entry = queue_of c.args.queue.now in
    let off : consumes c.args.modes.consume ≡ false = sym c.consumes.ensures ∙ c.if-not-consumes.true in
    sym (edited-same c.args.queue.now (entries_left c.args.modes queue c.args.id) (sym (ap (λ (b : Bool). cond b (filter (λ (e : Entry). not (has_id c.args.id e)) queue) queue) off)))
