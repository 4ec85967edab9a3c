use Rattle.std.proofs.Common.{◌≡◌, ◌∙◌, ap, sym, List, cond, Bool, filter, not, false}
use Rattle.std.specs.Option.{option_copied}
use Rattle.song_queue.specs.declared.entry.Entry.{Entry}
use Rattle.song_queue.specs.State.{queue_of}
use Rattle.song_queue.proofs.Edits.{edited-same}
use Rattle.play_order.specs.Draws.{has_id}
use Rattle.play_order.specs.Ends.{consumes, entries_left}
use Rattle.play_order.proofs.Going.{again-stays, from-id}
use Rattle.play_order.proofs.round.Round.play_again.Goals as goal

pub returns-in_ok-started-in-Some-clause-queue : goal.returns-in_ok-started-in-Some-clause-queue
returns-in_ok-started-in-Some-clause-queue c =
    let queue : List Entry = queue_of c.args.queue.now in
    let from = from-id (option_copied c.again.result) c.in-Some.starts c.in-Some.ensures in
    let off : consumes c.args.modes.consume ≡ false = again-stays c.args.modes queue c.args.id from.0 (sym c.again.ensures ∙ from.1) in
    sym (edited-same c.args.queue.now (entries_left c.args.modes queue c.args.id) (sym (ap (λ (b : Bool). cond b (filter (λ (e : Entry). not (has_id c.args.id e)) queue) queue) off)))
