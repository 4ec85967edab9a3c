use Rattle.std.proofs.Common.{List, ap, sym, ◌∙◌, slice_get}
use Rattle.std.proofs.lemmas.List.Folds.{find_at}
use Rattle.std.proofs.lemmas.Option.{slice_get_past}
use Rattle.song_queue.specs.declared.entry.Entry.{Entry}
use Rattle.song_queue.specs.State.{queue_of}
use Rattle.play_order.specs.Draws.{has_id}
use Rattle.play_order.specs.Order.{entry_position}
use Rattle.play_order.proofs.Positions.{position-found, position-lost}
use Rattle.play_order.proofs.scan.entry_with.Goals as goal

pub returns-in-Some : goal.returns-in-Some
returns-in-Some c =
    let queue : List Entry = queue_of c.args.queue.now in
    let position = position-found c.args.queue.now c.args.id c.in-Some.position c.in-Some.ensures.position in
    c.get.ensures ∙ ap (slice_get queue) (sym position.0) ∙ sym (find_at (has_id c.args.id) queue)

pub returns-in-None : goal.returns-in-None
returns-in-None c =
    let queue : List Entry = queue_of c.args.queue.now in
    sym (find_at (has_id c.args.id) queue ∙ slice_get_past queue (entry_position queue c.args.id) (position-lost c.args.queue.now c.args.id c.in-None.ensures.position))
