use Rattle.std.proofs.Common.{◌∙◌, ap, ℕ, List, is_some}
use Rattle.song_queue.specs.declared.entry.Entry.{Entry}
use Rattle.song_queue.specs.State.{queue_of}
use Rattle.play_order.specs.Draws.{RoundState}
use Rattle.play_order.specs.Order.{left_by}
use Rattle.play_order.proofs.Going.{all-left, gone, next-left, without-gone}
use Rattle.play_order.proofs.round.Round.starts_after_next.Goals as goal

pub returns : goal.returns
returns c =
    let queue : List Entry = queue_of c.args.queue.now in
    let self : RoundState = c.args.self.now in
    let left : List Entry = left_by queue c.span_of-from.result.from c.span_of-from.result.end in
    let ids : List ℕ = gone c.args.modes c.args.id in
    c.goes_on.ensures.starts ids (all-left c.args.modes queue left c.args.id c.span_of-from.ensures.left)
    ∙ ap is_some (next-left c.args.modes self _ queue left c.args.id c.span_of-from.result.position c.span_of-from.ensures.left (without-gone c.args.modes self c.args.id) c.span_of-from.ensures.position)
