use Rattle.std.proofs.Common.{◌∙◌, ap, sym, List, cond, Bool}
use Rattle.song_queue.specs.declared.entry.Entry.{Entry}
use Rattle.song_queue.specs.State.{queue_of}
use Rattle.play_order.specs.Draws.{RoundState}
use Rattle.play_order.specs.Order.{at_or_first, first_of, left_by, unplayed}
use Rattle.play_order.specs.Ends.{entries_left, position_after, round_left}
use Rattle.play_order.proofs.Going.{first-round_left}
use Rattle.play_order.proofs.round.Round.ahead_after.Goals as goal

pub returns-then-modes : goal.returns-then-modes
returns-then-modes c =
    let self : RoundState = c.args.self.now in
    let queue : List Entry = queue_of c.args.queue.now in
    let left : List Entry = entries_left c.args.modes queue c.args.id in
    let rest : RoundState = round_left c.args.modes self c.args.id in
    c.first_entry.ensures ∙ ap (λ (x : RoundState). first_of x.ranks (unplayed x.played (left_by queue c.span_of-from.result.from c.span_of-from.result.end))) c.self.view_is
    ∙ ap (λ (xs : List Entry). first_of self.ranks (unplayed self.played xs)) c.span_of-from.ensures.left
    ∙ sym (first-round_left c.args.modes self queue c.args.id)
    ∙ sym (ap (λ (b : Bool). cond b (first_of rest.ranks (unplayed rest.played left)) (at_or_first c.args.modes.repeat left (position_after c.args.modes queue c.args.id))) c.if-modes.true)
