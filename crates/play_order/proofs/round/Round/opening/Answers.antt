use Rattle.std.proofs.Common.{◌∙◌, ap, true}
use Rattle.song_queue.specs.State.{queue_of}
use Rattle.play_order.specs.Draws.{RoundState}
use Rattle.play_order.specs.Order.{next_of}
use Rattle.play_order.specs.Ends.{id_of}
use Rattle.play_order.proofs.Going.{opening-next, opening-round, without-none}
use Rattle.play_order.proofs.round.Round.opening.Goals as goal

pub returns-clause-round : goal.returns-clause-round
returns-clause-round c = c.keep_order.ensures ∙ c.in_ok-starts.ensures.round ∙ opening-round c.args.modes c.args.self.now (queue_of c.args.queue.now)

pub returns-clause-starts : goal.returns-clause-starts
returns-clause-starts c =
    c.in_ok-starts.ensures.starts
    ∙ ap id_of (ap (λ (r : RoundState). next_of (record c.args.modes { repeat = true }) r (queue_of c.args.queue.now) 0) (without-none c.args.self.now) ∙ opening-next c.args.modes c.args.self.now (queue_of c.args.queue.now))
