use Rattle.std.proofs.Common.{◌∙◌, ap, sym, ◌-◌, Bool, true, false, ◌&&◌, nat_lt}
use Rattle.song_queue.specs.State.{queue_of}
use Rattle.play_order.proofs.Going.{some-found}
use Rattle.play_order.proofs.round.Round.goes_on.Goals as goal

pub returns-then-any_left-clause-starts : goal.returns-then-any_left-clause-starts
returns-then-any_left-clause-starts c = λ ids apart.
    c.if-any_left.true
    ∙ sym
    (some-found c.args.modes c.args.self.now _ ids (queue_of c.args.queue.now) c.args.from c.args.end c.args.position c.len.result true c.requires.order c.requires.within
    c.len.ensures.valid.distinct c.if-not-modes.false apart c.self.view_is (sym c.if-any_left.true ∙ c.any_left.ensures c.self.inside.ranks) c.len.ensures.len)

pub returns-then-modes-clause-starts : goal.returns-then-modes-clause-starts
returns-then-modes-clause-starts c = λ ids apart.
    sym
    (some-found c.args.modes c.args.self.now _ ids (queue_of c.args.queue.now) c.args.from c.args.end c.args.position c.len.result false c.requires.order c.requires.within
    c.len.ensures.valid.distinct c.if-not-modes.false apart c.self.view_is (sym c.if-any_left.false ∙ c.any_left.ensures c.self.inside.ranks) c.len.ensures.len
    ∙ ap (λ (b : Bool). b && nat_lt (c.args.end - c.args.from) c.len.result) c.if-modes.true)

pub returns-else-modes-clause-starts : goal.returns-else-modes-clause-starts
returns-else-modes-clause-starts c = λ ids apart.
    c.if-modes.false
    ∙ sym
    (some-found c.args.modes c.args.self.now _ ids (queue_of c.args.queue.now) c.args.from c.args.end c.args.position c.len.result false c.requires.order c.requires.within
    c.len.ensures.valid.distinct c.if-not-modes.false apart c.self.view_is (sym c.if-any_left.false ∙ c.any_left.ensures c.self.inside.ranks) c.len.ensures.len
    ∙ ap (λ (b : Bool). b && nat_lt (c.args.end - c.args.from) c.len.result) c.if-modes.false)
