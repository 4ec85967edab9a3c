use Rattle.std.proofs.Common.{◌≡◌, ℕ, ◌<◌, ◌≤◌, false, nat_lt, nat_le, ◌&&◌, List, length, Option, ap, sym, ◌∙◌, arith}
use Rattle.song_queue.specs.declared.entry.Entry.{Entry}
use Rattle.song_queue.specs.State.{queue_of}
use Rattle.play_order.specs.Order.{entry_position}
use Rattle.play_order.proofs.Positions.{position-found, position-lost}
use Rattle.player_core.specs.Steps.{holds_current}
use Rattle.player_core.proofs.player.entries.holds_current.Goals as goal

-- a position that is not in front of a range
after_start : (from end position at : ℕ) → from ≤ position → at ≡ position → nat_lt position end ≡ (nat_le from at && nat_lt at end)
after_start from end position at h e = grind arith

-- a position in front of a range, and one at the end of the queue
before_start : (from end position at : ℕ) → position < from → at ≡ position → nat_le from position ≡ (nat_le from at && nat_lt at end)
before_start from end position at h e = grind arith

after_end : (from end len at : ℕ) → len ≤ at → end ≤ len → false ≡ (nat_le from at && nat_lt at end)
after_end from end len at h k = grind arith

pub returns-then-from-position : goal.returns-then-from-position
returns-then-from-position c =
    let queue : List Entry = queue_of c.args.queue.now in
    let position = position-found c.args.queue.now c.in-Some.id c.in-Some-position_of.position c.in-Some-position_of.ensures.position in
    after_start c.args.from c.args.end c.in-Some-position_of.position (entry_position queue c.in-Some.id) c.if-from-position.true position.0
    ∙ sym (ap (λ (o : Option ℕ). holds_current queue o c.args.from c.args.end) c.in-Some.is)

pub returns-else-from-position : goal.returns-else-from-position
returns-else-from-position c =
    let queue : List Entry = queue_of c.args.queue.now in
    let position = position-found c.args.queue.now c.in-Some.id c.in-Some-position_of.position c.in-Some-position_of.ensures.position in
    before_start c.args.from c.args.end c.in-Some-position_of.position (entry_position queue c.in-Some.id) c.if-from-position.false position.0
    ∙ sym (ap (λ (o : Option ℕ). holds_current queue o c.args.from c.args.end) c.in-Some.is)

pub returns-in-None : goal.returns-in-None
returns-in-None c =
    let queue : List Entry = queue_of c.args.queue.now in
    after_end c.args.from c.args.end (length queue) (entry_position queue c.in-Some.id) (position-lost c.args.queue.now c.in-Some.id c.in-None.ensures.position) c.requires
    ∙ sym (ap (λ (o : Option ℕ). holds_current queue o c.args.from c.args.end) c.in-Some.is)
