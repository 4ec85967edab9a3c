use Rattle.std.proofs.Common.{◌≡◌, ◌∙◌, ap, sym, List, ℕ, ◌-◌, false, ◌==◌, ◌&&◌, slice_get, arith}
use Rattle.song_queue.specs.declared.entry.Entry.{Entry}
use Rattle.song_queue.specs.State.{queue_of}
use Rattle.play_order.specs.Order.{entry_position}
use Rattle.play_order.proofs.Positions.{position-or, before-first, before-other}
use Rattle.play_order.proofs.round.Round.before.Goals as goal
use Rattle.play_order.proofs.round.Round.before.Goals.{else-position-eq0-via-then-position-eq0+else-modes-2, else-position-eq0-via-else-position-eq0}

pub returns-then-modes-2 : goal.returns-then-modes-2
returns-then-modes-2 c =
    let queue : List Entry = queue_of c.args.queue.now in
    let position : c.unwrap_or-position.result ≡ entry_position queue c.args.id = c.unwrap_or-position.ensures ∙ position-or c.args.queue.now c.args.id c.position_of.result c.len-len.result c.position_of.ensures.position c.len-len.ensures.len in
    c.get.ensures ∙ ap (slice_get queue) (c.saturating_sub.ensures ∙ ap (λ (n : ℕ). n - 1) c.len-len.ensures.len)
    ∙ before-first c.args.modes c.args.self.now queue c.args.id c.if-modes.false c.if-modes-2.true (sym position ∙ c.if-position-eq0.true)

pub returns-else-position-eq0 : goal.returns-else-position-eq0
returns-else-position-eq0 c =
    let queue : List Entry = queue_of c.args.queue.now in
    let position : c.unwrap_or-position.result ≡ entry_position queue c.args.id = c.unwrap_or-position.ensures ∙ position-or c.args.queue.now c.args.id c.position_of.result c.len-len.result c.position_of.ensures.position c.len-len.ensures.len in
    let other : ((entry_position queue c.args.id == 0) && c.args.modes.repeat) ≡ false =
    (elim c.else-position-eq0.branch [
      | else-position-eq0-via-then-position-eq0+else-modes-2 w ↦ grind (arith, w.if-modes-2.false)
      | else-position-eq0-via-else-position-eq0 w ↦ grind (arith, w.if-position-eq0.false, position)
    ]) in
    c.get-else-position-eq0.ensures ∙ ap (slice_get queue) (c.saturating_sub-else-position-eq0.ensures ∙ ap (λ (n : ℕ). n - 1) position)
    ∙ before-other c.args.modes c.args.self.now queue c.args.id c.if-modes.false other
