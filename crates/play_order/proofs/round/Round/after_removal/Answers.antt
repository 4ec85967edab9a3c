use Rattle.std.proofs.Common.{◌∙◌, ap, List, ℕ}
use Rattle.song_queue.specs.declared.entry.Entry.{Entry}
use Rattle.song_queue.specs.State.{queue_of}
use Rattle.play_order.specs.Draws.{RoundState, without}
use Rattle.play_order.specs.Order.{begun, left_by, next_of, round_for}
use Rattle.play_order.specs.Ends.{id_of}
use Rattle.play_order.proofs.round.Round.after_removal.Goals as goal

pub returns-clause-round : goal.returns-clause-round
returns-clause-round c =
    let left : List Entry = left_by (queue_of c.args.queue.now) c.args.range.start c.args.range.end in
    let after : RoundState → RoundState = λ r. begun c.args.modes (round_for c.args.modes r left) (next_of c.args.modes r left c.args.range.start) in
    c.in_ok-starts.ensures.round ∙ ap (λ (ids : List ℕ). after (without c.args.self.now ids)) (c.deref.ensures.value ∙ c.in_ok-ids.ensures.ids)

pub returns-clause-starts : goal.returns-clause-starts
returns-clause-starts c =
    let left : List Entry = left_by (queue_of c.args.queue.now) c.args.range.start c.args.range.end in
    c.in_ok-starts.ensures.starts ∙ ap (λ (ids : List ℕ). id_of (next_of c.args.modes (without c.args.self.now ids) left c.args.range.start)) (c.deref.ensures.value ∙ c.in_ok-ids.ensures.ids)
