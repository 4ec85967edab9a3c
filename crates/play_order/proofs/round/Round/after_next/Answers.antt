use Rattle.std.proofs.Common.{◌≡◌, ◌∙◌, ap, sym, ℕ, List, [], ◌∷◌, Option, None, cond, filter, not, true, false}
use Rattle.song_queue.specs.declared.entry.Entry.{Entry}
use Rattle.song_queue.specs.State.{queue_of}
use Rattle.play_order.specs.declared.modes.Consume.{Consume}
use Rattle.play_order.specs.Draws.{has_id, without}
use Rattle.play_order.specs.Order.{left_by}
use Rattle.play_order.specs.Ends.{after_next, consumes, id_of, round_left}
use Rattle.play_order.proofs.Going.{all-apart, begun-left, next-left, without-none}
use Rattle.play_order.proofs.round.Round.after_next.Goals as goal
use Rattle.play_order.proofs.round.Round.after_next.Goals.{then-consumes+in_ok-starts, else-consumes+in_ok-starts-2}

pub go_on-requires-clause-apart : goal.go_on-requires-clause-apart
go_on-requires-clause-apart c =
    let queue : List Entry = queue_of c.args.queue.now in
    let on : consumes c.args.modes.consume ≡ true = sym c.consumes.ensures ∙ c.if-consumes.true in
    let left : left_by queue c.span_of-from.result.from c.span_of-from.result.end ≡ filter (λ (e : Entry). not (has_id c.args.id e)) queue =
    c.span_of-from.ensures.left ∙ ap (λ b. cond b (filter (λ (e : Entry). not (has_id c.args.id e)) queue) queue) on in
    all-apart c.args.id queue (left_by queue c.span_of-from.result.from c.span_of-from.result.end) left

consumed : (c : goal.After-consume_after-consume) → c.consumes.result ≡ true → without c.args.self.now (c.args.id ∷ []) ≡ round_left c.args.modes c.args.self.now c.args.id
consumed c h = sym (ap (λ b. cond b (without c.args.self.now (c.args.id ∷ [])) c.args.self.now) (sym c.consumes.ensures ∙ h))

stayed : (c : goal.After-consume_after-consume) → c.consumes.result ≡ false → without c.args.self.now [] ≡ round_left c.args.modes c.args.self.now c.args.id
stayed c h = without-none c.args.self.now ∙ sym (ap (λ b. cond b (without c.args.self.now (c.args.id ∷ [])) c.args.self.now) (sym c.consumes.ensures ∙ h))

pub returns-clause-round : goal.returns-clause-round
returns-clause-round c =
    let queue : List Entry = queue_of c.args.queue.now in
    let left : List Entry = left_by queue c.span_of-from.result.from c.span_of-from.result.end in
    let position : ℕ = c.span_of-from.result.position in
    c.keep_order.ensures ∙ elim c.if-consumes.branch [
      | then-consumes+in_ok-starts w ↦
          w.self-is ∙ w.in_ok-starts.ensures.round
          ∙ begun-left c.args.modes c.args.self.now (without c.args.self.now (c.args.id ∷ [])) queue left c.args.id position c.span_of-from.ensures.left (consumed c w.if-consumes.true) c.span_of-from.ensures.position
      | else-consumes+in_ok-starts-2 w ↦
          w.self-is ∙ w.in_ok-starts-2.ensures.round
          ∙ begun-left c.args.modes c.args.self.now (without c.args.self.now []) queue left c.args.id position c.span_of-from.ensures.left (stayed c w.if-consumes.false) c.span_of-from.ensures.position
    ]

starts : (c : goal.After-consume_after-consume) → c.if-consumes.starts ≡ id_of (after_next c.args.modes c.args.self.now (queue_of c.args.queue.now) c.args.id).entry
starts c =
    let queue : List Entry = queue_of c.args.queue.now in
    let left : List Entry = left_by queue c.span_of-from.result.from c.span_of-from.result.end in
    let position : ℕ = c.span_of-from.result.position in
    elim c.if-consumes.branch [
      | then-consumes+in_ok-starts w ↦
          w.starts-is ∙ w.in_ok-starts.ensures.starts
          ∙ ap id_of (next-left c.args.modes c.args.self.now (without c.args.self.now (c.args.id ∷ [])) queue left c.args.id position c.span_of-from.ensures.left (consumed c w.if-consumes.true) c.span_of-from.ensures.position)
      | else-consumes+in_ok-starts-2 w ↦
          w.starts-is ∙ w.in_ok-starts-2.ensures.starts
          ∙ ap id_of (next-left c.args.modes c.args.self.now (without c.args.self.now []) queue left c.args.id position c.span_of-from.ensures.left (stayed c w.if-consumes.false) c.span_of-from.ensures.position)
    ]

pub returns-clause-ending : goal.returns-clause-ending
returns-clause-ending c =
    ap (λ (x : Consume). record { modes = record c.args.modes { consume = x }; starts = c.if-consumes.starts; current = None }) c.consume_after-consume.ensures
    ∙ ap (λ (o : Option ℕ). record { modes = (after_next c.args.modes c.args.self.now (queue_of c.args.queue.now) c.args.id).modes; starts = o; current = None }) (starts c)
