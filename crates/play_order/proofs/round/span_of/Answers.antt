use Rattle.std.proofs.Common.{◌≡◌, ◌+◌, ◌<◌, ℕ, List, length, ap, sym, ◌∙◌, slice_get, true, false, cond, not, filter, refl, arith}
use Rattle.std.proofs.lemmas.Option.{slice_get_past}
use Rattle.song_queue.specs.declared.entry.Entry.{Entry}
use Rattle.song_queue.specs.State.{queue_of}
use Rattle.play_order.specs.Draws.{has_id}
use Rattle.play_order.specs.Order.{entry_position, left_by}
use Rattle.play_order.specs.Ends.{consumes}
use Rattle.play_order.proofs.Firsts.{distinct-from}
use Rattle.play_order.proofs.Positions.{position-found, position-lost, position-most, others-joined, others-lost}
use Rattle.play_order.proofs.round.span_of.Goals as goal

pub returns-then-consumes-clause-left : goal.returns-then-consumes-clause-left
returns-then-consumes-clause-left c =
    let queue : List Entry = queue_of c.args.queue.now in
    let on : consumes c.args.modes.consume ≡ true = sym c.consumes.ensures ∙ c.if-consumes.true in
    let position = position-found c.args.queue.now c.args.id c.in-Some.position c.in-Some.ensures.position in
    let within : entry_position queue c.args.id < length queue = omega (arith, position.0, position.1) in
    rw on (ap (λ (n : ℕ). left_by queue n (n + 1)) (sym position.0) ∙ others-joined c.args.id queue (distinct-from queue c.len-len.ensures.valid.distinct) within)

pub returns-then-consumes-clause-position : goal.returns-then-consumes-clause-position
returns-then-consumes-clause-position c =
    let queue : List Entry = queue_of c.args.queue.now in
    let on : consumes c.args.modes.consume ≡ true = sym c.consumes.ensures ∙ c.if-consumes.true in
    let position = position-found c.args.queue.now c.args.id c.in-Some.position c.in-Some.ensures.position in
    rw on (ap (slice_get (filter (λ (e : Entry). not (has_id c.args.id e)) queue)) (sym position.0))

pub returns-else-consumes-clause-position : goal.returns-else-consumes-clause-position
returns-else-consumes-clause-position c =
    let queue : List Entry = queue_of c.args.queue.now in
    let off : consumes c.args.modes.consume ≡ false = sym c.consumes.ensures ∙ c.if-consumes.false in
    let position = position-found c.args.queue.now c.args.id c.in-Some.position c.in-Some.ensures.position in
    rw off (ap (λ (n : ℕ). slice_get queue (n + 1)) (sym position.0))

pub returns-in-None-clause-left : goal.returns-in-None-clause-left
returns-in-None-clause-left c =
    let queue : List Entry = queue_of c.args.queue.now in
    let lost = position-lost c.args.queue.now c.args.id c.in-None.ensures.position in
    elim (consumes c.args.modes.consume) as (λ v. queue ≡ cond v (filter (λ e. not (has_id c.args.id e)) queue) queue) [ true ↦ sym (others-lost c.args.id queue lost) | false ↦ refl ]

pub returns-in-None-clause-position : goal.returns-in-None-clause-position
returns-in-None-clause-position c =
    let queue : List Entry = queue_of c.args.queue.now in
    let lost = position-lost c.args.queue.now c.args.id c.in-None.ensures.position in
    let all = others-lost c.args.id queue lost in
    let end : entry_position queue c.args.id ≡ c.len-len.result = omega (arith, lost, position-most queue c.args.id, c.len-len.ensures.len) in
    elim (consumes c.args.modes.consume) as (λ v. slice_get (cond v (filter (λ e. not (has_id c.args.id e)) queue) queue) c.len-len.result ≡ slice_get (cond v (filter (λ e. not (has_id c.args.id e)) queue) queue) (cond v (entry_position queue c.args.id) (entry_position queue c.args.id + 1))) [
      | true ↦ ap (slice_get (filter (λ (e : Entry). not (has_id c.args.id e)) queue)) (sym end)
      | false ↦ slice_get_past queue c.len-len.result (omega (arith, c.len-len.ensures.len)) ∙ sym (slice_get_past queue (entry_position queue c.args.id + 1) (omega arith))
    ]
