use Rattle.std.proofs.Common.{◌≡◌, ◌≤◌, ◌≢◌, length, refl, ap, sym, subst, ◌∙◌, arith}
use Rattle.std.proofs.lemmas.Bool.{OnFalse_at}
use Rattle.std.proofs.lemmas.List.{length-map}
use Rattle.queue_slots.specs.declared.entry.Slot.{Slot}
use Rattle.song_queue.specs.Entries.{moved_to}
use Rattle.song_queue.specs.Fields.{state_in}
use Rattle.song_queue.specs.State.{QueueState, IsQueue, queue_of, moved}
use Rattle.song_queue.proofs.Edits.{edited-is}
use Rattle.song_queue.proofs.Moves.{moved_to-other, moved-same, moved-none, IsQueue-moved}
use Rattle.song_queue.proofs.queue.Queue.move_range.Goals as goal

pub returns-then-start-end-clause-ok : goal.returns-then-start-end-clause-ok
returns-then-start-end-clause-ok c = moved-none c.args.self.now c.args.range.start c.args.to ∙ ap (λ e. moved c.args.self.now c.args.range.start e c.args.to) c.if-start-end.true

pub returns-then-to-start-clause-ok : goal.returns-then-to-start-clause-ok
returns-then-to-start-clause-ok c =
    let q : QueueState = state_in c.self.inside in
    let lies = OnFalse_at c.if-lies_outside.false c.lies_outside.ensures.within in
    let order : c.args.range.start ≤ c.args.range.end = lies.0 in
    let fits : c.args.range.end ≤ c.len-len.result = lies.1 in
    let size : length (queue_of q) ≡ length q.slots = length-map q.slots (λ (s : Slot). s.entry) in
    let P : QueueState → Type 0 = λ x. x ≡ moved x c.args.range.start c.args.range.end c.args.range.start in
    subst P c.self.view_is (moved-same q c.args.range.start c.args.range.end order (omega arith)) ∙ ap (moved c.args.self.now c.args.range.start c.args.range.end) (sym c.if-to-start.true)

pub returns-clause-ok : goal.returns-clause-ok
returns-clause-ok c =
    let q : QueueState = state_in c.self.inside in
    let start = c.args.range.start in
    let end = c.args.range.end in
    let lies = OnFalse_at c.if-lies_outside.false c.lies_outside.ensures.within in
    let order : start ≤ end = lies.0 in
    let fits : end ≤ c.len-len.result = lies.1 in
    let other : queue_of q ≢ moved_to (queue_of q) start end c.args.to = moved_to-other q.slots c.self.invariant.distinct start end c.args.to (omega arith) c.if-to-start.false (omega arith) (omega arith) in
    let is = edited-is q (λ es. moved_to es start end c.args.to) c.version_after-version.result.0 c.version_after-version.result.1 q.slots _ c.version_after-version.ensures.next c.version_after-version.ensures.wraps
    refl other c.move_part.ensures in
    is ∙ ap (λ x. moved x start end c.args.to) c.self.view_is

pub invariant_of-self : goal.invariant_of-self
invariant_of-self c =
    let lies = OnFalse_at c.if-lies_outside.false c.lies_outside.ensures.within in
    subst IsQueue (ap (λ x. moved x c.args.range.start c.args.range.end c.args.to) c.self.view_is ∙ sym (returns-clause-ok c)) (IsQueue-moved (state_in c.self.inside) c.self.invariant c.args.range.start c.args.range.end c.args.to lies.0)
