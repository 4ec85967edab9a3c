use Rattle.std.proofs.Common.{◌≡◌, ◌≢◌, ◌⊎◌, inl, inr, length, ap, sym, subst, ◌∙◌, arith}
use Rattle.std.proofs.lemmas.Bool.{cases_lt}
use Rattle.std.proofs.lemmas.List.{length-map}
use Rattle.queue_slots.specs.declared.entry.Slot.{Slot}
use Rattle.song_queue.specs.State.{QueueState, IsQueue, queue_of, edited, swapped}
use Rattle.song_queue.proofs.Swaps.{IsQueue-swapped, swapped-is, swapped-same, swap-either}
use Rattle.song_queue.specs.Fields.{state_in}
use Rattle.song_queue.proofs.queue.Queue.swap.Goals as goal

pub returns-then-a-b-clause-ok : goal.returns-then-a-b-clause-ok
returns-then-a-b-clause-ok c =
    let q : QueueState = state_in c.self.inside in
    let P : QueueState → Type 0 = λ x. x ≡ swapped x c.args.a c.args.b in
    subst P c.self.view_is (sym (swapped-same q c.self.invariant c.args.a c.args.b (omega arith) (omega arith) (omega arith)))

pub returns-clause-ok : goal.returns-clause-ok
returns-clause-ok c =
    let q : QueueState = state_in c.self.inside in
    let low = c.min.result in
    let high = c.max.result in
    let ne : c.args.a ≢ c.args.b = omega arith in
    let size : length (queue_of q) ≡ length q.slots = length-map q.slots (λ (s : Slot). s.entry) in
    let either : ((low ≡ c.args.a) × (high ≡ c.args.b)) ⊎ ((low ≡ c.args.b) × (high ≡ c.args.a)) = elim (cases_lt c.args.a c.args.b) [
      | inl less ↦ inl (omega arith, omega arith)
      | inr more ↦ inr (omega arith, omega arith)
    ] in
    let is = swapped-is q c.self.invariant low high (omega arith) (omega arith) c.version_after-version.result.0 c.version_after-version.result.1 _ c.version_after-version.ensures.next c.version_after-version.ensures.wraps (omega arith) c.exchange.ensures in
    is ∙ ap (edited q) (swap-either (queue_of q) c.args.a c.args.b low high (omega arith) (omega arith) ne either) ∙ ap (λ x. swapped x c.args.a c.args.b) c.self.view_is

pub invariant_of-self : goal.invariant_of-self
invariant_of-self c =
    subst IsQueue (ap (λ x. swapped x c.args.a c.args.b) c.self.view_is ∙ sym (returns-clause-ok c)) (IsQueue-swapped (state_in c.self.inside) c.self.invariant c.args.a c.args.b (omega arith) (omega arith))
