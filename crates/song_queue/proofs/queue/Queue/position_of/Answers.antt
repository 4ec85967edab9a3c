use Rattle.std.proofs.Common.{◌≡◌, ℕ, length, Some, None, ap, arith}
use Rattle.std.specs.Prelude.{Option, IfSome}
use Rattle.std.proofs.lemmas.List.{length-map}
use Rattle.queue_slots.specs.declared.entry.Slot.{Slot}
use Rattle.song_queue.specs.State.{QueueState, queue_of}
use Rattle.song_queue.specs.Fields.{state_in}
use Rattle.song_queue.proofs.queue.Queue.position_of.Goals as goal

some-more : (o : Option ℕ) (P Q : ℕ → Type 0) → ((n : ℕ) → P n → Q n) → IfSome o P → IfSome o Q
some-more (Some n) P Q more h = more n h
some-more None P Q more h = h

pub returns-clause-within : goal.returns-clause-within
returns-clause-within c =
    let q : QueueState = state_in c.self.inside in
    let long : length (queue_of q) ≡ length q.slots = length-map q.slots (λ (s : Slot). s.entry) in
    let all : length (queue_of q) ≡ length (queue_of c.args.self.now) = ap (λ x. length (queue_of x)) c.self.view_is in
    some-more c.position_of.result _ _ (λ n less. (let low = less.0 in omega arith, let high = less.1 in omega arith)) c.position_of.ensures.within
