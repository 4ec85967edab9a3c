use Rattle.std.proofs.Common.{◌≡◌, ◌≢◌, List, refl, ap, sym, subst, ◌∙◌}
use Rattle.std.proofs.lemmas.Bool.{iff_false}
use Rattle.queue_slots.specs.declared.entry.Entry.{Entry}
use Rattle.song_queue.specs.Entries.{with_priority}
use Rattle.song_queue.specs.Fields.{state_in}
use Rattle.song_queue.specs.State.{QueueState, IsQueue, queue_of, prioritized}
use Rattle.song_queue.proofs.Edits.{edited-is}
use Rattle.song_queue.proofs.Priorities.{prioritized-same, IsQueue-prioritized}
use Rattle.song_queue.proofs.queue.Queue.set_prio.Goals as goal

pub returns-then-have_priority-clause-ok : goal.returns-then-have_priority-clause-ok
returns-then-have_priority-clause-ok c =
    let q : QueueState = state_in c.self.inside in
    let P : QueueState → Type 0 = λ x. x ≡ prioritized x c.args.ranges.now c.args.priority in
    subst P c.self.view_is (prioritized-same q c.args.ranges.now c.args.priority (c.have_priority.ensures.0 c.if-have_priority.true))

pub returns-clause-ok : goal.returns-clause-ok
returns-clause-ok c =
    let q : QueueState = state_in c.self.inside in
    let left : List Entry → List Entry = λ es. with_priority es c.args.ranges.now c.args.priority in
    let other : queue_of q ≢ left (queue_of q) = λ same. iff_false c.have_priority.ensures c.if-have_priority.false same in
    let is = edited-is q left c.version_after-version.result.0 c.version_after-version.result.1 q.slots _ c.version_after-version.ensures.next c.version_after-version.ensures.wraps
    refl other c.prioritize.ensures in
    is ∙ ap (λ x. prioritized x c.args.ranges.now c.args.priority) c.self.view_is

pub invariant_of-self : goal.invariant_of-self
invariant_of-self c =
    subst IsQueue (ap (λ x. prioritized x c.args.ranges.now c.args.priority) c.self.view_is ∙ sym (returns-clause-ok c)) (IsQueue-prioritized (state_in c.self.inside) c.self.invariant c.args.ranges.now c.args.priority)
