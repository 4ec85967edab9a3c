use Rattle.std.proofs.Common.{◌≡◌, ℕ, ◌+◌, List, length, take, ap, sym, ◌∙◌, arith}
use Rattle.std.specs.List.{slice_range}
use Rattle.std.proofs.lemmas.List.{length-take}
use Rattle.queue_slots.specs.declared.entry.Slot.{Slot}
use Rattle.song_queue.specs.State.{QueueState, queue_of}
use Rattle.song_queue.specs.Fields.{state_in}
use Rattle.song_queue.proofs.Lists.{lent-part}
use Rattle.song_queue.proofs.queue.Queue.run.Goals as goal

pub returns-clause-part : goal.returns-clause-part
returns-clause-part c =
    let q : QueueState = state_in c.self.inside in
    let lent : List Slot = c.run-run.result.now in
    let count : ℕ = c.min-count.result in
    let from : ℕ = c.args.from in
    let long : length (take count lent) ≡ count = length-take count lent ∙ omega arith in
    lent-part (queue_of q) lent from count c.run-run.ensures.part (omega arith) ∙ ap (λ (n : ℕ). slice_range (queue_of q) from (from + n)) (sym long)
    ∙ ap (λ (x : QueueState). slice_range (queue_of x) from (from + length (take count lent))) c.self.view_is
