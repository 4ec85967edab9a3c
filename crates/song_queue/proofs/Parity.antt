-- The parity tells changes.
use Rattle.std.proofs.Common.{◌≡◌, ◌+◌, Bool, true, false, not, List, ◌++◌, take, drop, refl, ap, sym, ◌∙◌, inl, inr}
use Rattle.std.specs.Prelude.{swap}
use Rattle.std.proofs.lemmas.Bool.{cond-true, cond-false, cases_Bool}
use Rattle.queue_slots.specs.declared.entry.Entry.{Entry}
use Rattle.song_queue.specs.Entries.{same_queue, entries_for, moved_to, with_priority}
use Rattle.song_queue.specs.Shuffles.{shuffled}
use Rattle.song_queue.specs.State.{QueueState, queue_of, edited, wraps, next_version, differ}
use Rattle.song_queue.specs.declared.edit.Edit.TheVariants.{Insert, Remove, Move, Prioritize, Swap, Shuffle}
use Rattle.song_queue.specs.Laws.{ParityTellsChanges}
use Rattle.song_queue.proofs.Same.{same_queue-refl}
use Rattle.song_queue.proofs.Edits.{stepped, entries_of-restamped}

differ-self : (b : Bool) → differ b b ≡ false
differ-self true = refl
differ-self false = refl

differ-not : (b : Bool) → differ b (not b) ≡ true
differ-not true = refl
differ-not false = refl

pub edited_tells : (q : QueueState) (es : List Entry) → not (same_queue (queue_of q) (queue_of (edited q es))) ≡ differ q.parity (edited q es).parity
edited_tells q es =
    let changes : QueueState → Bool = λ x. not (same_queue (queue_of q) (queue_of x)) in
    let flips : QueueState → Bool = λ x. differ q.parity x.parity in
    elim (cases_Bool (same_queue (queue_of q) es)) [
      | inl t ↦
          let stays : edited q es ≡ q = cond-true _ _ _ t in
          ap changes stays ∙ ap not (same_queue-refl (queue_of q)) ∙ sym (differ-self q.parity) ∙ sym (ap flips stays)
      | inr t ↦
          let steps : edited q es ≡ stepped q es = cond-false _ _ _ t in
          ap changes steps ∙ ap (λ x. not (same_queue (queue_of q) x)) (entries_of-restamped (next_version q) (wraps q) q.slots es) ∙ ap not t ∙ sym (differ-not q.parity) ∙ sym (ap flips steps)
    ]

pub parity_tells_changes : ParityTellsChanges
parity_tells_changes q (Insert at songs) = edited_tells q (take at (queue_of q) ++ entries_for (q.greatest_id + 1) songs ++ drop at (queue_of q))
parity_tells_changes q (Remove start end) = edited_tells q (take start (queue_of q) ++ drop end (queue_of q))
parity_tells_changes q (Move start end to) = edited_tells q (moved_to (queue_of q) start end to)
parity_tells_changes q (Prioritize ranges priority) = edited_tells q (with_priority (queue_of q) ranges priority)
parity_tells_changes q (Swap a b) = edited_tells q (swap (queue_of q) a b)
parity_tells_changes q (Shuffle start end words) = edited_tells q (shuffled (queue_of q) start end words)
