-- Songs that are put into a queue, and the ids of their entries.
use Rattle.std.proofs.Common.{◌≡◌, inl, inr, ℕ, ◌+◌, ◌-◌, ◌≤◌, List, ◌++◌, length, take, drop, ap, ◌∙◌, arith, length-append, length-drop, append_assoc}
use Rattle.std.specs.List.{slice_range}
use Rattle.std.proofs.lemmas.List.{take_at, drop_at, length-take-le, length-map}
use Rattle.mpd_text.specs.Songs.Song.{SongData}
use Rattle.song_queue.specs.declared.entry.Entry.{Entry}
use Rattle.song_queue.specs.Entries.{entries_for}
use Rattle.song_queue.specs.State.{QueueState, queue_of, edited, inserted, next_version, wraps}
use Rattle.song_queue.proofs.Edits.{edited_cases, entries_of-restamped, length-entries_for}
use Rattle.play_order.specs.Draws.{ids_of}
use Rattle.play_order.specs.Order.{ids_taken, new_ids}

pub queue_of-edited : (q : QueueState) (es : List Entry) → queue_of (edited q es) ≡ es
queue_of-edited q es = elim (edited_cases q es) [
  | inl t ↦ ap queue_of t.0 ∙ t.1
  | inr t ↦ ap queue_of t ∙ entries_of-restamped (next_version q) (wraps q) q.slots es
]

middle : (xs ys zs : List Entry) (at n : ℕ) → length xs ≡ at → length ys ≡ n → slice_range (xs ++ (ys ++ zs)) at (at + n) ≡ ys
middle xs ys zs at n h k =
    let size : at + n - at ≡ n = omega arith in
    ap (λ (m : ℕ). take m (drop at (xs ++ (ys ++ zs)))) size ∙ ap (take n) (drop_at xs (ys ++ zs) at h) ∙ take_at ys zs n k

-- the queue after songs are put in
queue-inserted : (q : QueueState) (at : ℕ) (songs : List SongData) → queue_of (inserted q at songs) ≡ take at (queue_of q) ++ (entries_for (q.greatest_id + 1) songs ++ drop at (queue_of q))
queue-inserted q at songs = queue_of-edited q (take at (queue_of q) ++ entries_for (q.greatest_id + 1) songs ++ drop at (queue_of q)) ∙ simp append_assoc

pub ids-inserted : (q : QueueState) (at : ℕ) (songs : List SongData) → at ≤ length (queue_of q) → ids_taken (queue_of (inserted q at songs)) at (at + length songs) ≡ new_ids q songs
ids-inserted q at songs h =
    let new : List Entry = entries_for (q.greatest_id + 1) songs in
    ap (λ (es : List Entry). ids_taken es at (at + length songs)) (queue-inserted q at songs)
    ∙ ap ids_of (middle (take at (queue_of q)) new (drop at (queue_of q)) at (length songs) (length-take-le at (queue_of q) h) (length-entries_for (q.greatest_id + 1) songs))

pub length-inserted : (q : QueueState) (at : ℕ) (songs : List SongData) → at ≤ length (queue_of q) → length (queue_of (inserted q at songs)) ≡ length (queue_of q) + length songs
length-inserted q at songs h =
    let new : List Entry = entries_for (q.greatest_id + 1) songs in
    let whole = ap length (queue-inserted q at songs) in
    let outer = length-append (take at (queue_of q)) (new ++ drop at (queue_of q)) in
    let inner = length-append new (drop at (queue_of q)) in
    let front = length-take-le at (queue_of q) h in
    let back = length-drop at (queue_of q) in
    let some = length-entries_for (q.greatest_id + 1) songs in
    omega (arith, whole, outer, inner, front, back, some)

pub length-new_ids : (q : QueueState) (songs : List SongData) → length (new_ids q songs) ≡ length songs
length-new_ids q songs = length-map (entries_for (q.greatest_id + 1) songs) (λ (e : Entry). e.id) ∙ length-entries_for (q.greatest_id + 1) songs
