-- Ids never return.
use Rattle.std.proofs.Common.{◌≡◌, ◌≢◌, ℕ, ◌+◌, ◌<◌, ◌≤◌, true, false, cond, List, [], ◌∷◌, ◌++◌, length, take, drop, get_or, ap, sym, subst, ◌∙◌, inl, inr, arith, append_assoc}
use Rattle.std.proofs.lemmas.Bool.{cond-true, cond-false, cases_Bool}
use Rattle.std.proofs.lemmas.List.Elements.{All-append, All-take, All-drop}
use Rattle.queue_slots.specs.declared.entry.Entry.{Entry}
use Rattle.mpd_text.specs.Songs.Song.{SongData}
use Rattle.song_queue.specs.Entries.{entries_for, same_queue}
use Rattle.song_queue.specs.Past.{present, after_event, greatest_in, greatest_id}
use Rattle.song_queue.specs.declared.edit.Edit.{Edit}
use Rattle.song_queue.specs.declared.edit.Edit.TheVariants.{Insert, Remove, Move, Prioritize, Swap, Shuffle}
use Rattle.song_queue.specs.Laws.{FitsIn, AllFitIn, queue_after, past_after, Lacks, IdsNeverReturn, IdsAreDistinct, PastsKeepQueues}
use Rattle.song_queue.proofs.Same.{same_queue-true}
use Rattle.song_queue.proofs.Edits.{Distinct, AtMost-more, Distinct-put, Distinct-cut, length-entries_for, get_or-entries_for}
use Rattle.song_queue.proofs.Swaps.{All-swap, Distinct-swap}
use Rattle.song_queue.proofs.Shuffles.{All-shuffled, Distinct-shuffled}
use Rattle.song_queue.proofs.Moves.{All-moved_to, Distinct-moved_to}
use Rattle.song_queue.proofs.Priorities.{All-with_priority, Distinct-with_priority}
use Rattle.song_queue.proofs.Pasts.{entries_of-slots_of}
use Rattle.song_queue.proofs.Runs.{length-after_event, AtMost-greatest_in, greatest_in-present, opened-is}

pub present-after_event : (past : List (List Entry)) (queue : List Entry) → present (after_event past queue) ≡ queue
present-after_event past queue = elim (cases_Bool (same_queue (present past) queue)) [
  | inl t ↦ ap present (cond-true _ _ _ t) ∙ same_queue-true (present past) queue t
  | inr t ↦ ap present (cond-false _ _ _ t)
]

greatest_id-grows : (past : List (List Entry)) (queue : List Entry) → greatest_id past ≤ greatest_id (after_event past queue)
greatest_id-grows past queue = elim (same_queue (present past) queue) as (λ t. greatest_id past ≤ greatest_id (cond t past (queue ∷ past))) [ true ↦ omega arith | false ↦ omega arith ]

Lacks-entries_for : (f : ℕ) (songs : List SongData) (id : ℕ) → id < f → Lacks id (entries_for f songs)
Lacks-entries_for f songs id below k d l same =
    let size : length (entries_for f songs) ≡ length songs = length-entries_for f songs in
    let one : (get_or (entries_for f songs) k d).id ≡ f + k = get_or-entries_for f songs k d (omega arith) in
    omega arith

Lacks-queue_after : (past : List (List Entry)) (edit : Edit) (id : ℕ) → id ≤ greatest_id past → Lacks id (present past) → Lacks id (queue_after past edit)
Lacks-queue_after past (Insert at songs) id given lacks =
    let P : Entry → Type 0 = λ e. e.id ≢ id in
    let now : List Entry = present past in
    let news : List Entry = entries_for (greatest_id past + 1) songs in
    All-append P (take at now ++ news) (drop at now)
    (All-append P (take at now) news (All-take P at now lacks) (Lacks-entries_for (greatest_id past + 1) songs id (omega arith)))
    (All-drop P at now lacks)
Lacks-queue_after past (Remove start end) id given lacks =
    let P : Entry → Type 0 = λ e. e.id ≢ id in
    All-append P (take start (present past)) (drop end (present past)) (All-take P start (present past) lacks) (All-drop P end (present past) lacks)
Lacks-queue_after past (Move start end to) id given lacks = All-moved_to (λ e. e.id ≢ id) (present past) start end to lacks
Lacks-queue_after past (Prioritize ranges priority) id given lacks = All-with_priority (λ n. n ≢ id) (present past) ranges priority lacks
Lacks-queue_after past (Swap a b) id given lacks = All-swap (λ e. e.id ≢ id) (present past) a b lacks
Lacks-queue_after past (Shuffle start end words) id given lacks = All-shuffled (λ e. e.id ≢ id) (present past) start end words lacks

pub ids_never_return : IdsNeverReturn
ids_never_return past [] id some given lacks = lacks
ids_never_return past (edit ∷ edits) id some given lacks =
    let queue : List Entry = queue_after past edit in
    let more : greatest_id past ≤ greatest_id (after_event past queue) = greatest_id-grows past queue in
    ids_never_return (after_event past queue) edits id (length-after_event past queue some) (omega arith)
    (subst (Lacks id) (sym (present-after_event past queue)) (Lacks-queue_after past edit id given lacks))

Distinct-queue_after : (past : List (List Entry)) (edit : Edit) → FitsIn (present past) edit → Distinct (present past) → Distinct (queue_after past edit)
Distinct-queue_after past (Insert at songs) fits distinct =
    let now : List Entry = present past in
    let news : List Entry = entries_for (greatest_id past + 1) songs in
    subst Distinct (sym (append_assoc (take at now) news (drop at now)))
    (Distinct-put now (greatest_id past) at songs distinct (AtMost-more (greatest_in now) (greatest_id past) now (greatest_in-present past) (AtMost-greatest_in now)) fits)
Distinct-queue_after past (Remove start end) fits distinct = Distinct-cut (present past) start end distinct fits.0 fits.1
Distinct-queue_after past (Move start end to) fits distinct = Distinct-moved_to (present past) start end to fits.0 distinct
Distinct-queue_after past (Prioritize ranges priority) fits distinct = Distinct-with_priority (present past) ranges priority distinct
Distinct-queue_after past (Swap a b) fits distinct = Distinct-swap (present past) a b fits.0 fits.1 distinct
Distinct-queue_after past (Shuffle start end words) fits distinct = Distinct-shuffled (present past) start end words fits.1 distinct

distinct_after : (past : List (List Entry)) (edits : List Edit) → AllFitIn past edits → Distinct (present past) → Distinct (present (past_after past edits))
distinct_after past [] fit distinct = distinct
distinct_after past (edit ∷ edits) fit distinct =
    let queue : List Entry = queue_after past edit in
    distinct_after (after_event past queue) edits fit.1 (subst Distinct (sym (present-after_event past queue)) (Distinct-queue_after past edit fit.0 distinct))

pub ids_are_distinct : IdsAreDistinct
ids_are_distinct edits fit = distinct_after ([] ∷ []) edits fit (λ i j d below within. absurd (omega arith))

pub pasts_keep_queues : PastsKeepQueues
pasts_keep_queues = record {
  ends = present-after_event;
  stays = length-after_event;
  shows = λ max_len max_version max_id past. entries_of-slots_of max_version past 0 (present past);
  begins = opened-is;
}
