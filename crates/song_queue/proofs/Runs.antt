-- Whole runs of edits.
use Rattle.std.proofs.Common.{◌≡◌, ◌≢◌, ℕ, zero, suc, ◌+◌, ◌-◌, ◌%◌, ◌<◌, ◌≤◌, true, false, cond, List, [], ◌∷◌, ◌++◌, length, take, drop, min, max, refl, ap, sym, ◌∙◌, inl, inr, arith, length-append}
use Rattle.std.specs.Prelude.{All, swap}
use Rattle.std.proofs.lemmas.Bool.{cond-true, cond-false, cases_Bool, cases_lt}
use Rattle.std.proofs.lemmas.List.{length-take, length-drop}
use Rattle.std.proofs.lemmas.List.Elements.{All-append, All-take, All-drop}
use Rattle.std.proofs.Math.Nat.{mod-eq_of_lt}
use Rattle.queue_slots.specs.declared.entry.Entry.{Entry}
use Rattle.mpd_text.specs.Songs.Song.{SongData}
use Rattle.song_queue.specs.Entries.{entries_for, moved_to, with_priority, same_queue}
use Rattle.song_queue.specs.Shuffles.{shuffled}
use Rattle.song_queue.specs.Past.{present, after_event, greatest_in, greatest_id, state_of}
use Rattle.song_queue.specs.State.{QueueState, opened, edited, inserted, queue_of}
use Rattle.song_queue.specs.declared.edit.Edit.{Edit}
use Rattle.song_queue.specs.declared.edit.Edit.TheVariants.{Insert, Remove, Move, Prioritize, Swap, Shuffle}
use Rattle.song_queue.specs.Laws.{queue_after, past_after, state_after_edit, state_after, StatesFollowPasts}
use Rattle.song_queue.proofs.Edits.{AtMost, AtMost-more, length-entries_for}
use Rattle.song_queue.proofs.Swaps.{All-swap}
use Rattle.song_queue.proofs.Shuffles.{All-shuffled}
use Rattle.song_queue.proofs.Moves.{All-moved_to}
use Rattle.song_queue.proofs.Priorities.{All-with_priority}
use Rattle.song_queue.proofs.Pasts.{state_with, edited-state_with, entries_of-slots_of}
use Rattle.song_queue.proofs.Same.{same_queue-other}

pub greatest_in-append : (xs ys : List Entry) → greatest_in (xs ++ ys) ≡ max (greatest_in xs) (greatest_in ys)
greatest_in-append [] ys = omega arith
greatest_in-append (x ∷ xs) ys = let rec = greatest_in-append xs ys in omega arith

pub greatest_in-take : (n : ℕ) (xs : List Entry) → greatest_in (take n xs) ≤ greatest_in xs
greatest_in-take zero xs = omega arith
greatest_in-take (suc n) [] = omega arith
greatest_in-take (suc n) (x ∷ xs) = let rec = greatest_in-take n xs in omega arith

pub greatest_in-drop : (n : ℕ) (xs : List Entry) → greatest_in (drop n xs) ≤ greatest_in xs
greatest_in-drop zero xs = omega arith
greatest_in-drop (suc n) [] = omega arith
greatest_in-drop (suc n) (x ∷ xs) = let rec = greatest_in-drop n xs in omega arith

pub greatest_in-entries_for : (f : ℕ) (songs : List SongData) → 0 < length songs → greatest_in (entries_for f songs) + 1 ≡ f + length songs
greatest_in-entries_for f [] l = absurd (omega arith)
greatest_in-entries_for f (x ∷ []) l = omega arith
greatest_in-entries_for f (x ∷ y ∷ ys) l = let rec : greatest_in (entries_for (f + 1) (y ∷ ys)) + 1 ≡ f + 1 + length (y ∷ ys) = greatest_in-entries_for (f + 1) (y ∷ ys) (omega arith) in omega arith

AtMost-cons : (n : ℕ) (e : Entry) (es : List Entry) → e.id ≤ n → AtMost n es → AtMost n (e ∷ es)
AtMost-cons n e es here rest zero d l = here
AtMost-cons n e es here rest (suc k) d l = rest k d (omega arith)

pub AtMost-greatest_in : (es : List Entry) → AtMost (greatest_in es) es
AtMost-greatest_in [] = λ k d l. absurd (omega arith)
AtMost-greatest_in (e ∷ es) = AtMost-cons (greatest_in (e ∷ es)) e es (omega arith) (AtMost-more (greatest_in es) (greatest_in (e ∷ es)) es (omega arith) (AtMost-greatest_in es))

greatest_in-AtMost : (n : ℕ) (es : List Entry) → AtMost n es → greatest_in es ≤ n
greatest_in-AtMost n [] low = omega arith
greatest_in-AtMost n (e ∷ es) low =
    let here : e.id ≤ n = low 0 e (omega arith) in
    let rest : greatest_in es ≤ n = greatest_in-AtMost n es (λ k d l. low (suc k) d (omega arith)) in
    omega arith

-- the greatest id after an event that adds none
pub greatest_id-after_event : (past : List (List Entry)) (queue : List Entry) → greatest_in queue ≤ greatest_id past → greatest_id (after_event past queue) ≡ greatest_id past
greatest_id-after_event past queue low = elim (cases_Bool (same_queue (present past) queue)) [
  | inl t ↦ ap greatest_id (cond-true _ _ _ t)
  | inr t ↦ ap greatest_id (cond-false _ _ _ t) ∙ (let e : max (greatest_in queue) (greatest_id past) ≡ greatest_id past = omega arith in e)
]

pub greatest_in-present : (past : List (List Entry)) → greatest_in (present past) ≤ greatest_id past
greatest_in-present [] = omega arith
greatest_in-present (now ∷ older) = omega arith

greatest_id-inserted : (past : List (List Entry)) (at : ℕ) (songs : List SongData)
    → greatest_id past + length songs ≡ greatest_id (after_event past (take at (present past) ++ entries_for (greatest_id past + 1) songs ++ drop at (present past)))
greatest_id-inserted past at songs =
    let now : List Entry = present past in
    let g : ℕ = greatest_id past in
    let news : List Entry = entries_for (g + 1) songs in
    let new : List Entry = take at now ++ news ++ drop at now in
    let a : greatest_in (take at now) ≤ greatest_in now = greatest_in-take at now in
    let b : greatest_in (drop at now) ≤ greatest_in now = greatest_in-drop at now in
    let c : greatest_in new ≡ max (greatest_in (take at now ++ news)) (greatest_in (drop at now)) = greatest_in-append (take at now ++ news) (drop at now) in
    let c' : greatest_in (take at now ++ news) ≡ max (greatest_in (take at now)) (greatest_in news) = greatest_in-append (take at now) news in
    let d : greatest_in now ≤ g = greatest_in-present past in
    elim (cases_lt 0 (length songs)) [
      | inl many ↦
          let e : greatest_in news + 1 ≡ g + 1 + length songs = greatest_in-entries_for (g + 1) songs many in
          let l1 : length new ≡ length (take at now ++ news) + length (drop at now) = length-append (take at now ++ news) (drop at now) in
          let l2 : length (take at now ++ news) ≡ length (take at now) + length news = length-append (take at now) news in
          let l3 : length news ≡ length songs = length-entries_for (g + 1) songs in
          let l4 : length (take at now) ≡ min at (length now) = length-take at now in
          let l5 : length (drop at now) ≡ length now - at = length-drop at now in
          let differ : now ≢ new = λ same. let l6 : length now ≡ length new = ap length same in omega arith in
          let step : greatest_id (after_event past new) ≡ max (greatest_in new) g = ap greatest_id (cond-false _ _ _ (same_queue-other now new differ)) in
          omega arith
      | inr few ↦
          let e : greatest_in news ≡ 0 = none songs (g + 1) few in
          let step : greatest_id (after_event past new) ≡ g = greatest_id-after_event past new (omega arith) in
          omega arith
    ]
  where
    none : (ss : List SongData) (f : ℕ) → length ss ≤ 0 → greatest_in (entries_for f ss) ≡ 0
    none [] f l = refl
    none (x ∷ xs) f l = absurd (omega arith)

pub length-after_event : (past : List (List Entry)) (queue : List Entry) → 0 < length past → 0 < length (after_event past queue)
length-after_event past queue some = elim (same_queue (present past) queue) as (λ t. 0 < length (cond t past (queue ∷ past))) [ true ↦ some | false ↦ omega arith ]

module _ (max_len k max_id : ℕ) (above : 0 < k) where
  abbrev at_end : List (List Entry) → QueueState
  at_end past = state_of max_len k max_id past

  queue_of-at_end : (past : List (List Entry)) → queue_of (at_end past) ≡ present past
  queue_of-at_end past = entries_of-slots_of k past 0 (present past)

  -- an edit that adds no id
  pub edited-at_end : (past : List (List Entry)) (queue : List Entry) → 0 < length past → greatest_in queue ≤ greatest_id past → edited (at_end past) queue ≡ at_end (after_event past queue)
  edited-at_end past queue some low =
      edited-state_with max_len k max_id (greatest_id past) past queue above some ∙ ap (λ g. state_with max_len k max_id g (after_event past queue)) (sym (greatest_id-after_event past queue low))

  -- one that brings no entry in
  kept-at_end : (past : List (List Entry)) (left : List Entry → List Entry) → 0 < length past → ((P : ℕ → Type 0) → All (λ e. P e.id) (present past) → All (λ e. P e.id) (left (present past)))
      → edited (at_end past) (left (queue_of (at_end past))) ≡ at_end (after_event past (left (present past)))
  kept-at_end past left some keeps =
      let now : List Entry = present past in
      let low : greatest_in (left now) ≤ greatest_in now = greatest_in-AtMost (greatest_in now) (left now) (keeps (λ id. id ≤ greatest_in now) (AtMost-greatest_in now)) in
      let d : greatest_in now ≤ greatest_id past = greatest_in-present past in
      ap (λ x. edited (at_end past) (left x)) (queue_of-at_end past) ∙ edited-at_end past (left now) some (omega arith)

  pub inserted-at_end : (past : List (List Entry)) (at : ℕ) (songs : List SongData) → 0 < length past → inserted (at_end past) at songs ≡ at_end (after_event past (queue_after past (Insert at songs)))
  inserted-at_end past at songs some =
      let now : List Entry = present past in
      let g : ℕ = greatest_id past in
      let new : List Entry = take at now ++ entries_for (g + 1) songs ++ drop at now in
      let greatest : g + length songs ≡ greatest_id (after_event past new) = greatest_id-inserted past at songs in
      ap (λ (x : List Entry). record (edited (at_end past) (take at x ++ entries_for (g + 1) songs ++ drop at x)) { greatest_id = g + length songs }) (queue_of-at_end past)
      ∙ ap (λ (x : QueueState). record x { greatest_id = g + length songs }) (edited-state_with max_len k max_id g past new above some)
      ∙ ap (λ n. state_with max_len k max_id n (after_event past new)) greatest

  pub after_edit : (past : List (List Entry)) (edit : Edit) → 0 < length past → state_after_edit (at_end past) edit ≡ at_end (after_event past (queue_after past edit))
  after_edit past (Insert at songs) some = inserted-at_end past at songs some
  after_edit past (Remove start end) some = kept-at_end past (λ x. take start x ++ drop end x) some (λ P all. All-append (λ e. P e.id) _ _ (All-take (λ e. P e.id) start _ all) (All-drop (λ e. P e.id) end _ all))
  after_edit past (Move start end to) some = kept-at_end past (λ x. moved_to x start end to) some (λ P. All-moved_to (λ e. P e.id) (present past) start end to)
  after_edit past (Prioritize ranges priority) some = kept-at_end past (λ x. with_priority x ranges priority) some (λ P. All-with_priority P (present past) ranges priority)
  after_edit past (Swap a b) some = kept-at_end past (λ x. swap x a b) some (λ P. All-swap (λ e. P e.id) (present past) a b)
  after_edit past (Shuffle start end words) some = kept-at_end past (λ x. shuffled x start end words) some (λ P. All-shuffled (λ e. P e.id) (present past) start end words)

  pub after_edits : (past : List (List Entry)) (edits : List Edit) → 0 < length past → state_after (at_end past) edits ≡ at_end (past_after past edits)
  after_edits past [] some = refl
  after_edits past (edit ∷ edits) some =
      ap (λ x. state_after x edits) (after_edit past edit some) ∙ after_edits (after_event past (queue_after past edit)) edits (length-after_event past (queue_after past edit) some)

pub opened-is : (max_len k max_id : ℕ) → 1 ≤ k → opened max_len k max_id ≡ state_of max_len k max_id ([] ∷ [])
opened-is max_len k max_id above =
    let first : 1 ≡ 0 % k + 1 = ap (λ n. n + 1) (sym (mod-eq_of_lt above)) in
    λ i. record { slots = []; version = first i; greatest_id = 0; max_len = max_len; max_version = k; max_id = max_id; parity = false }

pub states_follow : StatesFollowPasts
states_follow max_len k max_id edits above = ap (λ x. state_after x edits) (opened-is max_len k max_id above) ∙ after_edits max_len k max_id above ([] ∷ []) edits (omega arith)
