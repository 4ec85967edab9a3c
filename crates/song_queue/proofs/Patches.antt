-- A client that knows an earlier queue and applies the changed slots has the present one.
use Rattle.std.proofs.Common.{◌≡◌, ℕ, suc, ◌+◌, ◌%◌, ◌<◌, ◌≤◌, Bool, true, false, ◌||◌, List, [], ◌∷◌, ◌++◌, length, map, take, Some, None, refl, ap, sym, ◌∙◌, eqb, ltb, inl, inr, arith, append_assoc, length-append}
use Rattle.std.specs.Prelude.{slice_get, filter, fold}
use Rattle.std.specs.List.{enumerate_from}
use Rattle.std.proofs.Math.Nat.{mod-eq_of_lt}
use Rattle.std.proofs.lemmas.Option.{same_Some}
use Rattle.std.proofs.lemmas.List.{append-nil, set_at, take_at, length_push}
use Rattle.std.proofs.lemmas.Bool.{cond-true, cond-false, eq-eqb, ne_eqb, ltb-false, or_parts, cases_Bool}
use Rattle.queue_slots.specs.declared.entry.Entry.{Entry}
use Rattle.queue_slots.specs.declared.entry.Slot.{Slot}
use Rattle.song_queue.specs.Entries.{same_slot, patch, patch_row, rows_at}
use Rattle.song_queue.specs.Past.{present, number, version_of, last_change, stamp, is_marked, state_of}
use Rattle.song_queue.specs.State.{QueueState, queue_of, is_changed, changed}
use Rattle.song_queue.specs.Laws.{PatchesEarlier}
use Rattle.song_queue.proofs.Edits.{rows-changed}
use Rattle.song_queue.proofs.Same.{same_slot-true}
use Rattle.song_queue.proofs.Pasts.{slot_of, last_change-le}

-- a slot that has not changed since a queue holds what it held then
pub present-since : (newer older : List (List Entry)) (then : List Entry) (p : ℕ) → last_change (newer ++ then ∷ older) p ≤ length older → slice_get (present (newer ++ then ∷ older)) p ≡ slice_get then p
present-since [] older then p h = refl
present-since (now ∷ []) older then p h = elim (cases_Bool (same_slot (slice_get then p) (slice_get now p))) [
  | inl t ↦ sym (same_slot-true _ _ t)
  | inr t ↦
      let last : last_change (now ∷ then ∷ older) p ≡ suc (length older) = cond-false _ _ _ t in
      absurd (omega arith)
]
present-since (now ∷ before ∷ newer) older then p h = elim (cases_Bool (same_slot (slice_get before p) (slice_get now p))) [
  | inl t ↦
      let last : last_change (now ∷ before ∷ newer ++ then ∷ older) p ≡ last_change (before ∷ newer ++ then ∷ older) p = cond-true _ _ _ t in
      sym (same_slot-true _ _ t) ∙ present-since (before ∷ newer) older then p (omega arith)
  | inr t ↦
      let last : last_change (now ∷ before ∷ newer ++ then ∷ older) p ≡ length (before ∷ newer ++ then ∷ older) = cond-false _ _ _ t in
      let long : length (newer ++ then ∷ older) ≡ length newer + suc (length older) = length-append newer (then ∷ older) in
      absurd (omega arith)
]

-- a row at the end of what is done: what is left of the client's queue after it
patched : (q : ℕ) (e : Entry) (done rest : List Entry) → length done ≡ q
    → (left : List Entry) × (patch_row (done ++ rest) (q, e) ≡ (done ++ e ∷ []) ++ left) × ((i : ℕ) → slice_get left i ≡ slice_get rest (suc i))
patched q e done [] n =
    let at_end : eqb q (length (done ++ [])) ≡ true = eq-eqb _ _ (sym n ∙ ap length (sym (append-nil done))) in
    ([], cond-true _ _ _ at_end ∙ ap (λ x. x ++ e ∷ []) (append-nil done) ∙ sym (append-nil (done ++ e ∷ [])), λ i. refl)
patched q e done (r ∷ rs) n =
    let long : length (done ++ r ∷ rs) ≡ length done + suc (length rs) = length-append done (r ∷ rs) in
    let inside : eqb q (length (done ++ r ∷ rs)) ≡ false = ne_eqb _ _ (λ x. omega arith) in
    (rs, cond-false _ _ _ inside ∙ set_at done r rs e q n ∙ sym (append_assoc done (e ∷ []) rs), λ i. refl)

-- a slot that is not shown, and holds the same
unpatched : (e : Entry) (done rest : List Entry) → Some e ≡ slice_get rest 0 → (left : List Entry) × (done ++ rest ≡ (done ++ e ∷ []) ++ left) × ((i : ℕ) → slice_get left i ≡ slice_get rest (suc i))
unpatched e done [] same = absurd (let h : Some e ≡ None = same in cc)
unpatched e done (r ∷ rs) same = (rs, ap (λ x. done ++ x ∷ rs) (sym (same_Some e r same)) ∙ sym (append_assoc done (e ∷ []) rs), λ i. refl)

module _ (k : ℕ) (past : List (List Entry)) (s : QueueState) (v : ℕ) where
  -- the rows for the slots from q on
  abbrev rows : ℕ → List Entry → List (ℕ × Entry)
  rows q es = map (λ (p : ℕ × Slot). (p.0, p.1.entry)) (filter (λ (p : ℕ × Slot). is_changed s v p.1) (enumerate_from q (map (λ (r : ℕ × Entry). slot_of k past r.0 r.1) (enumerate_from q es))))

  -- whether a slot is shown
  abbrev shown : ℕ → Bool
  shown p = is_marked k past p || ltb v (stamp k past p) || ltb s.version v

  pub rows-true : (q : ℕ) (e : Entry) (es : List Entry) → shown q ≡ true → rows q (e ∷ es) ≡ (q, e) ∷ rows (q + 1) es
  rows-true q e es t = rw t refl

  pub rows-false : (q : ℕ) (e : Entry) (es : List Entry) → shown q ≡ false → rows q (e ∷ es) ≡ rows (q + 1) es
  rows-false q e es t = rw t refl

  pub patch-rows : (q : ℕ) (done es rest : List Entry) → length done ≡ q → ((i : ℕ) → i < length es → shown (q + i) ≡ false → slice_get es i ≡ slice_get rest i)
      → (tail : List Entry) × (fold patch_row (done ++ rest) (rows q es) ≡ done ++ (es ++ tail))
  patch-rows q done [] rest n h = (rest, refl)
  patch-rows q done (e ∷ es) rest n h =
      let more : length (done ++ e ∷ []) ≡ q + 1 = length_push done e ∙ ap (λ x. x + 1) n in
      elim (cases_Bool (shown q)) [
        | inl t ↦
            let next = patched q e done rest n in
            let rec = patch-rows (q + 1) (done ++ e ∷ []) es next.0 more (λ i l f. h (suc i) (omega arith) (ap shown (omega arith) ∙ f) ∙ sym (next.2 i)) in
            (rec.0, ap (λ x. fold patch_row (done ++ rest) x) (rows-true q e es t) ∙ ap (λ x. fold patch_row x (rows (q + 1) es)) next.1 ∙ rec.1 ∙ append_assoc done (e ∷ []) (es ++ rec.0))
        | inr t ↦
            let next = unpatched e done rest (h 0 (omega arith) (ap shown (omega arith) ∙ t)) in
            let rec = patch-rows (q + 1) (done ++ e ∷ []) es next.0 more (λ i l f. h (suc i) (omega arith) (ap shown (omega arith) ∙ f) ∙ sym (next.2 i)) in
            (rec.0, ap (λ x. fold patch_row (done ++ rest) x) (rows-false q e es t) ∙ ap (λ x. fold patch_row x (rows (q + 1) es)) next.1 ∙ rec.1 ∙ append_assoc done (e ∷ []) (es ++ rec.0))
      ]

number-append : (newer older : List (List Entry)) (then : List Entry) → length older ≤ number (newer ++ then ∷ older)
number-append [] older then = omega arith
number-append (now ∷ newer) older then = let long : length (newer ++ then ∷ older) ≡ length newer + suc (length older) = length-append newer (then ∷ older) in omega arith

-- what the patch of an earlier queue gives, while versions have not begun anew
pub patch-changed : (max_len k max_id : ℕ) (newer older : List (List Entry)) (then : List Entry)
    → let past = newer ++ then ∷ older in
    let s = state_of max_len k max_id past in
    number past < k → patch then (changed s (version_of k (number (then ∷ older)))) (length (present past)) ≡ present past
patch-changed max_len k max_id newer older then few =
    let past : List (List Entry) = newer ++ then ∷ older in
    let s : QueueState = state_of max_len k max_id past in
    let v : ℕ = version_of k (length older) in
    let unchanged : (i : ℕ) → i < length (present past) → shown k past s v (0 + i) ≡ false → slice_get (present past) i ≡ slice_get then i = λ i l f.
    let hidden : shown k past s v i ≡ false = ap (shown k past s v) (omega arith) ∙ f in
    let low : ltb v (stamp k past i) ≡ false = (or_parts (is_marked k past i) _ (or_parts (is_marked k past i || ltb v (stamp k past i)) _ hidden).0).1 in
    let below : stamp k past i ≤ v = ltb-false v _ low in
    let last : last_change past i ≤ number past = last_change-le past i in
    let then_number : length older ≤ number past = number-append newer older then in
    let one : last_change past i < k = omega arith in
    let two : length older < k = omega arith in
    let three : last_change past i % k ≡ last_change past i = mod-eq_of_lt one in
    let four : length older % k ≡ length older = mod-eq_of_lt two in
    present-since newer older then i (omega arith)
    in
    let done = patch-rows k past s v 0 [] (present past) then refl unchanged in
    ap (λ x. take (length (present past)) x) done.1 ∙ take_at (present past) done.0 _ refl

-- the same of the positions that a queue answers
pub patches-earlier : (q : QueueState) (version : ℕ) (positions : List ℕ) → positions ≡ map (λ (p : ℕ × Entry). p.0) (changed q version) → PatchesEarlier q version positions
patches-earlier q version positions are newer older known is few asked =
    let past : List (List Entry) = newer ++ known ∷ older in
    let rows : rows_at (queue_of q) positions ≡ changed (state_of q.max_len q.max_version q.max_id past) (version_of q.max_version (number (known ∷ older))) =
    ap (λ x. rows_at (queue_of q) x) are ∙ rows-changed q version ∙ (λ i. changed (is i) (asked i)) in
    ap (λ x. patch known x (length (present past))) rows ∙ patch-changed q.max_len q.max_version q.max_id newer older known few
