-- A queue's state follows its past.
use Rattle.std.proofs.Common.{◌≡◌, ◌≢◌, ◌⊎◌, ℕ, suc, ◌+◌, ◌-◌, ◌%◌, ◌<◌, ◌≤◌, Bool, true, false, cond, ◌&&◌, ◌||◌, List, [], ◌∷◌, length, map, Some, None, refl, ap, sym, ◌∙◌, eqb, ltb, leb, inl, inr, arith}
use Rattle.std.specs.Prelude.{slice_get}
use Rattle.std.specs.List.{enumerate_from}
use Rattle.std.proofs.Math.Nat.{suc-mod, mod_self, mod-lt, mod-eq_of_lt, mod-le}
use Rattle.std.proofs.Math.Numerals.{add-one}
use Rattle.std.proofs.lemmas.Bool.{cond-true, cond-false, eq-eqb, ne_eqb, lt-ltb, le-leb, lt-leb, cases_eq, cases_Bool, and_from, and_right}
use Rattle.queue_slots.specs.declared.entry.Entry.{Entry}
use Rattle.queue_slots.specs.declared.entry.Slot.{Slot}
use Rattle.song_queue.specs.Entries.{same_entry, same_queue, same_slot}
use Rattle.song_queue.specs.Past.{number, is_odd, after_event, version_of, last_change, last_wrap, stamp, is_marked, slots_of, state_of}
use Rattle.song_queue.specs.State.{QueueState, restamped, kept, written, entries_of, queue_of, edited}
use Rattle.song_queue.proofs.Same.{same_entry-true}

-- the next number is the next in its round, or begins a round
pub mod-next : (n k : ℕ) → 0 < k → ((n % k + 1 ≡ k) × (suc n % k ≡ 0)) ⊎ ((n % k + 1 ≢ k) × (suc n % k ≡ n % k + 1))
mod-next n k above =
    let below : n % k < k = mod-lt n above in
    elim (cases_eq (n % k + 1) k) [
      | inl e ↦ inl (e, suc-mod n k ∙ ap (λ x. x % k) (sym (add-one (n % k)) ∙ e) ∙ mod_self k)
      | inr ne ↦ inr (ne, (let small : suc (n % k) < k = omega arith in suc-mod n k ∙ mod-eq_of_lt small ∙ sym (add-one (n % k))))
    ]

-- a slot last changed at a queue of the past
pub last_change-le : (past : List (List Entry)) (p : ℕ) → last_change past p ≤ number past
last_change-le [] p = omega arith
last_change-le (now ∷ []) p = omega arith
last_change-le (now ∷ before ∷ older) p =
    let rec : last_change (before ∷ older) p ≤ number (before ∷ older) = last_change-le (before ∷ older) p in
    elim (same_slot (slice_get before p) (slice_get now p)) as (λ t. cond t (last_change (before ∷ older) p) (length (before ∷ older)) ≤ number (now ∷ before ∷ older)) [
      | true ↦ omega arith
      | false ↦ omega arith
    ]

-- a change at number c is marked where versions began anew at l
abbrev marked_at : ℕ → ℕ → Bool
marked_at c l = ltb 0 l && leb c l

marked_at-kept : (n k c : ℕ) → 0 < k → c ≤ n → marked_at c (suc n - suc n % k) ≡ eqb (n % k + 1) k || marked_at c (n - n % k)
marked_at-kept n k c above low = elim (mod-next n k above) [
  | inl p ↦
      let zero' : suc n % k ≡ 0 = p.1 in
      let new : suc n - suc n % k ≡ suc n = omega arith in
      ap (λ l. marked_at c l) new ∙ and_from _ _ (lt-ltb 0 (suc n) (omega arith)) (le-leb c (suc n) (omega arith)) ∙ sym (ap (λ b. b || marked_at c (n - n % k)) (eq-eqb _ _ p.0))
  | inr p ↦
      let more : suc n % k ≡ n % k + 1 = p.1 in
      let fits : n % k ≤ n = mod-le n k in
      let same : suc n - suc n % k ≡ n - n % k = omega arith in
      ap (λ l. marked_at c l) same ∙ sym (ap (λ b. b || marked_at c (n - n % k)) (ne_eqb _ _ p.0))
]

marked_at-written : (n k : ℕ) → 0 < k → marked_at (suc n) (suc n - suc n % k) ≡ eqb (n % k + 1) k
marked_at-written n k above = elim (mod-next n k above) [
  | inl p ↦
      let zero' : suc n % k ≡ 0 = p.1 in
      let new : suc n - suc n % k ≡ suc n = omega arith in
      ap (λ l. marked_at (suc n) l) new ∙ and_from _ _ (lt-ltb 0 (suc n) (omega arith)) (le-leb (suc n) (suc n) (omega arith)) ∙ sym (eq-eqb _ _ p.0)
  | inr p ↦
      let more : suc n % k ≡ n % k + 1 = p.1 in
      let fits : n % k ≤ n = mod-le n k in
      let small : suc n - suc n % k < suc n = omega arith in
      and_right (ltb 0 (suc n - suc n % k)) _ (lt-leb (suc n) _ small) ∙ sym (ne_eqb _ _ p.0)
]

-- what a past makes of an entry at a slot
abbrev pub slot_of : ℕ → List (List Entry) → ℕ → Entry → Slot
slot_of max_version past p e = record { entry = e; stamp = stamp max_version past p; marked = is_marked max_version past p }

module _ (k : ℕ) (above : 0 < k) (before : List Entry) (older : List (List Entry)) (now : List Entry) where
  abbrev past : List (List Entry)
  past = before ∷ older

  abbrev next : List (List Entry)
  next = now ∷ before ∷ older

  abbrev v : ℕ
  v = version_of k (number past)

  abbrev w : Bool
  w = eqb v k

  abbrev v' : ℕ
  v' = cond w 1 (v + 1)

  pub version-next : version_of k (number next) ≡ v'
  version-next = elim (mod-next (number past) k above) [
    | inl p ↦ ap (λ x. x + 1) p.1 ∙ sym (cond-true w 1 (v + 1) (eq-eqb v k p.0))
    | inr p ↦ ap (λ x. x + 1) p.1 ∙ sym (cond-false w 1 (v + 1) (ne_eqb v k p.0))
  ]

  -- the slot stays
  pub slot_of-kept : (p : ℕ) (e : Entry) → same_slot (slice_get before p) (slice_get now p) ≡ true → slot_of k next p e ≡ kept w (slot_of k past p e)
  slot_of-kept p e same =
      let last : last_change next p ≡ last_change past p = cond-true _ _ _ same in
      let low : last_change past p ≤ number past = last_change-le past p in
      let marks : is_marked k next p ≡ w || is_marked k past p = ap (λ c. marked_at c (last_wrap k next)) last ∙ marked_at-kept (number past) k (last_change past p) above low in
      λ i. record { entry = e; stamp = version_of k (last i); marked = marks i }

  -- the slot changes
  pub slot_of-written : (p : ℕ) (e : Entry) → same_slot (slice_get before p) (slice_get now p) ≡ false → slot_of k next p e ≡ written v' w e
  slot_of-written p e other =
      let last : last_change next p ≡ number next = cond-false _ _ _ other in
      let marks : is_marked k next p ≡ w = ap (λ c. marked_at c (last_wrap k next)) last ∙ marked_at-written (number past) k above in
      λ i. record { entry = e; stamp = (ap (version_of k) last ∙ version-next) i; marked = marks i }

  -- slots from q on, whose entries were os and are es
  pub restamped-slots : (q : ℕ) (os es : List Entry) → ((i : ℕ) → slice_get os i ≡ slice_get before (q + i)) → ((i : ℕ) → slice_get es i ≡ slice_get now (q + i))
      → restamped v' w (map (λ (r : ℕ × Entry). slot_of k past r.0 r.1) (enumerate_from q os)) es ≡ map (λ (r : ℕ × Entry). slot_of k next r.0 r.1) (enumerate_from q es)
  restamped-slots q os [] f g = refl
  restamped-slots q [] (e ∷ es) f g =
      let old : slice_get before q ≡ None = ap (λ x. slice_get before x) (omega arith) ∙ sym (f 0) in
      let new : slice_get now q ≡ Some e = ap (λ x. slice_get now x) (omega arith) ∙ sym (g 0) in
      let other : same_slot (slice_get before q) (slice_get now q) ≡ false = ap (λ x. same_slot x (slice_get now q)) old ∙ ap (λ x. same_slot None x) new in
      λ i. sym (slot_of-written q e other) i ∷ restamped-slots (q + 1) [] es (λ j. f (suc j) ∙ ap (λ x. slice_get before x) (omega arith)) (λ j. g (suc j) ∙ ap (λ x. slice_get now x) (omega arith)) i
  restamped-slots q (o ∷ os) (e ∷ es) f g =
      let old : slice_get before q ≡ Some o = ap (λ x. slice_get before x) (omega arith) ∙ sym (f 0) in
      let new : slice_get now q ≡ Some e = ap (λ x. slice_get now x) (omega arith) ∙ sym (g 0) in
      let test : same_slot (slice_get before q) (slice_get now q) ≡ same_entry o e = ap (λ x. same_slot x (slice_get now q)) old ∙ ap (λ x. same_slot (Some o) x) new in
      let rest = restamped-slots (q + 1) os es (λ j. f (suc j) ∙ ap (λ x. slice_get before x) (omega arith)) (λ j. g (suc j) ∙ ap (λ x. slice_get now x) (omega arith)) in
      let first : cond (same_entry o e) (kept w (slot_of k past q o)) (written v' w e) ≡ slot_of k next q e = elim (cases_Bool (same_entry o e)) [
        | inl t ↦ cond-true _ _ _ t ∙ ap (λ x. kept w (slot_of k past q x)) (same_entry-true o e t) ∙ sym (slot_of-kept q e (test ∙ t))
        | inr t ↦ cond-false _ _ _ t ∙ sym (slot_of-written q e (test ∙ t))
      ] in
      λ i. first i ∷ rest i

  -- the slots after an edit are those of the longer past
  pub slots_of-next : slots_of k next ≡ restamped v' w (slots_of k past) now
  slots_of-next = sym (restamped-slots 0 before now (λ i. ap (λ x. slice_get before x) (omega arith)) (λ i. ap (λ x. slice_get now x) (omega arith)))

pub entries_of-slots_of : (k : ℕ) (queues : List (List Entry)) (q : ℕ) (es : List Entry) → entries_of (map (λ (r : ℕ × Entry). slot_of k queues r.0 r.1) (enumerate_from q es)) ≡ es
entries_of-slots_of k queues q [] = refl
entries_of-slots_of k queues q (e ∷ es) = λ i. e ∷ entries_of-slots_of k queues (q + 1) es i

-- the state at the end of a past, with a greatest id
abbrev pub state_with : ℕ → ℕ → ℕ → ℕ → List (List Entry) → QueueState
state_with max_len max_version max_id g past = record (state_of max_len max_version max_id past) { greatest_id = g }

-- an edit of the state at the end of a past gives the state at the end of the past with the queue that it
-- leaves
pub edited-state_with : (max_len k max_id g : ℕ) (past : List (List Entry)) (now : List Entry) → 0 < k → 0 < length past
    → edited (state_with max_len k max_id g past) now ≡ state_with max_len k max_id g (after_event past now)
edited-state_with max_len k max_id g [] now above some = absurd (omega arith)
edited-state_with max_len k max_id g (before ∷ older) now above some =
    let past : List (List Entry) = before ∷ older in
    let s : QueueState = state_with max_len k max_id g past in
    let here : queue_of s ≡ before = entries_of-slots_of k past 0 before in
    let test : same_queue (queue_of s) now ≡ same_queue before now = ap (λ x. same_queue x now) here in
    elim (cases_Bool (same_queue before now)) [
      | inl t ↦ cond-true _ _ _ (test ∙ t) ∙ sym (ap (λ x. state_with max_len k max_id g x) (cond-true _ _ _ t))
      | inr t ↦ cond-false _ _ _ (test ∙ t)
          ∙ (λ i. record { slots = sym (slots_of-next k above before older now) i; version = sym (version-next k above before older now) i; greatest_id = g; max_len = max_len; max_version = k; max_id = max_id; parity = is_odd (number (now ∷ past)) })
          ∙ sym (ap (λ x. state_with max_len k max_id g x) (cond-false _ _ _ t))
    ]
