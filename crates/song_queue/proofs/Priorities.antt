-- Entries that get a priority.
use Rattle.std.proofs.Common.{◌≡◌, ℕ, zero, suc, ◌+◌, ◌-◌, ◌<◌, ◌≤◌, Bool, true, false, cond, ◌&&◌, ◌||◌, List, [], ◌∷◌, ◌++◌, length, map, take, drop, get_or, refl, ap, sym, subst, ◌∙◌, inl, inr, eqb, ltb, leb, arith}
use Rattle.std.specs.Prelude.{All}
use Rattle.std.specs.List.{enumerate_from, slice_range}
use Rattle.std.specs.declared.ops.Range.{Range}
use Rattle.std.proofs.lemmas.Bool.{cond-true, cond-false, cases_Bool, eq-eqb, le-leb, lt-leb, lt-ltb, le-ltb, and_from, and_left, and_right, and_parts, or_from, or_left, or_cases, leb-true, ltb-true}
use Rattle.std.proofs.lemmas.List.{length-take-le, length-map, map-id, get_or-map}
use Rattle.std.proofs.lemmas.List.Edits.{length-between, get_or-between, split_between}
use Rattle.std.proofs.lemmas.List.Folds.{list_any-append, list_any_more, list_any_at}
use Rattle.queue_slots.specs.declared.entry.Entry.{Entry}
use Rattle.queue_slots.specs.declared.entry.Slot.{Slot}
use Rattle.song_queue.specs.Entries.{same_entry, is_named, with_priority}
use Rattle.song_queue.specs.State.{QueueState, IsQueue, restamped, kept, written, entries_of, queue_of, prioritized, prioritized_slot}
use Rattle.song_queue.proofs.Same.{same_entry-refl, same_song-refl}
use Rattle.song_queue.proofs.Edits.{Distinct, IsQueue-stays, edited-same}

-- where a name of a position decides which of two values it has
abbrev pub named : {X : Type 0} → (X → X) → List (Range ℕ) → ℕ → List X → List X
named {X} f ranges n xs = map (λ (p : ℕ × X). cond (is_named ranges p.0) (f p.1) p.1) (enumerate_from n xs)

pub length-named : {X : Type 0} (f : X → X) (ranges : List (Range ℕ)) (n : ℕ) (xs : List X) → length (named f ranges n xs) ≡ length xs
length-named f ranges n [] = refl
length-named f ranges n (x ∷ xs) = ap suc (length-named f ranges (n + 1) xs)

pub get_or-named : {X : Type 0} (f : X → X) (ranges : List (Range ℕ)) (n : ℕ) (xs : List X) (k : ℕ) (d : X) → k < length xs → get_or (named f ranges n xs) k d ≡ cond (is_named ranges (n + k)) (f (get_or xs k d)) (get_or xs k d)
get_or-named f ranges n [] k d l = absurd (omega arith)
get_or-named f ranges n (x ∷ xs) zero d l = let e : n ≡ n + 0 = omega arith in ap (λ m. cond (is_named ranges m) (f x) x) e
get_or-named f ranges n (x ∷ xs) (suc k) d l =
    let e : n + 1 + k ≡ n + suc k = omega arith in
    get_or-named f ranges (n + 1) xs k d (omega arith) ∙ ap (λ m. cond (is_named ranges m) (f (get_or xs k d)) (get_or xs k d)) e

abbrev pub given : ℕ → Entry → Entry
given priority e = record e { priority = priority }

-- ids stay
pub id-named : (priority : ℕ) (ranges : List (Range ℕ)) (n : ℕ) (es : List Entry) (k : ℕ) (d : Entry) → (get_or (named (given priority) ranges n es) k d).id ≡ (get_or es k d).id
id-named priority ranges n [] k d = refl
id-named priority ranges n (e ∷ es) zero d = elim (is_named ranges n) as (λ b. (cond b (given priority e) e).id ≡ e.id) [ true ↦ refl | false ↦ refl ]
id-named priority ranges n (e ∷ es) (suc k) d = id-named priority ranges (n + 1) es k d

pub All-with_priority : (P : ℕ → Type 0) (es : List Entry) (ranges : List (Range ℕ)) (priority : ℕ) → All (λ e. P e.id) es → All (λ e. P e.id) (with_priority es ranges priority)
All-with_priority P es ranges priority all k d l =
    let size : length (with_priority es ranges priority) ≡ length es = length-named (given priority) ranges 0 es in
    subst P (sym (id-named priority ranges 0 es k d)) (all k d (omega arith))

pub Distinct-with_priority : (es : List Entry) (ranges : List (Range ℕ)) (priority : ℕ) → Distinct es → Distinct (with_priority es ranges priority)
Distinct-with_priority es ranges priority distinct i j d below within same =
    let size : length (with_priority es ranges priority) ≡ length es = length-named (given priority) ranges 0 es in
    distinct i j d below (omega arith) (sym (id-named priority ranges 0 es i d) ∙ same ∙ id-named priority ranges 0 es j d)

same_entry-given : (e : Entry) (priority : ℕ) → same_entry e (given priority e) ≡ eqb e.priority priority
same_entry-given e priority = (λ i. (eq-eqb e.id e.id refl i && eqb e.priority priority) && same_song-refl e.song i) ∙ left (eqb e.priority priority)
  where
    left : (b : Bool) → (true && b) && true ≡ b
    left true = refl
    left false = refl

-- the slots that the code leaves hold the entries with their priority, written where they are others
pub named-restamped : (v : ℕ) (w : Bool) (priority : ℕ) (ranges : List (Range ℕ)) (n : ℕ) (ss : List Slot)
    → named (prioritized_slot v w priority) ranges n (map (kept w) ss) ≡ restamped v w ss (named (given priority) ranges n (entries_of ss))
named-restamped v w priority ranges n [] = refl
named-restamped v w priority ranges n (s ∷ ss) = λ i. first (is_named ranges n) i ∷ named-restamped v w priority ranges (n + 1) ss i
  where
    first : (b : Bool) → cond b (prioritized_slot v w priority (kept w s)) (kept w s) ≡ cond (same_entry s.entry (cond b (given priority s.entry) s.entry)) (kept w s) (written v w (cond b (given priority s.entry) s.entry))
    first true = ap (λ t. cond t (kept w s) (written v w (given priority s.entry))) (sym (same_entry-given s.entry priority))
    first false = sym (cond-true _ _ _ (same_entry-refl s.entry))

-- a second time changes nothing
pub prioritized_slot-twice : (v : ℕ) (w : Bool) (priority : ℕ) (s : Slot) → prioritized_slot v w priority (prioritized_slot v w priority s) ≡ prioritized_slot v w priority s
prioritized_slot-twice v w priority s =
    let f : Slot → Slot = prioritized_slot v w priority in
    let new : Slot = written v w (given priority s.entry) in
    elim (cases_Bool (eqb s.entry.priority priority)) [
      | inl t ↦ ap f (cond-true _ s new t)
      | inr t ↦ ap f (cond-false _ s new t) ∙ cond-true _ _ _ (eq-eqb priority priority refl) ∙ sym (cond-false _ s new t)
    ]

pub named-none : {X : Type 0} (f : X → X) (n : ℕ) (xs : List X) → named f [] n xs ≡ xs
named-none f n [] = refl
named-none f n (x ∷ xs) = λ i. x ∷ named-none f (n + 1) xs i

-- one range more
pub named-named : {X : Type 0} (f : X → X) → ((x : X) → f (f x) ≡ f x) → (ranges : List (Range ℕ)) (r : Range ℕ) (n : ℕ) (xs : List X) → named f (r ∷ []) n (named f ranges n xs) ≡ named f (ranges ++ r ∷ []) n xs
named-named f twice ranges r n [] = refl
named-named f twice ranges r n (x ∷ xs) =
    let more : is_named (ranges ++ r ∷ []) n ≡ is_named ranges n || is_named (r ∷ []) n = list_any-append (λ (z : Range ℕ). leb z.start n && ltb n z.end) ranges (r ∷ []) in
    λ i. (first (is_named ranges n) (is_named (r ∷ []) n) ∙ ap (λ b. cond b (f x) x) (sym more)) i ∷ named-named f twice ranges r (n + 1) xs i
  where
    first : (b c : Bool) → cond c (f (cond b (f x) x)) (cond b (f x) x) ≡ cond (b || c) (f x) x
    first true true = twice x
    first true false = refl
    first false true = refl
    first false false = refl

named-append : {X : Type 0} (f : X → X) (ranges : List (Range ℕ)) (n : ℕ) (xs ys : List X) → named f ranges n (xs ++ ys) ≡ named f ranges n xs ++ named f ranges (n + length xs) ys
named-append f ranges n [] ys = let e : n ≡ n + 0 = omega arith in ap (λ m. named f ranges m ys) e
named-append f ranges n (x ∷ xs) ys =
    let e : n + 1 + length xs ≡ n + suc (length xs) = omega arith in
    λ i. cond (is_named ranges n) (f x) x ∷ (named-append f ranges (n + 1) xs ys ∙ ap (λ m. named f ranges (n + 1) xs ++ named f ranges m ys) e) i

-- where all positions are named, or none
named-alike : {X : Type 0} (f : X → X) (ranges : List (Range ℕ)) (b : Bool) (n : ℕ) (xs : List X) → ((k : ℕ) → k < length xs → is_named ranges (n + k) ≡ b) → named f ranges n xs ≡ map (λ x. cond b (f x) x) xs
named-alike f ranges b n [] alike = refl
named-alike f ranges b n (x ∷ xs) alike =
    let here : is_named ranges n ≡ b = ap (is_named ranges) (omega arith) ∙ alike 0 (omega arith) in
    λ i. cond (here i) (f x) x ∷ named-alike f ranges b (n + 1) xs (λ k l. ap (is_named ranges) (omega arith) ∙ alike (suc k) (omega arith)) i

-- one range alone is a part of the list
pub named-part : {X : Type 0} (f : X → X) (r : Range ℕ) (xs : List X) → r.start ≤ r.end → r.end ≤ length xs
    → take r.start xs ++ (map f (slice_range xs r.start r.end) ++ drop r.end xs) ≡ named f (r ∷ []) 0 xs
named-part f r xs order within =
    let front = take r.start xs in
    let part = slice_range xs r.start r.end in
    let back = drop r.end xs in
    let one : length front ≡ r.start = length-take-le r.start xs (omega arith) in
    let two : length part ≡ r.end - r.start = length-between xs r.start r.end within in
    let outside : (k : ℕ) → leb r.start k && ltb k r.end ≡ false → is_named (r ∷ []) k ≡ false = λ k out. or_from _ _ out refl in
    let before = named-alike f (r ∷ []) false 0 front (λ k l. outside (0 + k) (and_left _ _ (lt-leb r.start (0 + k) (omega arith)))) ∙ map-id front in
    let at = named-alike f (r ∷ []) true (0 + length front) part
    (λ k l. or_left _ _ (and_from _ _ (le-leb r.start (0 + length front + k) (omega arith)) (lt-ltb (0 + length front + k) r.end (omega arith)))) in
    let behind = named-alike f (r ∷ []) false (0 + length front + length part) back
    (λ k l. outside (0 + length front + length part + k) (and_right _ _ (le-ltb (0 + length front + length part + k) r.end (omega arith)))) ∙ map-id back in
    sym (ap (named f (r ∷ []) 0) (split_between xs r.start r.end order) ∙ named-append f (r ∷ []) 0 front (part ++ back)
    ∙ (λ i. before i ++ (named-append f (r ∷ []) (0 + length front) part back ∙ (λ j. at j ++ behind j)) i))

-- where each named entry has the priority, nothing changes
pub given-same : (priority : ℕ) (ranges : List (Range ℕ)) (n : ℕ) (ss : List Slot)
    → ((k : ℕ) (d : Slot) → k < length ss → is_named ranges (n + k) ≡ true → (get_or ss k d).entry.priority ≡ priority) → entries_of ss ≡ named (given priority) ranges n (entries_of ss)
given-same priority ranges n [] has = refl
given-same priority ranges n (s ∷ ss) has =
    λ i. first (is_named ranges n) (λ t. has 0 s (omega arith) (ap (is_named ranges) (omega arith) ∙ t)) i
    ∷ given-same priority ranges (n + 1) ss (λ k d l t. has (suc k) d (omega arith) (ap (is_named ranges) (omega arith) ∙ t)) i
  where
    first : (b : Bool) → (b ≡ true → s.entry.priority ≡ priority) → s.entry ≡ cond b (given priority s.entry) s.entry
    first true is = λ i. record s.entry { priority = is refl i }
    first false is = refl

-- each entry that is named has the priority
abbrev pub AllHave : ℕ → List (Range ℕ) → List Slot → Type 0
AllHave priority ranges ss = (k : ℕ) (d : Slot) → k < length ss → is_named ranges k ≡ true → (get_or ss k d).entry.priority ≡ priority

pub with_priority-same : (priority : ℕ) (ranges : List (Range ℕ)) (ss : List Slot) → AllHave priority ranges ss → entries_of ss ≡ with_priority (entries_of ss) ranges priority
with_priority-same priority ranges ss has = given-same priority ranges 0 ss (λ k d l t. has k d l (ap (is_named ranges) (omega arith) ∙ t))

module _ (priority : ℕ) (ranges : List (Range ℕ)) (ss : List Slot) (i : ℕ) (z : Range ℕ) (within : i < length ranges) where
  abbrev r : Range ℕ
  r = get_or ranges i z

  abbrev Part : Type 0
  Part = All (λ s. s.entry.priority ≡ priority) (slice_range ss r.start r.end)

  pub AllHave-more : r.end ≤ length ss → AllHave priority (take i ranges) ss → Part → AllHave priority (take (i + 1) ranges) ss
  AllHave-more fits has part k d l t =
      let test : Range ℕ → Bool = λ x. leb x.start k && ltb k x.end in
      elim (or_cases _ _ (sym (list_any_more test ranges i z within) ∙ t)) [
        | inl old ↦ has k d l old
        | inr new ↦
            let p = and_parts (leb r.start k) (ltb k r.end) new in
            let low : r.start ≤ k = leb-true _ _ p.0 in
            let high : k < r.end = ltb-true _ _ p.1 in
            let size : length (slice_range ss r.start r.end) ≡ r.end - r.start = length-between ss r.start r.end fits in
            let position : r.start + (k - r.start) ≡ k = omega arith in
            ap (λ n. (get_or ss n d).entry.priority) (sym position) ∙ ap (λ (s : Slot). s.entry.priority) (sym (get_or-between ss r.start r.end (k - r.start) d (omega arith))) ∙ part (k - r.start) d (omega arith)
      ]

  pub part-same : r.end ≤ length ss → entries_of ss ≡ with_priority (entries_of ss) ranges priority → Part
  part-same fits same k d l =
      let entry : Slot → Entry = λ s. s.entry in
      let size : length (slice_range ss r.start r.end) ≡ r.end - r.start = length-between ss r.start r.end fits in
      let long : length (entries_of ss) ≡ length ss = length-map ss entry in
      let at : ℕ = r.start + k in
      let named_here : is_named ranges (0 + at) ≡ true = list_any_at (λ x. leb x.start (0 + at) && ltb (0 + at) x.end) ranges i z within (and_from _ _ (le-leb r.start (0 + at) (omega arith)) (lt-ltb (0 + at) r.end (omega arith))) in
      ap (λ (s : Slot). s.entry.priority) (get_or-between ss r.start r.end k d (omega arith)) ∙ ap (λ (e : Entry). e.priority) (sym (get_or-map entry ss at d d.entry (omega arith)))
      ∙ ap (λ es. (get_or es at d.entry).priority) same ∙ ap (λ (e : Entry). e.priority) (get_or-named (given priority) ranges 0 (entries_of ss) at d.entry (omega arith) ∙ cond-true _ _ _ named_here)

pub prioritized-same : (q : QueueState) (ranges : List (Range ℕ)) (priority : ℕ) → queue_of q ≡ with_priority (queue_of q) ranges priority → q ≡ prioritized q ranges priority
prioritized-same q ranges priority same = sym (edited-same q (with_priority (queue_of q) ranges priority) same)

pub IsQueue-prioritized : (q : QueueState) → IsQueue q → (ranges : List (Range ℕ)) (priority : ℕ) → IsQueue (prioritized q ranges priority)
IsQueue-prioritized q is ranges priority =
    let after : List Entry = with_priority (queue_of q) ranges priority in
    let long : length after ≡ length (queue_of q) = length-named (given priority) ranges 0 (queue_of q) in
    let size : length (queue_of q) ≡ length q.slots = length-map q.slots (λ (s : Slot). s.entry) in
    IsQueue-stays q after is (omega arith) (All-with_priority (λ n. n ≤ q.greatest_id) (queue_of q) ranges priority is.ids) (Distinct-with_priority (queue_of q) ranges priority is.distinct)
