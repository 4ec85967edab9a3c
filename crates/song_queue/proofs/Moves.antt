-- Entries that are moved.
use Rattle.std.proofs.Common.{◌≡◌, ◌≢◌, ℕ, ◌+◌, ◌-◌, ◌<◌, ◌≤◌, Bool, List, ◌++◌, length, map, take, drop, get_or, refl, ap, sym, subst, ◌∙◌, inl, inr, arith, append_assoc, length-append, length-drop}
use Rattle.std.specs.Prelude.{All, IsPermutation}
use Rattle.std.specs.List.{slice_range, take-map}
use Rattle.std.proofs.lemmas.Bool.{cases_lt}
use Rattle.std.proofs.lemmas.List.{take_at, drop_at, append-nil, take-take, take-append-drop, length-take-le, length-map, get_or_append_left, get_or-append_right, get_or-map, drop-map, map-append}
use Rattle.std.proofs.lemmas.List.Edits.{split_between, between_none, length-between, get_or-between}
use Rattle.std.proofs.lemmas.List.Elements.{All-append, All-take, All-drop}
use Rattle.std.proofs.lemmas.List.Folds.{drop_split}
use Rattle.std.proofs.lemmas.List.Sorted.{IsPermutation-trans, IsPermutation-append_left, IsPermutation-append_comm, IsPermutation-keeps, length_permutation}
use Rattle.std.proofs.lemmas.Slice.{between_is}
use Rattle.queue_slots.specs.declared.entry.Entry.{Entry}
use Rattle.queue_slots.specs.declared.entry.Slot.{Slot}
use Rattle.song_queue.specs.Entries.{moved_to}
use Rattle.song_queue.specs.State.{QueueState, IsQueue, restamped, kept, written, entries_of, queue_of, moved}
use Rattle.song_queue.specs.Laws.{MovesKeepEntries}
use Rattle.song_queue.proofs.Edits.{Distinct, IsQueue-stays, edited-same}
use Rattle.song_queue.proofs.Swaps.{Distinct-swap, Distinct-apart, one, some}
use Rattle.song_queue.proofs.Restamps.{restamped-append, restamped-others, restamped-middle}

-- a move brings no entry in, wherever its positions are
pub All-moved_to : (P : Entry → Type 0) (es : List Entry) (start end to : ℕ) → All P es → All P (moved_to es start end to)
All-moved_to P es start end to all =
    let rest : List Entry = take start es ++ drop end es in
    let others : All P rest = All-append P (take start es) (drop end es) (All-take P start es all) (All-drop P end es all) in
    All-append P (take to rest ++ slice_range es start end) (drop to rest)
    (All-append P (take to rest) (slice_range es start end) (All-take P to rest others) (All-take P (end - start) (drop start es) (All-drop P start es all)))
    (All-drop P to rest others)

-- the first two of three parts in each other's position
IsPermutation-parts : (xs ys zs : List Entry) → IsPermutation ((xs ++ ys) ++ zs) ((ys ++ xs) ++ zs)
IsPermutation-parts xs ys zs = IsPermutation-append_left zs (xs ++ ys) (ys ++ xs) (IsPermutation-append_comm xs ys)

pub IsPermutation-moved_to : (es : List Entry) (start end to : ℕ) → start ≤ end → IsPermutation es (moved_to es start end to)
IsPermutation-moved_to es start end to order =
    let front : List Entry = take start es in
    let part : List Entry = slice_range es start end in
    let back : List Entry = drop end es in
    let rest : List Entry = front ++ back in
    let whole : (front ++ part) ++ back ≡ es = append_assoc front part back ∙ sym (split_between es start end order) in
    let same : (part ++ take to rest) ++ drop to rest ≡ (part ++ front) ++ back =
    append_assoc part (take to rest) (drop to rest) ∙ ap (λ x. part ++ x) (take-append-drop to rest) ∙ sym (append_assoc part front back) in
    IsPermutation-trans es ((part ++ front) ++ back) (moved_to es start end to)
    (subst (λ x. IsPermutation x ((part ++ front) ++ back)) whole (IsPermutation-parts front part back))
    (subst (λ x. IsPermutation x (moved_to es start end to)) same (IsPermutation-parts part (take to rest) (drop to rest)))

pub Distinct-moved_to : (es : List Entry) (start end to : ℕ) → start ≤ end → Distinct es → Distinct (moved_to es start end to)
Distinct-moved_to es start end to order distinct =
    IsPermutation-keeps es Distinct distinct (λ l i j li lj d. Distinct-swap l i j li lj d) (moved_to es start end to) (IsPermutation-moved_to es start end to order)

-- the entries from low up to middle and those from there up to high in each other's position
abbrev pub rotated : List Entry → ℕ → ℕ → ℕ → List Entry
rotated es low middle high = take low es ++ (slice_range es middle high ++ slice_range es low middle) ++ drop high es

-- a part put between two others
put_between : (xs ys zs : List Entry) (to : ℕ) → length xs ≡ to → take to (xs ++ ys) ++ zs ++ drop to (xs ++ ys) ≡ xs ++ zs ++ ys
put_between xs ys zs to size = λ i. take_at xs ys to size i ++ zs ++ drop_at xs ys to size i

-- a move to a position before
pub moved_to-back : (es : List Entry) (start end to : ℕ) → to ≤ start → start ≤ length es → moved_to es start end to ≡ rotated es to start end
moved_to-back es start end to back within =
    let first : List Entry = take to es in
    let part : List Entry = slice_range es start end in
    let between : List Entry = slice_range es to start in
    let last : List Entry = drop end es in
    let front : take start es ≡ first ++ between = sym (take-append-drop to (take start es)) ∙ (λ i. take-take to start es back i ++ sym (between_is es to start) i) in
    let rest : take start es ++ last ≡ first ++ (between ++ last) = ap (λ x. x ++ last) front ∙ append_assoc first between last in
    ap (λ x. take to x ++ part ++ drop to x) rest ∙ put_between first (between ++ last) part to (length-take-le to es (omega arith))
    ∙ sym (append_assoc (first ++ part) between last) ∙ ap (λ x. x ++ last) (append_assoc first part between)

-- a move to a later position
pub moved_to-ahead : (es : List Entry) (start end to : ℕ) → start ≤ end → start ≤ to → to + (end - start) ≤ length es → moved_to es start end to ≡ rotated es start end (to + (end - start))
moved_to-ahead es start end to order ahead within =
    let high : ℕ = to + (end - start) in
    let first : List Entry = take start es in
    let part : List Entry = slice_range es start end in
    let between : List Entry = slice_range es end high in
    let rest : first ++ drop end es ≡ (first ++ between) ++ drop high es = ap (λ x. first ++ x) (drop_split es end high (omega arith)) ∙ sym (append_assoc first between (drop high es)) in
    let size : length (first ++ between) ≡ to =
    length-append first between ∙ (let a = length-take-le start es (omega arith) in let b = length-between es end high within in let e : length first + length between ≡ to = omega arith in e) in
    ap (λ x. take to x ++ part ++ drop to x) rest ∙ put_between (first ++ between) (drop high es) part to size ∙ ap (λ x. x ++ drop high es) (append_assoc first between part)

module _ (ss : List Slot) (distinct : Distinct (entries_of ss)) (low middle high : ℕ) (below : low < middle) (above : middle < high) (within : high ≤ length ss) where
  abbrev es : List Entry
  es = entries_of ss

  abbrev parts : List Entry
  parts = slice_range es middle high ++ slice_range es low middle

  length-es : length es ≡ length ss
  length-es = length-map ss (λ (s : Slot). s.entry)

  length-parts : length parts + low ≡ high
  length-parts =
      let a = length-append (slice_range es middle high) (slice_range es low middle) in
      let b = length-between es middle high (omega (arith, length-es)) in
      let c = length-between es low middle (omega (arith, length-es)) in
      omega arith

  -- each position in the parts gets another id
  apart : (i : ℕ) (d : Entry) → i < length parts → (get_or es (low + i) d).id ≢ (get_or parts i d).id
  apart i d inside same =
      let id : Entry → ℕ = λ e. e.id in
      let long : List Entry = slice_range es middle high in
      let short : List Entry = slice_range es low middle in
      let b : length long ≡ high - middle = length-between es middle high (omega (arith, length-es)) in
      elim (cases_lt i (length long)) [
        | inl left ↦ Distinct-apart es distinct (low + i) (middle + i) d (omega (arith, length-es, length-parts)) (omega (arith, length-es)) (omega arith)
            (same ∙ ap id (get_or_append_left long short d i left ∙ get_or-between es middle high i d (omega arith)))
        | inr right ↦ Distinct-apart es distinct (low + i) (low + (i - length long)) d (omega (arith, length-es, length-parts)) (omega (arith, length-es, length-parts)) (omega arith)
            (same ∙ ap id (get_or-append_right long short (length long) i d refl right ∙ get_or-between es low middle (i - length long) d (omega (arith, length-parts))))
      ]

  -- the parts as slots
  pub parts-slots : entries_of (slice_range ss middle high ++ slice_range ss low middle) ≡ parts
  parts-slots =
      let entry : Slot → Entry = λ s. s.entry in
      let part : (a b : ℕ) → entries_of (slice_range ss a b) ≡ slice_range es a b = λ a b. sym (ap (take (b - a)) (drop-map entry a ss) ∙ take-map entry (b - a) (drop a ss)) in
      map-append entry (slice_range ss middle high) (slice_range ss low middle) ∙ (λ i. part middle high i ++ part low middle i)

  pub rotated-other : es ≢ rotated es low middle high
  rotated-other same = elim (some es (omega (arith, length-es))) as (λ _. ⊥) [
    | one d ↦
        let before : length (take low es) ≡ low = length-take-le low es (omega (arith, length-es)) in
        let long : length (take low es ++ parts) ≡ length (take low es) + length parts = length-append (take low es) parts in
        let at : get_or (rotated es low middle high) (low + 0) d ≡ get_or parts (low + 0 - low) d =
        get_or_append_left (take low es ++ parts) (drop high es) d (low + 0) (omega (arith, length-parts)) ∙ get_or-append_right (take low es) parts low (low + 0) d before (omega arith) in
        let none : low + 0 - low ≡ 0 = omega arith in
        apart 0 d (omega (arith, length-parts)) (ap (λ x. (get_or x (low + 0) d).id) same ∙ ap (λ (e : Entry). e.id) (at ∙ ap (λ k. get_or parts k d) none))
  ]

  pub restamped-rotated : (v : ℕ) (w : Bool) → restamped v w ss (rotated es low middle high) ≡ map (kept w) (take low ss) ++ map (written v w) parts ++ map (kept w) (drop high ss)
  restamped-rotated v w =
      let entry : Slot → Entry = λ s. s.entry in
      let front : List Slot = take low ss in
      let span : List Slot = slice_range ss low high in
      let back : List Slot = drop high ss in
      let size : length span ≡ high - low = length-between ss low high within in
      let new : rotated es low middle high ≡ entries_of front ++ (parts ++ entries_of back) =
      append_assoc (take low es) parts (drop high es) ∙ (λ i. take-map entry low ss i ++ (parts ++ drop-map entry high ss i)) in
      let others : (i : ℕ) (s : Slot) (e : Entry) → i < length span → i < length parts → (get_or span i s).entry.id ≢ (get_or parts i e).id =
      λ i s e l m same. apart i e m (ap (λ (x : Entry). x.id) (get_or-map entry ss (low + i) s e (omega arith)) ∙ ap (λ (x : Slot). x.entry.id) (sym (get_or-between ss low high i s (omega arith))) ∙ same) in
      (λ i. restamped v w (split_between ss low high (omega arith) i) (new i)) ∙ restamped-append v w front (span ++ back) (parts ++ entries_of back)
      ∙ ap (λ x. map (kept w) front ++ x) (restamped-middle v w span back parts (omega (arith, length-parts)) ∙ ap (λ x. x ++ map (kept w) back) (restamped-others v w span parts others))
      ∙ sym (append_assoc (map (kept w) front) (map (written v w) parts) (map (kept w) back))

pub moved_to-other : (ss : List Slot) → Distinct (entries_of ss) → (start end to : ℕ) → start < end → to ≢ start → end ≤ length ss → to + (end - start) ≤ length ss → entries_of ss ≢ moved_to (entries_of ss) start end to
moved_to-other ss distinct start end to some elsewhere within room same =
    let size : length (entries_of ss) ≡ length ss = length-map ss (λ (s : Slot). s.entry) in
    elim (cases_lt to start) [
      | inl back ↦ rotated-other ss distinct to start end back some within (same ∙ moved_to-back (entries_of ss) start end to (omega arith) (omega arith))
      | inr ahead ↦ rotated-other ss distinct start end (to + (end - start)) some (omega arith) room (same ∙ moved_to-ahead (entries_of ss) start end to (omega arith) ahead (omega arith))
    ]

-- a move to where the entries are, and a move of none
moved_to-same : (es : List Entry) (start end : ℕ) → start ≤ end → end ≤ length es → es ≡ moved_to es start end start
moved_to-same es start end order within =
    sym (put_between (take start es) (drop end es) (slice_range es start end) start (length-take-le start es (omega arith)) ∙ append_assoc (take start es) (slice_range es start end) (drop end es) ∙ sym (split_between es start end order))

moved_to-none : (es : List Entry) (start to : ℕ) → es ≡ moved_to es start start to
moved_to-none es start to =
    let rest : List Entry = take start es ++ drop start es in
    sym (ap (λ x. take to rest ++ x ++ drop to rest) (between_none es start) ∙ ap (λ x. x ++ drop to rest) (append-nil (take to rest)) ∙ take-append-drop to rest ∙ take-append-drop start es)

pub moved-same : (q : QueueState) (start end : ℕ) → start ≤ end → end ≤ length (queue_of q) → q ≡ moved q start end start
moved-same q start end order within = sym (edited-same q (moved_to (queue_of q) start end start) (moved_to-same (queue_of q) start end order within))

pub moved-none : (q : QueueState) (start to : ℕ) → q ≡ moved q start start to
moved-none q start to = sym (edited-same q (moved_to (queue_of q) start start to) (moved_to-none (queue_of q) start to))

pub IsQueue-moved : (q : QueueState) → IsQueue q → (start end to : ℕ) → start ≤ end → IsQueue (moved q start end to)
IsQueue-moved q is start end to order =
    let after : List Entry = moved_to (queue_of q) start end to in
    let long : length after ≡ length (queue_of q) = length_permutation (queue_of q) after (IsPermutation-moved_to (queue_of q) start end to order) in
    let size : length (queue_of q) ≡ length q.slots = length-map q.slots (λ (s : Slot). s.entry) in
    IsQueue-stays q after is (omega arith) (All-moved_to (λ e. e.id ≤ q.greatest_id) (queue_of q) start end to is.ids) (Distinct-moved_to (queue_of q) start end to order is.distinct)

module _ (queue : List Entry) (start end to : ℕ) (order : start ≤ end) (inside : end ≤ length queue) (room : to + (end - start) ≤ length queue) where
  abbrev rest : List Entry
  rest = take start queue ++ drop end queue

  abbrev part : List Entry
  part = slice_range queue start end

  size : length (take to rest) ≡ to
  size = length-take-le to rest (let a = length-append (take start queue) (drop end queue) in let b = length-take-le start queue (omega arith) in let c = length-drop end queue in omega arith)

  moved_to-parts : moved_to queue start end to ≡ take to rest ++ (part ++ drop to rest)
  moved_to-parts = append_assoc (take to rest) part (drop to rest)

  moved_to-positions : slice_range (moved_to queue start end to) to (to + (end - start)) ≡ part
  moved_to-positions =
      let count : length part ≡ to + (end - start) - to = length-between queue start end inside ∙ (let e : end - start ≡ to + (end - start) - to = omega arith in e) in
      ap (λ x. take (to + (end - start) - to) x) (ap (drop to) moved_to-parts ∙ drop_at (take to rest) (part ++ drop to rest) to size) ∙ take_at part (drop to rest) (to + (end - start) - to) count

  moved_to-others : take to (moved_to queue start end to) ++ drop (to + (end - start)) (moved_to queue start end to) ≡ rest
  moved_to-others =
      let both : length (take to rest ++ part) ≡ to + (end - start) = length-append (take to rest) part ∙ (λ i. size i + length-between queue start end inside i) in
      (λ i. (ap (take to) moved_to-parts ∙ take_at (take to rest) (part ++ drop to rest) to size) i ++ drop_at (take to rest ++ part) (drop to rest) (to + (end - start)) both i) ∙ take-append-drop to rest

pub moves_keep_entries : MovesKeepEntries
moves_keep_entries = record { permutes = IsPermutation-moved_to; positions = moved_to-positions; others = moved_to-others }
