-- What edits of a queue leave, as a client sees it.
use Rattle.std.proofs.Common.{◌≡◌, ◌≢◌, ◌⊎◌, inl, inr, ℕ, zero, suc, ◌+◌, ◌-◌, ◌<◌, ◌≤◌, Bool, true, false, not, ◌&&◌, nat_le, nat_lt, ◌==◌, cond, List, [], ◌∷◌, ◌++◌, length, map, take, drop, get_or, Option, Some, None, refl, ap, sym, ◌∙◌, subst, arith, append_assoc, length-append, length-drop, min}
use Rattle.std.specs.Prelude.{All, AllPairs, Contains, IsPermutation, swap, slice_get, option_map}
use Rattle.std.specs.List.{filter, range_with_len, slice_range}
use Rattle.std.specs.declared.ops.Range.{Range as Positions}
use Rattle.std.proofs.lemmas.Bool.{and_parts, cases_lt, cases_Bool, le-leb, leb-true, lt-leb}
use Rattle.std.proofs.lemmas.List.{length-take-le, take-append-drop}
use Rattle.std.proofs.lemmas.List.Edits.{length-between, length-swap, between_none}
use Rattle.std.proofs.lemmas.List.Elements.{filter-append, All-take, All-drop}
use Rattle.std.proofs.lemmas.List.Sorted.{IsPermutation-swap, IsPermutation-trans, IsPermutation-refl, length_permutation}
use Rattle.std.proofs.lemmas.Option.{slice_get_past, slice_get_within}
use Rattle.mpd_text.specs.Songs.Song.{SongData}
use Rattle.mpd_text.specs.Answers.Range.{positions, within}
use Rattle.mpd_text.specs.declared.answers.ranges.Range.{Range}
use Rattle.mpd_text.specs.declared.answers.ranges.Range.TheVariants.{Lone, Between, From}
use Rattle.queue_slots.specs.declared.entry.Entry.{Entry}
use Rattle.song_queue.specs.Entries.{entries_for, is_named, moved_to, with_priority}
use Rattle.song_queue.specs.Shuffles.{shuffled}
use Rattle.song_queue.specs.State.{QueueState, edited, queue_of}
use Rattle.song_queue.proofs.Edits.{edited_cases, entries_of-restamped, get_or-entries_for, length-entries_for}
use Rattle.song_queue.proofs.Moves.{IsPermutation-moved_to}
use Rattle.song_queue.proofs.Shuffles.{shuffled-keeps}
use Rattle.song_queue.proofs.Priorities.{given, length-named, named}
use Rattle.queue_laws.specs.Positions.{at_positions, is_between, names, picked_in_turn}
use Rattle.queue_laws.specs.Queues.{Adds, Deletes, DeletesId, HasAt, Moves, MovesId, Prioritizes, PrioritizesIds, Shuffles, Swaps, but_for_priority, is_other}
use Rattle.queue_laws.proofs.Lists.{between-are, others-are, picked-same, put-around, put-there, one-at, slice_get-at, split-at, contains-at}
use Rattle.queue_laws.proofs.Ids.{filter-all, filter-none, taken-out, without-one}
use Rattle.queue_laws.proofs.Picks.{shuffled-picks}
use Rattle.queue_laws.proofs.ElementSwaps.{swap-first, swap-second, swap-other, swap-part}

-- the queue of an edited state
pub queue_of-edited : (q : QueueState) (es : List Entry) → queue_of (edited q es) ≡ es
queue_of-edited q es = elim (edited_cases q es) [
  | inl same ↦ ap queue_of same.0 ∙ same.1
  | inr new ↦ ap queue_of new ∙ entries_of-restamped _ _ q.slots es
]

-- the end of a range is cut to the queue's
cut : (k len end : ℕ) → k < len → nat_lt k end ≡ nat_lt k (min len end)
cut k len end l = grind arith

all : (k len : ℕ) (b : Bool) → k < len → b ≡ (b && nat_lt k len)
all k len true l = grind arith
all k len false l = refl

-- the positions that are named in a queue of so many entries are those of a range
unfoldable pub IsRange : (ℕ → Bool) → ℕ → Positions ℕ → Type 0
IsRange which len r = (r.start ≤ r.end) × (r.end ≤ len) × ((k : ℕ) → k < len → which k ≡ is_between r.start r.end k)

pub range-order : (which : ℕ → Bool) (len : ℕ) (r : Positions ℕ) → IsRange which len r → r.start ≤ r.end
unfolding IsRange
range-order which len r is = is.0

pub all-positions : (len : ℕ) → IsRange (λ _. true) len (positions 0 len)
unfolding IsRange
all-positions len = (omega arith, omega arith, λ k l. let t : is_between 0 len k ≡ true = grind arith in sym t)

pub within-names : (range : Range) (len : ℕ) (r : Positions ℕ) → within range len ≡ Some r → IsRange (names range) len r
unfolding IsRange
within-names (Lone position) len r h =
    elim (nat_lt position len) as (λ b. nat_lt position len ≡ b → cond b (Some (positions position (position + 1))) None ≡ Some r → (r.start ≤ r.end) × (r.end ≤ len) × ((k : ℕ) → k < len → (k == position) ≡ is_between r.start r.end k)) [
      | true ↦ λ t e.
          let s : position ≡ r.start = cc in
          let f : position + 1 ≡ r.end = cc in
          let l : position < len = grind arith in
          (omega arith, omega arith, λ k m. rw (sym s) (rw (sym f) (grind arith)))
      | false ↦ λ t e. cc
    ] refl h
within-names (Between start end) len r h =
    elim (nat_le start len && nat_le start end) as (λ b. (nat_le start len && nat_le start end) ≡ b → cond b (Some (positions start (min len end))) None ≡ Some r
    → (r.start ≤ r.end) × (r.end ≤ len) × ((k : ℕ) → k < len → is_between start end k ≡ is_between r.start r.end k)) [
      | true ↦ λ t e.
          let s : start ≡ r.start = cc in
          let f : min len end ≡ r.end = cc in
          let both = and_parts (nat_le start len) (nat_le start end) t in
          let l : start ≤ len = leb-true start len both.0 in
          let m : start ≤ end = leb-true start end both.1 in
          (omega arith, omega arith, λ k n. rw (sym s) (rw (sym f) (ap (λ c. nat_le start k && c) (cut k len end n))))
      | false ↦ λ t e. cc
    ] refl h
within-names (From start) len r h =
    elim (nat_le start len) as (λ b. nat_le start len ≡ b → cond b (Some (positions start len)) None ≡ Some r → (r.start ≤ r.end) × (r.end ≤ len) × ((k : ℕ) → k < len → nat_le start k ≡ is_between r.start r.end k)) [
      | true ↦ λ t e.
          let s : start ≡ r.start = cc in
          let f : len ≡ r.end = cc in
          let l : start ≤ len = leb-true start len t in
          (omega arith, omega arith, λ k n. rw (sym s) (rw (sym f) (all k len (nat_le start k) n)))
      | false ↦ λ t e. cc
    ] refl h

-- the entries that are named, and the others
module _ (which : ℕ → Bool) (es : List Entry) (r : Positions ℕ) (is : IsRange which (length es) r) where
  named-are : at_positions which es ≡ slice_range es r.start r.end
  unfolding IsRange
  named-are = picked-same which (is_between r.start r.end) 0 es (λ k l. is.2 (0 + k) (omega arith)) ∙ between-are es r.start r.end is.0 is.1

  pub named-count : length (at_positions which es) ≡ r.end - r.start
  unfolding IsRange
  named-count = ap length named-are ∙ length-between es r.start r.end is.1

  unnamed-are : at_positions (λ position. not (which position)) es ≡ take r.start es ++ drop r.end es
  unfolding IsRange
  unnamed-are =
      picked-same (λ position. not (which position)) (λ position. not (is_between r.start r.end position)) 0 es (λ k l. ap not (is.2 (0 + k) (omega arith)))
      ∙ others-are es r.start r.end is.0 is.1

  pub deletes : Deletes which es (take r.start es ++ drop r.end es)
  deletes = sym unnamed-are

  pub moves : (to : ℕ) → (r.start ≡ r.end) ⊎ (to + (r.end - r.start) ≤ length es) → Moves which to es (moved_to es r.start r.end to)
  unfolding IsRange
  moves to fits =
      let part : List Entry = slice_range es r.start r.end in
      let rest : List Entry = take r.start es ++ drop r.end es in
      let put : (part ≡ []) ⊎ (to ≤ length rest) = elim fits [
        | inl none ↦ inl (ap (λ n. slice_range es r.start n) (sym none) ∙ between_none es r.start)
        | inr room ↦
            let a = length-append (take r.start es) (drop r.end es) in
            let b = length-take-le r.start es (omega (arith, is.0, is.1)) in
            let c = length-drop r.end es in
            inr (omega (arith, is.0, is.1))
      ] in
      let whole : moved_to es r.start r.end to ≡ take to rest ++ (part ++ drop to rest) = append_assoc (take to rest) part (drop to rest) in
      record {
        moved = subst (λ (xs : List Entry). at_positions (is_between to (to + length xs)) (moved_to es r.start r.end to) ≡ xs) (sym named-are)
            (ap (at_positions (is_between to (to + length part))) whole ∙ put-there rest part to put);
        others = subst (λ (xs : List Entry). at_positions (λ position. not (is_between to (to + length xs) position)) (moved_to es r.start r.end to) ≡ at_positions (λ position. not (which position)) es) (sym named-are)
            (ap (at_positions (λ position. not (is_between to (to + length part) position))) whole ∙ put-around rest part to put ∙ sym unnamed-are);
      }

-- the entry with an id leaves
pub deletes-id : (es : List Entry) (at id : ℕ) → AllPairs (λ e f. e.id ≢ f.id) es → HasAt es at id → DeletesId id es (take at es ++ drop (at + 1) es)
deletes-id es at id distinct has =
    let one : at + 1 ≡ suc at = omega arith in
    record {
      there = (at, has);
      others = ap (λ n. take at es ++ drop n es) one ∙ taken-out (λ (e : Entry). e.id) es at id has.0 distinct has.1 has.2;
    }

-- the entry with an id moves
pub moves-id : (es : List Entry) (at id to : ℕ) → HasAt es at id → to < length es → MovesId id to es (moved_to es at (at + 1) to)
moves-id es at id to has low =
    let x : Entry = has.0 in
    let rest : List Entry = take at es ++ drop (suc at) es in
    let within : at < length es = slice_get_within es at x has.1 in
    let size : length (take to rest) ≡ to =
    length-take-le to rest (let a = length-append (take at es) (drop (suc at) es) in let b = length-take-le at es (omega arith) in let c = length-drop (suc at) es in omega arith) in
    let next : at + 1 ≡ suc at = omega arith in
    let whole : moved_to es at (at + 1) to ≡ take to rest ++ (x ∷ drop to rest) =
    (λ i. take to (take at es ++ drop (next i) es) ++ one-at es at x has.1 i ++ drop to (take at es ++ drop (next i) es)) ∙ append_assoc (take to rest) (x ∷ []) (drop to rest) in
    record {
      long = length_permutation es (moved_to es at (at + 1) to) (IsPermutation-moved_to es at (at + 1) to (omega arith));
      moved = (x, contains-at es at x has.1, has.2, ap (λ (l : List Entry). slice_get l to) whole ∙ slice_get-at (take to rest) x (drop to rest) to size);
      others = ap (filter (is_other id)) whole ∙ without-one (λ (e : Entry). e.id) (take to rest) (drop to rest) x id has.2 ∙ ap (filter (is_other id)) (take-append-drop to rest)
          ∙ sym (ap (filter (is_other id)) (split-at es at x has.1) ∙ without-one (λ (e : Entry). e.id) (take at es) (drop (suc at) es) x id has.2);
    }

-- two entries are swapped
pub swaps : (es : List Entry) (a b : ℕ) → a < length es → b < length es → Swaps a b es (swap es a b)
swaps [] a b la lb = absurd (omega arith)
swaps (e ∷ es) a b la lb = record {
  there = (la, lb);
  first = swap-first (e ∷ es) a b e la lb;
  second = swap-second (e ∷ es) a b e la lb;
  others = λ position na nb. swap-other (e ∷ es) a b e la lb position na nb;
}

stays-at : {X : Type 0} (xs : List X) (i j p : ℕ) → i < length xs → j < length xs → p ≢ i → p ≢ j → slice_get (swap xs i j) p ≡ slice_get xs p
stays-at [] i j p li lj ni nj = absurd (omega arith)
stays-at (x ∷ xs) i j p li lj ni nj = swap-other (x ∷ xs) i j x li lj p ni nj

-- the entries of a range are shuffled
module _ {X : Type 0} (xs : List X) (start end : ℕ) (words : List ℕ) (order : start ≤ end) (within : end ≤ length xs) where
  abbrev Long : List X → Type 0
  Long ys = length ys ≡ length xs

  pub shuffled-length : length (shuffled xs start end words) ≡ length xs
  shuffled-length = shuffled-keeps Long start end (λ ys i j low high below long. length-swap ys i j ∙ long) xs end words (omega arith) refl

  pub shuffled-part : IsPermutation (slice_range xs start end) (slice_range (shuffled xs start end words) start end)
  shuffled-part =
      let part : List X = slice_range xs start end in
      let kept = shuffled-keeps (λ ys. Long ys × IsPermutation part (slice_range ys start end)) start end
      (λ ys i j low high below p.
      let size : length ys ≡ length xs = p.0 in
      let own : List X = slice_range ys start end in
      let count : length own ≡ end - start = length-between ys start end (omega arith) in
      let turned : List X = swap own (i - start) (j - start) in
      let same : slice_range (swap ys i j) start end ≡ turned = swap-part ys i j start end (omega arith) below low (omega arith) (omega arith) in (
        length-swap ys i j ∙ size,
        IsPermutation-trans part own (slice_range (swap ys i j) start end) p.1
            (subst (IsPermutation own) (sym same) (IsPermutation-swap own turned (i - start) (j - start) (omega arith) (omega arith) refl)),
      ))
      xs end words (omega arith) (refl, IsPermutation-refl part) in
      kept.1

  pub shuffled-others : (position : ℕ) → (position < start) ⊎ (end ≤ position) → slice_get (shuffled xs start end words) position ≡ slice_get xs position
  shuffled-others position out =
      let kept = shuffled-keeps (λ ys. Long ys × (slice_get ys position ≡ slice_get xs position)) start end
      (λ ys i j low high below p.
      let size : length ys ≡ length xs = p.0 in
      let not_i : position ≢ i = elim out [ inl before ↦ (let n : position ≢ i = omega arith in n) | inr behind ↦ (let n : position ≢ i = omega arith in n) ] in
      let not_j : position ≢ j = elim out [ inl before ↦ (let n : position ≢ j = omega arith in n) | inr behind ↦ (let n : position ≢ j = omega arith in n) ] in
      (length-swap ys i j ∙ size, stays-at ys i j position (omega arith) (omega arith) not_i not_j ∙ p.1))
      xs end words (omega arith) (refl, refl) in
      kept.1

is-outside : (start end position : ℕ) → is_between start end position ≡ false → (position < start) ⊎ (end ≤ position)
is-outside start end position h = elim (cases_lt position start) [
  | inl before ↦ inl before
  | inr low ↦ elim (cases_lt position end) [
    | inl high ↦ absurd (let t : is_between start end position ≡ true = grind arith in cc)
    | inr behind ↦ inr behind
  ]
]

pub shuffles : (which : ℕ → Bool) (es : List Entry) (r : Positions ℕ) (words : List ℕ) → IsRange which (length es) r → Shuffles words which es (shuffled es r.start r.end words)
unfolding IsRange
shuffles which es r words is =
    let after : List Entry = shuffled es r.start r.end words in
    let long : length after ≡ length es = shuffled-length es r.start r.end words is.0 is.1 in
    let named : at_positions which after ≡ slice_range after r.start r.end = named-are which after r (is.0, omega (arith, is.1), λ k l. is.2 k (omega arith)) in
    record {
      permuted = subst (λ (xs : List Entry). IsPermutation xs (at_positions which after)) (sym (named-are which es r is))
          (subst (IsPermutation (slice_range es r.start r.end)) (sym named) (shuffled-part es r.start r.end words is.0 is.1));
      picked = named ∙ shuffled-picks es r.start r.end words is.0 is.1 ∙ ap (picked_in_turn words) (sym (named-are which es r is));
      others = λ position out. elim (cases_lt position (length es)) [
        | inl l ↦ shuffled-others es r.start r.end words is.0 is.1 position (is-outside r.start r.end position (sym (is.2 position l) ∙ out))
        | inr past ↦ slice_get_past after position (omega arith) ∙ sym (slice_get_past es position past)
      ];
    }

-- entries get a priority
slice_get-named : {X : Type 0} (f : X → X) (ranges : List (Positions ℕ)) (n : ℕ) (xs : List X) (k : ℕ)
    → slice_get (named f ranges n xs) k ≡ option_map (λ x. cond (is_named ranges (n + k)) (f x) x) (slice_get xs k)
slice_get-named f ranges n [] k = refl
slice_get-named f ranges n (x ∷ xs) zero = let e : n ≡ n + 0 = omega arith in ap (λ m. Some (cond (is_named ranges m) (f x) x)) e
slice_get-named f ranges n (x ∷ xs) (suc k) =
    let e : n + 1 + k ≡ n + suc k = omega arith in
    slice_get-named f ranges (n + 1) xs k ∙ ap (λ m. option_map (λ y. cond (is_named ranges m) (f y) y) (slice_get xs k)) e

named-same : (priority : ℕ) (ranges : List (Positions ℕ)) (n : ℕ) (es : List Entry) → map but_for_priority (named (given priority) ranges n es) ≡ map but_for_priority es
named-same priority ranges n [] = refl
named-same priority ranges n (e ∷ es) =
    elim (is_named ranges n) as (λ b. but_for_priority (cond b (given priority e) e) ∷ map but_for_priority (named (given priority) ranges (n + 1) es) ≡ but_for_priority e ∷ map but_for_priority es) [
      | true ↦ ap (λ (l : List (ℕ × SongData)). but_for_priority e ∷ l) (named-same priority ranges (n + 1) es)
      | false ↦ ap (λ (l : List (ℕ × SongData)). but_for_priority e ∷ l) (named-same priority ranges (n + 1) es)
    ]

-- what is at a position then
has-given : (priority : ℕ) (o : Option Entry) (b : Bool) (e : Entry) → b ≡ true → option_map (λ x. cond b (given priority x) x) o ≡ Some e → e.priority ≡ priority
has-given priority None b e t h = cc
has-given priority (Some x) true e t h = let same : given priority x ≡ e = cc in sym (ap (λ (y : Entry). y.priority) same)
has-given priority (Some x) false e t h = cc

has-own : (priority : ℕ) (o : Option Entry) (b : Bool) → b ≡ false → option_map (λ x. cond b (given priority x) x) o ≡ o
has-own priority None b f = refl
has-own priority (Some x) true f = cc
has-own priority (Some x) false f = refl

module _ (es : List Entry) (ranges : List (Positions ℕ)) (priority : ℕ) where
  abbrev after : List Entry
  after = with_priority es ranges priority

  at-position : (position : ℕ) → slice_get after position ≡ option_map (λ x. cond (is_named ranges position) (given priority x) x) (slice_get es position)
  at-position position = let e : 0 + position ≡ position = omega arith in slice_get-named (given priority) ranges 0 es position ∙ ap (λ m. option_map (λ y. cond (is_named ranges m) (given priority y) y) (slice_get es position)) e

  long : length after ≡ length es
  long = length-named (given priority) ranges 0 es

  pub prioritizes : (which : ℕ → Bool) → ((k : ℕ) → k < length es → which k ≡ is_named ranges k) → Prioritizes which priority es after
  prioritizes which is = record {
    same = named-same priority ranges 0 es;
    given = λ position entry here at.
        let l : position < length after = slice_get_within after position entry at in
        has-given priority (slice_get es position) (is_named ranges position) entry (sym (is position (omega (arith, long))) ∙ here) (sym (at-position position) ∙ at);
    others = λ position out. elim (cases_lt position (length es)) [
      | inl l ↦ at-position position ∙ has-own priority (slice_get es position) (is_named ranges position) (sym (is position l) ∙ out)
      | inr past ↦ slice_get_past after position (omega (arith, long)) ∙ sym (slice_get_past es position past)
    ];
  }

  -- an entry has its id then too
  own-id : (position : ℕ) (e : Entry) → slice_get after position ≡ Some e → (x : Entry) × (slice_get es position ≡ Some x) × (x.id ≡ e.id)
  own-id position e at = found (slice_get es position) (is_named ranges position) refl (sym (at-position position) ∙ at)
    where
      found : (o : Option Entry) (b : Bool) → slice_get es position ≡ o → option_map (λ x. cond b (given priority x) x) o ≡ Some e → (x : Entry) × (slice_get es position ≡ Some x) × (x.id ≡ e.id)
      found None b is h = cc
      found (Some x) true is h = let same : given priority x ≡ e = cc in (x, is, ap (λ (y : Entry). y.id) same)
      found (Some x) false is h = let same : x ≡ e = cc in (x, is, ap (λ (y : Entry). y.id) same)

  pub prioritizes-ids : (ids : List ℕ) → ((id : ℕ) → Contains ids id → (position : ℕ) × HasAt es position id)
      → ((position : ℕ) (x : Entry) → slice_get es position ≡ Some x → Contains ids x.id → is_named ranges position ≡ true)
      → ((position : ℕ) (x : Entry) → slice_get es position ≡ Some x → is_named ranges position ≡ true → Contains ids x.id) → PrioritizesIds ids priority es after
  prioritizes-ids ids there to from = record {
    there = there;
    same = named-same priority ranges 0 es;
    given = λ position entry at contains.
        let own = own-id position entry at in
        has-given priority (slice_get es position) (is_named ranges position) entry (to position own.0 own.1 (subst (Contains ids) (sym own.2) contains)) (sym (at-position position) ∙ at);
    others = λ position entry at none.
        let out : is_named ranges position ≡ false = elim (cases_Bool (is_named ranges position)) [ inl t ↦ absurd (none (from position entry at t)) | inr f ↦ f ] in
        at-position position ∙ has-own priority (slice_get es position) (is_named ranges position) out ∙ at;
  }

-- songs come
songs-for : (first : ℕ) (songs : List SongData) → map (λ (e : Entry). e.song) (entries_for first songs) ≡ songs
songs-for first [] = refl
songs-for first (song ∷ songs) = ap (λ (l : List SongData). song ∷ l) (songs-for (first + 1) songs)

ids-for : (first : ℕ) (songs : List SongData) → map (λ (e : Entry). e.id) (entries_for first songs) ≡ range_with_len first (length songs)
ids-for first [] = refl
ids-for first (song ∷ songs) = ap (λ (l : List ℕ). first ∷ l) (ids-for (first + 1) songs)

no-priority : (first : ℕ) (songs : List SongData) (k : ℕ) (d : Entry) → k < length (entries_for first songs) → (get_or (entries_for first songs) k d).priority ≡ 0
no-priority first [] k d l = absurd (omega arith)
no-priority first (song ∷ songs) zero d l = refl
no-priority first (song ∷ songs) (suc k) d l = no-priority (first + 1) songs k d (omega arith)

above : (first : ℕ) (songs : List SongData) (k : ℕ) (d : Entry) → k < length (entries_for first songs) → first ≤ (get_or (entries_for first songs) k d).id
above first songs k d l =
    let size = length-entries_for first songs in
    let at : (get_or (entries_for first songs) k d).id ≡ first + k = get_or-entries_for first songs k d (omega arith) in
    omega arith

pub adds : (es : List Entry) (greatest at : ℕ) (songs : List SongData) → All (λ e. e.id ≤ greatest) es → at ≤ length es
    → Adds greatest songs at es (take at es ++ entries_for (greatest + 1) songs ++ drop at es)
adds es greatest at songs low within =
    let news : List Entry = entries_for (greatest + 1) songs in
    let after : List Entry = take at es ++ news ++ drop at es in
    let size : length news ≡ length songs = length-entries_for (greatest + 1) songs in
    let whole : after ≡ take at es ++ (news ++ drop at es) = append_assoc (take at es) news (drop at es) in
    let there : at_positions (is_between at (at + length songs)) after ≡ news =
    (λ i. at_positions (is_between at (at + sym size i)) (whole i)) ∙ put-there es news at (inr within) in
    let passes : Entry → Bool = λ e. nat_le e.id greatest in
    record {
      old = (λ i. at_positions (λ position. not (is_between at (at + sym size i) position)) (whole i)) ∙ put-around es news at (inr within);
      songs_there = ap (map (λ (e : Entry). e.song)) there ∙ songs-for (greatest + 1) songs;
      ids = ap (map (λ (e : Entry). e.id)) there ∙ ids-for (greatest + 1) songs;
      priorities = λ entry has.
          let own : Contains news entry = subst (λ (l : List Entry). Contains l entry) there has in
          sym (ap (λ (e : Entry). e.priority) own.2) ∙ no-priority (greatest + 1) songs own.0 entry own.1;
      known = ap (filter passes) whole ∙ filter-append passes (take at es) (news ++ drop at es)
          ∙ (λ i. filter-all passes (take at es) (λ k d l. let h = All-take (λ e. e.id ≤ greatest) at es low k d l in le-leb _ _ h) i ++ filter-append passes news (drop at es) i)
          ∙ (λ i. take at es ++ (filter-none passes news (λ k d l. let h = above (greatest + 1) songs k d l in lt-leb _ _ (omega arith)) i
          ++ filter-all passes (drop at es) (λ k d l. let h = All-drop (λ e. e.id ≤ greatest) at es low k d l in le-leb _ _ h) i))
          ∙ take-append-drop at es;
    }
