-- The lines of positions, one after the other.
use Rattle.std.proofs.Common.{◌≡◌, ◌<◌, ◌≤◌, ◌+◌, ◌-◌, ℕ, zero, suc, Bool, true, false, List, [], ◌∷◌, ◌++◌, Option, Some, None, take, drop, filter, get_or, length, map, refl, ap, sym, ◌∙◌, arith, append_assoc, append-nil, add-one, drop-cons, if◌then◌else◌}
use Rattle.std.specs.Prelude.{slice_get}
use Rattle.std.specs.List.{enumerate_from, flat_map, range_with_len, slice_range}
use Rattle.std.specs.declared.ops.Range.{Range as Positions}
use Rattle.song_queue.specs.declared.entry.Entry.{Entry}
use Rattle.song_queue.specs.Entries.{row_of, rows_at}
use Rattle.song_queue.specs.State.{QueueState, queue_of, changed}
use Rattle.song_queue.proofs.Edits.{rows-changed}
use Rattle.std.proofs.lemmas.List.{drop_all}
use Rattle.queue_commands.specs.Queue.{is_in, is_between}

next_drop : (positions : List ℕ) (i : ℕ) → i < length positions → drop i positions ≡ get_or positions i 0 ∷ drop (i + 1) positions
next_drop positions i h = rw (add-one, drop-cons positions i 0 h) refl

module _ (f : ℕ × Entry → List ℕ) where
  abbrev text_of : List (ℕ × Entry) → List ℕ
  text_of rows = flat_map f rows

  text_of-append : (xs ys : List (ℕ × Entry)) → text_of (xs ++ ys) ≡ text_of xs ++ text_of ys
  text_of-append [] ys = refl
  text_of-append (x ∷ xs) ys = ap (λ (l : List ℕ). f x ++ l) (text_of-append xs ys) ∙ sym (append_assoc (f x) (text_of xs) (text_of ys))

  -- one more row
  pub one_row : (queue : List Entry) (positions : List ℕ) (i : ℕ) (a b total : List ℕ) → i < length positions
      → b ≡ a ++ text_of (row_of (get_or positions i 0) (slice_get queue (get_or positions i 0)))
      → a ++ text_of (rows_at queue (drop i positions)) ≡ total → b ++ text_of (rows_at queue (drop (i + 1) positions)) ≡ total
  one_row queue positions i a b total h more e =
      let p : ℕ = get_or positions i 0 in
      let row : List (ℕ × Entry) = row_of p (slice_get queue p) in
      let rest : List (ℕ × Entry) = rows_at queue (drop (i + 1) positions) in
      ap (λ (l : List ℕ). l ++ text_of rest) more
      ∙ append_assoc a (text_of row) (text_of rest)
      ∙ ap (λ (l : List ℕ). a ++ l) (sym (text_of-append row rest) ∙ ap (λ (l : List ℕ). text_of (rows_at queue l)) (sym (next_drop positions i h)))
      ∙ e

  -- after the last row
  pub all_rows : (queue : List Entry) (positions : List ℕ) (i : ℕ) (a total : List ℕ) → length positions ≤ i
      → a ++ text_of (rows_at queue (drop i positions)) ≡ total → a ≡ total
  all_rows queue positions i a total past e = sym (append-nil a) ∙ ap (λ (l : List ℕ). a ++ text_of (rows_at queue l)) (sym (drop_all i positions past)) ∙ e

one_within : (r : Positions ℕ) (position : ℕ) (entry : Option Entry) (rest : List (ℕ × Entry))
    → (if is_in r position then row_of position entry ++ filter (is_between r) rest else filter (is_between r) rest) ≡ filter (is_between r) (row_of position entry ++ rest)
one_within r position None rest = elim (is_in r position) as (λ b. (if b then filter (is_between r) rest else filter (is_between r) rest) ≡ filter (is_between r) rest) [ true ↦ refl | false ↦ refl ]
one_within r position (Some entry) rest = refl

-- the rows of the positions in a range are those of the rows that are in it
rows_within : (queue : List Entry) (r : Positions ℕ) (positions : List ℕ) → rows_at queue (filter (is_in r) positions) ≡ filter (is_between r) (rows_at queue positions)
rows_within queue r [] = refl
rows_within queue r (position ∷ positions) =
    let rest = rows_within queue r positions in
    let entry : Option Entry = slice_get queue position in
    elim (is_in r position) as (λ b. rows_at queue (if b then position ∷ filter (is_in r) positions else filter (is_in r) positions) ≡ (if b then row_of position entry ++ filter (is_between r) (rows_at queue positions) else filter (is_between r) (rows_at queue positions)))
    [ true ↦ ap (λ (l : List (ℕ × Entry)). row_of position entry ++ l) rest | false ↦ rest ]
    ∙ one_within r position entry (rows_at queue positions)

-- the changed positions in a range
pub changed_rows : (queue : QueueState) (version : ℕ) (r : Positions ℕ) (positions : List ℕ) → positions ≡ map (λ (row : ℕ × Entry). row.0) (changed queue version)
    → rows_at (queue_of queue) (filter (is_in r) positions) ≡ filter (is_between r) (changed queue version)
changed_rows queue version r positions are =
    rows_within (queue_of queue) r positions ∙ ap (λ (l : List ℕ). filter (is_between r) (rows_at (queue_of queue) l)) are ∙ ap (filter (is_between r)) (rows-changed queue version)

-- after the last position that is looked at
pub kept_all : (p : ℕ → Bool) (positions : List ℕ) (i : ℕ) (kept : List ℕ) → length positions ≤ i → kept ++ filter p (drop i positions) ≡ filter p positions → kept ≡ filter p positions
kept_all p positions i kept past e = sym (append-nil kept) ∙ ap (λ (l : List ℕ). kept ++ filter p l) (sym (drop_all i positions past)) ∙ e

range_split : (a k n : ℕ) → range_with_len a (k + n) ≡ range_with_len a k ++ range_with_len (a + k) n
range_split a zero n =
    let none : 0 + n ≡ n = omega arith in
    let here : a ≡ a + 0 = omega arith in
    ap (range_with_len a) none ∙ ap (λ (m : ℕ). range_with_len m n) here
range_split a (suc k) n =
    let long : suc k + n ≡ suc (k + n) = omega arith in
    let here : a + 1 + k ≡ a + suc k = omega arith in
    ap (range_with_len a) long ∙ ap (λ l. a ∷ l) (range_split (a + 1) k n ∙ ap (λ (m : ℕ). range_with_len (a + 1) k ++ range_with_len m n) here)

rows-append : (queue : List Entry) (ps qs : List ℕ) → rows_at queue (ps ++ qs) ≡ rows_at queue ps ++ rows_at queue qs
rows-append queue [] qs = refl
rows-append queue (p ∷ ps) qs = ap (λ l. row_of p (slice_get queue p) ++ l) (rows-append queue ps qs) ∙ sym (append_assoc (row_of p (slice_get queue p)) (rows_at queue ps) (rows_at queue qs))

-- what stands at a position, and behind it
front : {X : Type 0} (xs : List X) (a : ℕ) → a < length xs → (x : X) × (slice_get xs a ≡ Some x) × (drop a xs ≡ x ∷ drop (suc a) xs)
front [] a h = absurd (omega (arith, h))
front (x ∷ xs) zero h = (x, refl, refl)
front (x ∷ xs) (suc a) h = let more = front xs a (omega arith) in (more.0, more.1, more.2)

rows_of-part : (queue : List Entry) (a n : ℕ) → a + n ≤ length queue → rows_at queue (range_with_len a n) ≡ enumerate_from a (take n (drop a queue))
rows_of-part queue a zero h = refl
rows_of-part queue a (suc n) h =
    let here = front queue a (omega arith) in
    let one : a + 1 ≡ suc a = omega arith in
    ap (λ (o : Option Entry). row_of a o ++ rows_at queue (range_with_len (a + 1) n)) here.1
    ∙ ap (λ l. (a, here.0) ∷ l) (rows_of-part queue (a + 1) n (omega arith) ∙ ap (λ (m : ℕ). enumerate_from (a + 1) (take n (drop m queue))) one)
    ∙ sym (ap (λ (l : List Entry). enumerate_from a (take (suc n) l)) here.2)

-- entries that stand one after the other, as rows of their positions
pub rows_run : (queue : List Entry) (at n : ℕ) → at + n ≤ length queue → enumerate_from at (slice_range queue at (at + n)) ≡ rows_at queue (range_with_len at n)
rows_run queue at n h =
    let size : at + n - at ≡ n = omega arith in
    ap (λ (m : ℕ). enumerate_from at (take m (drop at queue))) size ∙ sym (rows_of-part queue at n h)

-- the rows up to a position, and some more
pub rows_more : (queue : List Entry) (from at n : ℕ) → from ≤ at → rows_at queue (range_with_len from (at + n - from)) ≡ rows_at queue (range_with_len from (at - from)) ++ rows_at queue (range_with_len at n)
rows_more queue from at n h =
    let size : at + n - from ≡ (at - from) + n = omega arith in
    let here : from + (at - from) ≡ at = omega arith in
    ap (λ (m : ℕ). rows_at queue (range_with_len from m)) size ∙ ap (rows_at queue) (range_split from (at - from) n ∙ ap (λ (m : ℕ). range_with_len from (at - from) ++ range_with_len m n) here)
    ∙ rows-append queue (range_with_len from (at - from)) (range_with_len at n)

-- the lines of one run more
pub one_run : (f : ℕ × Entry → List ℕ) (queue some : List Entry) (from at n : ℕ) (old : List ℕ) → from ≤ at → at + n ≤ length queue → some ≡ slice_range queue at (at + n)
    → old ≡ flat_map f (rows_at queue (range_with_len from (at - from))) → old ++ flat_map f (enumerate_from at some) ≡ flat_map f (rows_at queue (range_with_len from (at + n - from)))
one_run f queue some from at n old low high lent before =
    let more : enumerate_from at some ≡ rows_at queue (range_with_len at n) = ap (enumerate_from at) lent ∙ rows_run queue at n high in
    (λ t. before t ++ flat_map f (more t))
    ∙ sym (ap (flat_map f) (rows_more queue from at n low) ∙ text_of-append f (rows_at queue (range_with_len from (at - from))) (rows_at queue (range_with_len at n)))

enumerate-push : (a : ℕ) (xs : List Entry) (x : Entry) → enumerate_from a (xs ++ x ∷ []) ≡ enumerate_from a xs ++ (a + length xs, x) ∷ []
enumerate-push a [] x = let e : a ≡ a + 0 = omega arith in ap (λ (m : ℕ). (m, x) ∷ []) e
enumerate-push a (y ∷ xs) x =
    let e : a + 1 + length xs ≡ a + suc (length xs) = omega arith in
    ap (λ l. (a, y) ∷ l) (enumerate-push (a + 1) xs x ∙ ap (λ (m : ℕ). enumerate_from (a + 1) xs ++ (m, x) ∷ []) e)

-- the lines of one entry more
pub one_entry : (f : ℕ × Entry → List ℕ) (first position : ℕ) (done more : List Entry) (x : Entry) (start old : List ℕ) → more ≡ done ++ x ∷ [] → position ≡ first + length done
    → old ≡ start ++ flat_map f (enumerate_from first done) → old ++ flat_map f (row_of position (Some x)) ≡ start ++ flat_map f (enumerate_from first more)
one_entry f first position done more x start old grown at before =
    let rows : enumerate_from first more ≡ enumerate_from first done ++ (position, x) ∷ [] =
    ap (enumerate_from first) grown ∙ enumerate-push first done x ∙ ap (λ (m : ℕ). enumerate_from first done ++ (m, x) ∷ []) (sym at) in
    ap (λ (l : List ℕ). l ++ flat_map f (row_of position (Some x))) before
    ∙ append_assoc start (flat_map f (enumerate_from first done)) (flat_map f ((position, x) ∷ []))
    ∙ ap (λ (l : List ℕ). start ++ l) (sym (ap (flat_map f) rows ∙ text_of-append f (enumerate_from first done) ((position, x) ∷ [])))
