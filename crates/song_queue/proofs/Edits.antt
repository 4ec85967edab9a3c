-- What edits leave.
use Rattle.std.proofs.Common.{◌≡◌, ◌≢◌, ◌⊎◌, ℕ, zero, suc, ◌+◌, ◌-◌, ◌<◌, ◌≤◌, Bool, true, false, cond, not, List, [], ◌∷◌, ◌++◌, length, map, take, drop, get_or, refl, ap, sym, subst, ◌∙◌, inl, inr, arith, append_assoc, length-append, length-drop, length-take, min}
use Rattle.std.specs.Prelude.{All, AllPairs, Some, slice_get, filter}
use Rattle.std.specs.List.{enumerate_from, take-map}
use Rattle.std.proofs.lemmas.Bool.{cond-true, cond-false, cases_Bool, cases_lt, eqb-false}
use Rattle.std.proofs.lemmas.List.{take-append-drop, get_or_append_left, get_or-append_right, get_or-drop, get_or-take, get_or-map, length-take-le, append-nil, length-map, nil_from_length}
use Rattle.std.proofs.lemmas.List.Elements.{All-get_or, All-append, All-take, All-drop}
use Rattle.queue_slots.specs.declared.entry.Entry.{Entry}
use Rattle.queue_slots.specs.declared.entry.Slot.{Slot}
use Rattle.mpd_text.specs.Songs.Song.{SongData}
use Rattle.song_queue.specs.Entries.{same_entry, same_queue, entries_for, row_of, rows_at}
use Rattle.song_queue.specs.State.{QueueState, IsQueue, restamped, kept, written, entries_of, queue_of, edited, wraps, next_version, inserted, removed, is_changed, changed}
use Rattle.song_queue.proofs.Same.{same_entry-true, same_queue-refl, same_queue-true, same_queue-other}
use Rattle.song_queue.proofs.Restamps.{restamped-append, restamped-others}

abbrev pub Distinct : List Entry → Type 0
Distinct es = AllPairs (λ e f. e.id ≢ f.id) es

abbrev pub AtMost : ℕ → List Entry → Type 0
AtMost n es = All (λ e. e.id ≤ n) es

-- the state after an edit that changes something
abbrev pub stepped : QueueState → List Entry → QueueState
stepped q es = record q { slots = restamped (next_version q) (wraps q) q.slots es; version = next_version q; parity = not q.parity }

pub edited_cases : (q : QueueState) (es : List Entry) → ((edited q es ≡ q) × (queue_of q ≡ es)) ⊎ (edited q es ≡ stepped q es)
edited_cases q es = elim (cases_Bool (same_queue (queue_of q) es)) [
  | inl t ↦ inl (cond-true _ _ _ t, same_queue-true (queue_of q) es t)
  | inr t ↦ inr (cond-false _ _ _ t)
]

pub edited-changed : (q : QueueState) (es : List Entry) → queue_of q ≢ es → edited q es ≡ stepped q es
edited-changed q es ne = cond-false _ _ _ (same_queue-other (queue_of q) es ne)

pub edited-same : (q : QueueState) (es : List Entry) → queue_of q ≡ es → edited q es ≡ q
edited-same q es e = cond-true _ _ _ (ap (same_queue (queue_of q)) (sym e) ∙ same_queue-refl (queue_of q))

pub entries_of-restamped : (v : ℕ) (w : Bool) (ss : List Slot) (es : List Entry) → entries_of (restamped v w ss es) ≡ es
entries_of-restamped v w ss [] = refl
entries_of-restamped v w [] (e ∷ es) = λ i. e ∷ entries_of-restamped v w [] es i
entries_of-restamped v w (s ∷ ss) (e ∷ es) =
    let first : (cond (same_entry s.entry e) (kept w s) (written v w e)).entry ≡ e = elim (cases_Bool (same_entry s.entry e)) [
      | inl t ↦ ap (λ (x : Slot). x.entry) (cond-true _ _ _ t) ∙ same_entry-true s.entry e t
      | inr t ↦ ap (λ (x : Slot). x.entry) (cond-false _ _ _ t)
    ] in
    λ i. first i ∷ entries_of-restamped v w ss es i

pub version-next_version : (q : QueueState) → (1 ≤ q.version) × (q.version ≤ q.max_version) → (1 ≤ next_version q) × (next_version q ≤ q.max_version)
version-next_version q h = elim (cases_Bool (wraps q)) [
  | inl t ↦ let e : next_version q ≡ 1 = cond-true _ _ _ t in let low = h.0 in let high = h.1 in (omega arith, omega arith)
  | inr t ↦
      let e : next_version q ≡ q.version + 1 = cond-false _ _ _ t in
      let low = h.0 in let high = h.1 in
      let other : q.version ≢ q.max_version = eqb-false q.version q.max_version t in
      (omega arith, omega arith)
]

-- an edit of a queue, with room for its entries and ids, gives a queue
pub IsQueue-edited : (q : QueueState) (es : List Entry) (g : ℕ) → IsQueue q → length es ≤ q.max_len → AtMost g es → Distinct es → g ≤ q.max_id → IsQueue (record (edited q es) { greatest_id = g })
IsQueue-edited q es g is room low distinct ids =
    let P : QueueState → Type 0 = λ x. IsQueue (record x { greatest_id = g }) in
    elim (edited_cases q es) [
      | inl p ↦ subst P (sym p.0) (record { len = is.len; version = is.version; ids = subst (AtMost g) (sym p.1) low; distinct = subst Distinct (sym p.1) distinct; greatest_id = ids })
      | inr p ↦
          let left : queue_of (stepped q es) ≡ es = entries_of-restamped (next_version q) (wraps q) q.slots es in
          let size : length (queue_of (stepped q es)) ≡ length (stepped q es).slots = length-map (stepped q es).slots (λ (s : Slot). s.entry) in
          let size' : length (queue_of (stepped q es)) ≡ length es = ap length left in
          subst P (sym p) (record {
            len = omega arith;
            version = version-next_version q is.version;
            ids = subst (AtMost g) (sym left) low;
            distinct = subst Distinct (sym left) distinct;
            greatest_id = ids;
          })
    ]

-- an edit that brings no entry in gives a queue
pub IsQueue-stays : (q : QueueState) (es : List Entry) → IsQueue q → length es ≤ length q.slots → AtMost q.greatest_id es → Distinct es → IsQueue (edited q es)
IsQueue-stays q es is few low distinct =
    let room = is.len in
    let same : (edited q es).greatest_id ≡ q.greatest_id = elim (edited_cases q es) [ inl p ↦ ap (λ (x : QueueState). x.greatest_id) p.0 | inr p ↦ ap (λ (x : QueueState). x.greatest_id) p ] in
    let P : ℕ → Type 0 = λ g. IsQueue (record (edited q es) { greatest_id = g }) in
    subst P (sym same) (IsQueue-edited q es q.greatest_id is (omega arith) low distinct is.greatest_id)

-- the fields that the code leaves after an edit that changes something and adds no id
pub edited-is : (q : QueueState) (left : List Entry → List Entry) (v : ℕ) (w : Bool) (ss slots : List Slot) → v ≡ next_version q → w ≡ wraps q → ss ≡ q.slots → queue_of q ≢ left (queue_of q)
    → slots ≡ restamped v w ss (left (entries_of ss))
    → record { slots = slots; version = v; greatest_id = q.greatest_id; max_len = q.max_len; max_version = q.max_version; max_id = q.max_id; parity = not q.parity } ≡ edited q (left (queue_of q))
edited-is q left v w ss slots is_v is_w is_old other is_slots =
    let is_all : slots ≡ restamped (next_version q) (wraps q) q.slots (left (queue_of q)) = is_slots ∙ (λ i. restamped (is_v i) (is_w i) (is_old i) (left (entries_of (is_old i)))) in
    (λ i. record { slots = is_all i; version = is_v i; greatest_id = q.greatest_id; max_len = q.max_len; max_version = q.max_version; max_id = q.max_id; parity = not q.parity }) ∙ sym (edited-changed q (left (queue_of q)) other)

-- an edit that keeps what is before a position, and gives each later slot another id
pub stepped-joined : (q : QueueState) (at : ℕ) (es : List Entry)
    → ((i : ℕ) (s : Slot) (e : Entry) → i < length (drop at q.slots) → i < length es → (get_or (drop at q.slots) i s).entry.id ≢ (get_or es i e).id)
    → restamped (next_version q) (wraps q) q.slots (take at (queue_of q) ++ es) ≡ map (kept (wraps q)) (take at q.slots) ++ map (written (next_version q) (wraps q)) es
stepped-joined q at es others =
    let v = next_version q in
    let w = wraps q in
    let ss = q.slots in
    let entry : Slot → Entry = λ s. s.entry in
    let front : take at (queue_of q) ≡ entries_of (take at ss) = take-map entry at ss in
    (λ i. restamped v w (sym (take-append-drop at ss) i) (front i ++ es)) ∙ restamped-append v w (take at ss) (drop at ss) es ∙ ap (λ x. map (kept w) (take at ss) ++ x) (restamped-others v w (drop at ss) es others)

-- distinct ids, list by list
pub Distinct-append : (xs ys : List Entry) → Distinct xs → Distinct ys → ((i j : ℕ) (d : Entry) → i < length xs → j < length ys → (get_or xs i d).id ≢ (get_or ys j d).id) → Distinct (xs ++ ys)
Distinct-append xs ys dx dy cross i j d below within same =
    let total : length (xs ++ ys) ≡ length xs + length ys = length-append xs ys in
    let id : Entry → ℕ = λ e. e.id in
    elim (cases_lt j (length xs)) [
      | inl left ↦
          let i_left : i < length xs = omega arith in
          dx i j d below left (sym (ap id (get_or_append_left xs ys d i i_left)) ∙ same ∙ ap id (get_or_append_left xs ys d j left))
      | inr right ↦ elim (cases_lt i (length xs)) [
        | inl left ↦ cross i (j - length xs) d left (omega arith) (sym (ap id (get_or_append_left xs ys d i left)) ∙ same ∙ ap id (get_or-append_right xs ys (length xs) j d refl right))
        | inr i_right ↦ dy (i - length xs) (j - length xs) d (omega arith) (omega arith)
            (sym (ap id (get_or-append_right xs ys (length xs) i d refl i_right)) ∙ same ∙ ap id (get_or-append_right xs ys (length xs) j d refl right))
      ]
    ]

pub Distinct-take : (n : ℕ) (xs : List Entry) → Distinct xs → Distinct (take n xs)
Distinct-take n xs dx i j d below within same =
    let size : length (take n xs) ≡ min n (length xs) = length-take n xs in
    let id : Entry → ℕ = λ e. e.id in
    dx i j d below (omega arith) (sym (ap id (get_or-take n xs i d (omega arith))) ∙ same ∙ ap id (get_or-take n xs j d (omega arith)))

pub Distinct-drop : (n : ℕ) (xs : List Entry) → Distinct xs → Distinct (drop n xs)
Distinct-drop n xs dx i j d below within same =
    let size : length (drop n xs) ≡ length xs - n = length-drop n xs in
    let id : Entry → ℕ = λ e. e.id in
    dx (n + i) (n + j) d (omega arith) (omega arith) (sym (ap id (get_or-drop n xs i d)) ∙ same ∙ ap id (get_or-drop n xs j d))

pub length-entries_for : (f : ℕ) (songs : List SongData) → length (entries_for f songs) ≡ length songs
length-entries_for f [] = refl
length-entries_for f (x ∷ xs) = ap suc (length-entries_for (f + 1) xs)

pub get_or-entries_for : (f : ℕ) (songs : List SongData) (i : ℕ) (d : Entry) → i < length songs → (get_or (entries_for f songs) i d).id ≡ f + i
get_or-entries_for f [] i d l = absurd (omega arith)
get_or-entries_for f (x ∷ xs) zero d l = omega arith
get_or-entries_for f (x ∷ xs) (suc i) d l = let rec : (get_or (entries_for (f + 1) xs) i d).id ≡ f + 1 + i = get_or-entries_for (f + 1) xs i d (omega arith) in omega arith

pub Distinct-entries_for : (f : ℕ) (songs : List SongData) → Distinct (entries_for f songs)
Distinct-entries_for f songs i j d below within same =
    let size : length (entries_for f songs) ≡ length songs = length-entries_for f songs in
    let one : (get_or (entries_for f songs) i d).id ≡ f + i = get_or-entries_for f songs i d (omega arith) in
    let two : (get_or (entries_for f songs) j d).id ≡ f + j = get_or-entries_for f songs j d (omega arith) in
    omega arith

pub AtMost-entries_for : (f n : ℕ) (songs : List SongData) → f + length songs ≤ n + 1 → AtMost n (entries_for f songs)
AtMost-entries_for f n songs le k d high =
    let size : length (entries_for f songs) ≡ length songs = length-entries_for f songs in
    let one : (get_or (entries_for f songs) k d).id ≡ f + k = get_or-entries_for f songs k d (omega arith) in
    omega arith

pub AtMost-more : (m n : ℕ) (es : List Entry) → m ≤ n → AtMost m es → AtMost n es
AtMost-more m n es le h k d high = let one : (get_or es k d).id ≤ m = h k d high in omega arith

-- ids stay distinct where songs are put in
pub Distinct-put : (es : List Entry) (g at : ℕ) (songs : List SongData) → Distinct es → AtMost g es → at ≤ length es → Distinct (take at es ++ (entries_for (g + 1) songs ++ drop at es))
Distinct-put es g at songs distinct ids within =
    let id : Entry → ℕ = λ e. e.id in
    let news : List Entry = entries_for (g + 1) songs in
    let size : length news ≡ length songs = length-entries_for (g + 1) songs in
    let dropped : length (drop at es) ≡ length es - at = length-drop at es in
    let taken : length (take at es) ≡ at = length-take-le at es within in
    let both : length (news ++ drop at es) ≡ length news + length (drop at es) = length-append news (drop at es) in
    Distinct-append (take at es) (news ++ drop at es) (Distinct-take at es distinct)
    (Distinct-append news (drop at es) (Distinct-entries_for (g + 1) songs) (Distinct-drop at es distinct)
    (λ i j d li lj same.
    let one : (get_or news i d).id ≡ g + 1 + i = get_or-entries_for (g + 1) songs i d (omega arith) in
    let two : (get_or (drop at es) j d).id ≤ g = All-get_or (λ e. e.id ≤ g) (drop at es) j d lj (All-drop (λ e. e.id ≤ g) at es ids) in
    omega arith))
    (λ i j d li lj same. elim (cases_lt j (length news)) [
      | inl left ↦
          let one : (get_or (take at es) i d).id ≤ g = All-get_or (λ e. e.id ≤ g) (take at es) i d li (All-take (λ e. e.id ≤ g) at es ids) in
          let two : (get_or news j d).id ≡ g + 1 + j = get_or-entries_for (g + 1) songs j d (omega arith) in
          let three : (get_or (news ++ drop at es) j d).id ≡ (get_or news j d).id = ap id (get_or_append_left news (drop at es) d j left) in
          omega arith
      | inr right ↦
          let one : (get_or (news ++ drop at es) j d).id ≡ (get_or es (at + (j - length news)) d).id = ap id (get_or-append_right news (drop at es) (length news) j d refl right ∙ get_or-drop at es (j - length news) d) in
          let two : (get_or (take at es) i d).id ≡ (get_or es i d).id = ap id (get_or-take at es i d (omega arith)) in
          distinct i (at + (j - length news)) d (omega arith) (omega arith) (sym two ∙ same ∙ one)
    ])

-- and where entries are taken out
pub Distinct-cut : (es : List Entry) (start end : ℕ) → Distinct es → start ≤ end → end ≤ length es → Distinct (take start es ++ drop end es)
Distinct-cut es start end distinct order within =
    let id : Entry → ℕ = λ e. e.id in
    let taken : length (take start es) ≡ start = length-take-le start es (omega arith) in
    let dropped : length (drop end es) ≡ length es - end = length-drop end es in
    Distinct-append (take start es) (drop end es) (Distinct-take start es distinct) (Distinct-drop end es distinct)
    (λ i j d li lj same.
    let one : (get_or (take start es) i d).id ≡ (get_or es i d).id = ap id (get_or-take start es i d (omega arith)) in
    let two : (get_or (drop end es) j d).id ≡ (get_or es (end + j) d).id = ap id (get_or-drop end es j d) in
    distinct i (end + j) d (omega arith) (omega arith) (sym one ∙ same ∙ two))

-- songs put in
module _ (q : QueueState) (is : IsQueue q) (at : ℕ) (songs : List SongData) (within : at ≤ length q.slots) where
  abbrev g : ℕ
  g = q.greatest_id

  abbrev es : List Entry
  es = queue_of q

  abbrev news : List Entry
  news = entries_for (g + 1) songs

  abbrev after : List Entry
  after = take at es ++ (news ++ drop at es)

  length-es : length es ≡ length q.slots
  length-es = length-map q.slots (λ (s : Slot). s.entry)

  length-after : length after ≡ length q.slots + length songs
  length-after =
      let a = length-append (take at es) (news ++ drop at es) in
      let b = length-append news (drop at es) in
      let c = length-entries_for (g + 1) songs in
      let d = length-drop at es in
      let e = length-take-le at es (omega (arith, length-es)) in
      omega (arith, length-es)

  Distinct-after : Distinct after
  Distinct-after = Distinct-put es g at songs is.distinct is.ids (omega (arith, length-es))

  pub IsQueue-inserted : length q.slots + length songs ≤ q.max_len → g + length songs ≤ q.max_id → IsQueue (inserted q at songs)
  IsQueue-inserted room ids =
      let same : take at es ++ news ++ drop at es ≡ after = append_assoc (take at es) news (drop at es) in
      let P : List Entry → Type 0 = λ x. IsQueue (record (edited q x) { greatest_id = g + length songs }) in
      let low : AtMost (g + length songs) es = AtMost-more g (g + length songs) es (omega arith) is.ids in
      let B : Entry → Type 0 = λ e. e.id ≤ g + length songs in
      subst P (sym same) (IsQueue-edited q after (g + length songs) is (omega (arith, length-after))
      (All-append B (take at es) (news ++ drop at es) (All-take B at es low) (All-append B news (drop at es) (AtMost-entries_for (g + 1) (g + length songs) songs (omega arith)) (All-drop B at es low)))
      Distinct-after ids)

  -- each slot from the position on gets another id
  inserted-others : 0 < length songs → (i : ℕ) (s : Slot) (e : Entry) → i < length (drop at q.slots) → i < length (news ++ drop at es) → (get_or (drop at q.slots) i s).entry.id ≢ (get_or (news ++ drop at es) i e).id
  inserted-others some i s e l m same =
      let id : Entry → ℕ = λ x. x.id in
      let entry : Slot → Entry = λ x. x.entry in
      let size : length news ≡ length songs = length-entries_for (g + 1) songs in
      let dropped : length (drop at q.slots) ≡ length q.slots - at = length-drop at q.slots in
      let inside : at + i < length es = omega (arith, length-es) in
      let old : (get_or (drop at q.slots) i s).entry.id ≡ (get_or es (at + i) e).id =
      ap (λ x. x.entry.id) (get_or-drop at q.slots i s) ∙ ap id (sym (get_or-map entry q.slots (at + i) s e (omega arith))) in
      elim (cases_lt i (length news)) [
        | inl left ↦
            let one : (get_or (news ++ drop at es) i e).id ≡ (get_or news i e).id = ap id (get_or_append_left news (drop at es) e i left) in
            let two : (get_or news i e).id ≡ g + 1 + i = get_or-entries_for (g + 1) songs i e (omega arith) in
            let three : (get_or es (at + i) e).id ≤ g = All-get_or (λ x. x.id ≤ g) es (at + i) e inside is.ids in
            omega arith
        | inr right ↦
            let one : (get_or (news ++ drop at es) i e).id ≡ (get_or es (at + (i - length news)) e).id = ap id (get_or-append_right news (drop at es) (length news) i e refl right ∙ get_or-drop at es (i - length news) e) in
            is.distinct (at + (i - length news)) (at + i) e (omega arith) inside (sym one ∙ sym same ∙ old)
      ]

  pub inserted-slots : 0 < length songs → inserted q at songs ≡ record {
    slots = map (kept (wraps q)) (take at q.slots) ++ map (written (next_version q) (wraps q)) (news ++ drop at es);
    version = next_version q;
    greatest_id = g + length songs;
    max_len = q.max_len;
    max_version = q.max_version;
    max_id = q.max_id;
    parity = not q.parity;
  }
  inserted-slots some =
      let same : take at es ++ news ++ drop at es ≡ after = append_assoc (take at es) news (drop at es) in
      let other : es ≢ after = λ e. let size : length es ≡ length after = ap length e in omega (arith, length-es, length-after) in
      let slots = stepped-joined q at (news ++ drop at es) (inserted-others some) in
      (λ i. record (edited q (same i)) { greatest_id = g + length songs }) ∙ (λ i. record (edited-changed q after other i) { greatest_id = g + length songs })
      ∙ (λ i. record { slots = slots i; version = next_version q; greatest_id = g + length songs; max_len = q.max_len; max_version = q.max_version; max_id = q.max_id; parity = not q.parity })

  pub inserted-nothing : length songs ≡ 0 → inserted q at songs ≡ q
  inserted-nothing none =
      let nothing : songs ≡ [] = nil_from_length songs none in
      let joined : es ≡ take at es ++ [] ++ drop at es = sym (ap (λ x. x ++ drop at es) (append-nil (take at es)) ∙ take-append-drop at es) in
      let same : g + 0 ≡ g = omega arith in
      ap (λ x. inserted q at x) nothing ∙ (λ i. record (edited-same q (take at es ++ [] ++ drop at es) joined i) { greatest_id = same i })

  -- the fields that the code leaves
  pub inserted-is : (v n : ℕ) (w : Bool) (added slots : List Slot) → v ≡ next_version q → w ≡ wraps q → n ≡ length songs → 0 < n → entries_of added ≡ news
      → slots ≡ map (kept w) (take at q.slots) ++ map (written v w) (entries_of added ++ drop at es)
      → record { slots = slots; version = v; greatest_id = g + n; max_len = q.max_len; max_version = q.max_version; max_id = q.max_id; parity = not q.parity } ≡ inserted q at songs
  inserted-is v n w added slots is_v is_w is_n some is_news is_slots =
      let some' : 0 < length songs = omega arith in
      let is_all : slots ≡ map (kept (wraps q)) (take at q.slots) ++ map (written (next_version q) (wraps q)) (news ++ drop at es) =
      is_slots ∙ (λ i. map (kept (is_w i)) (take at q.slots) ++ map (written (is_v i) (is_w i)) (is_news i ++ drop at es)) in
      (λ i. record { slots = is_all i; version = is_v i; greatest_id = g + is_n i; max_len = q.max_len; max_version = q.max_version; max_id = q.max_id; parity = not q.parity }) ∙ sym (inserted-slots some')

-- entries taken out
module _ (q : QueueState) (is : IsQueue q) (start end : ℕ) (order : start ≤ end) (within : end ≤ length q.slots) where
  abbrev all : List Entry
  all = queue_of q

  abbrev left : List Entry
  left = take start all ++ drop end all

  length-all : length all ≡ length q.slots
  length-all = length-map q.slots (λ (s : Slot). s.entry)

  length-left : length left + end ≡ length q.slots + start
  length-left =
      let a = length-append (take start all) (drop end all) in
      let b = length-take-le start all (omega (arith, length-all)) in
      let c = length-drop end all in
      omega (arith, length-all)

  Distinct-left : Distinct left
  Distinct-left = Distinct-cut all start end is.distinct order (omega (arith, length-all))

  pub IsQueue-removed : IsQueue (removed q start end)
  IsQueue-removed =
      let B : Entry → Type 0 = λ e. e.id ≤ q.greatest_id in
      IsQueue-stays q left is (omega (arith, length-left)) (All-append B (take start all) (drop end all) (All-take B start all is.ids) (All-drop B end all is.ids)) Distinct-left

  removed-others : start < end → (i : ℕ) (s : Slot) (e : Entry) → i < length (drop start q.slots) → i < length (drop end all) → (get_or (drop start q.slots) i s).entry.id ≢ (get_or (drop end all) i e).id
  removed-others some i s e l m same =
      let id : Entry → ℕ = λ x. x.id in
      let entry : Slot → Entry = λ x. x.entry in
      let a : length (drop start q.slots) ≡ length q.slots - start = length-drop start q.slots in
      let b : length (drop end all) ≡ length all - end = length-drop end all in
      let old : (get_or (drop start q.slots) i s).entry.id ≡ (get_or all (start + i) e).id =
      ap (λ x. x.entry.id) (get_or-drop start q.slots i s) ∙ ap id (sym (get_or-map entry q.slots (start + i) s e (omega arith))) in
      let new : (get_or (drop end all) i e).id ≡ (get_or all (end + i) e).id = ap id (get_or-drop end all i e) in
      is.distinct (start + i) (end + i) e (omega arith) (omega (arith, length-all)) (sym old ∙ same ∙ new)

  -- the fields that the code leaves
  pub removed-is : (v : ℕ) (w : Bool) (slots : List Slot) → v ≡ next_version q → w ≡ wraps q → start < end
      → slots ≡ map (kept w) (take start q.slots) ++ map (written v w) (drop end all)
      → record { slots = slots; version = v; greatest_id = q.greatest_id; max_len = q.max_len; max_version = q.max_version; max_id = q.max_id; parity = not q.parity } ≡ removed q start end
  removed-is v w slots is_v is_w some is_slots =
      let is_all : slots ≡ map (kept (wraps q)) (take start q.slots) ++ map (written (next_version q) (wraps q)) (drop end all) =
      is_slots ∙ (λ i. map (kept (is_w i)) (take start q.slots) ++ map (written (is_v i) (is_w i)) (drop end all)) in
      let other : all ≢ left = λ e. let size : length all ≡ length left = ap length e in omega (arith, length-all, length-left) in
      let stamps = stepped-joined q start (drop end all) (removed-others some) in
      (λ i. record { slots = (is_all ∙ sym stamps) i; version = is_v i; greatest_id = q.greatest_id; max_len = q.max_len; max_version = q.max_version; max_id = q.max_id; parity = not q.parity }) ∙ sym (edited-changed q left other)

  -- they are a queue, whatever the parity
  pub IsQueue-left : (v : ℕ) (w p : Bool) (slots : List Slot) → v ≡ next_version q → w ≡ wraps q → start < end
      → slots ≡ map (kept w) (take start q.slots) ++ map (written v w) (drop end all)
      → IsQueue (record { slots = slots; version = v; greatest_id = q.greatest_id; max_len = q.max_len; max_version = q.max_version; max_id = q.max_id; parity = p })
  IsQueue-left v w p slots is_v is_w some is_slots =
      let valid : IsQueue (record { slots = slots; version = v; greatest_id = q.greatest_id; max_len = q.max_len; max_version = q.max_version; max_id = q.max_id; parity = not q.parity }) = subst IsQueue (sym (removed-is v w slots is_v is_w some is_slots)) IsQueue-removed in
      record { len = valid.len; version = valid.version; ids = valid.ids; distinct = valid.distinct; greatest_id = valid.greatest_id }

pub removed-nothing : (q : QueueState) (start : ℕ) → removed q start start ≡ q
removed-nothing q start = edited-same q (take start (queue_of q) ++ drop start (queue_of q)) (sym (take-append-drop start (queue_of q)))

-- the positions of rows
pub map-rows : (xs : List (ℕ × Slot)) → map (λ (p : ℕ × Entry). p.0) (map (λ (p : ℕ × Slot). (p.0, p.1.entry)) xs) ≡ map (λ (p : ℕ × Slot). p.0) xs
map-rows [] = refl
map-rows (x ∷ xs) = λ i. x.0 ∷ map-rows xs i

-- the rows at the positions of the changed slots are the changed slots
module _ (q : QueueState) (v : ℕ) where
  abbrev shown : ℕ → List Slot → List (ℕ × Slot)
  shown n ss = filter (λ (p : ℕ × Slot). is_changed q v p.1) (enumerate_from n ss)

  rows-from : (n : ℕ) (ss : List Slot) → ((i : ℕ) → slice_get (queue_of q) (n + i) ≡ slice_get (entries_of ss) i)
      → rows_at (queue_of q) (map (λ (p : ℕ × Slot). p.0) (shown n ss)) ≡ map (λ (p : ℕ × Slot). (p.0, p.1.entry)) (shown n ss)
  rows-from n [] h = refl
  rows-from n (s ∷ ss) h =
      let here : slice_get (queue_of q) n ≡ Some s.entry = ap (λ k. slice_get (queue_of q) k) (omega arith) ∙ h 0 in
      let rest = rows-from (n + 1) ss (λ i. ap (λ k. slice_get (queue_of q) k) (omega arith) ∙ h (suc i)) in
      elim (is_changed q v s) as (λ b. rows_at (queue_of q) (map (λ (p : ℕ × Slot). p.0) (cond b ((n, s) ∷ shown (n + 1) ss) (shown (n + 1) ss)))
      ≡ map (λ (p : ℕ × Slot). (p.0, p.1.entry)) (cond b ((n, s) ∷ shown (n + 1) ss) (shown (n + 1) ss))) [
        | true ↦ ap (λ e. row_of n e ++ rows_at (queue_of q) (map (λ (p : ℕ × Slot). p.0) (shown (n + 1) ss))) here ∙ ap (λ x. (n, s.entry) ∷ x) rest
        | false ↦ rest
      ]

  pub rows-changed : rows_at (queue_of q) (map (λ (p : ℕ × Entry). p.0) (changed q v)) ≡ changed q v
  rows-changed = ap (λ x. rows_at (queue_of q) x) (map-rows (shown 0 q.slots)) ∙ rows-from 0 q.slots (λ i. ap (λ n. slice_get (queue_of q) n) (omega arith))
