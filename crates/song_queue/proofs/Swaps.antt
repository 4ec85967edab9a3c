-- Two entries that are swapped.
use Rattle.std.proofs.Common.{◌≡◌, ◌≢◌, ◌⊎◌, ℕ, zero, suc, ◌<◌, ◌≤◌, Bool, true, false, cond, not, List, [], ◌∷◌, length, map, get_or, set, refl, ap, sym, subst, ◌∙◌, inl, inr, arith}
use Rattle.std.specs.Prelude.{All, swap}
use Rattle.std.proofs.lemmas.Bool.{cond-true, cond-false, cases_eq, cases_lt}
use Rattle.std.proofs.lemmas.List.{length-map, get_or-map, get_or_past, same_lists, set_comm}
use Rattle.std.proofs.lemmas.List.Edits.{swapped_from_swap, swap_is, length-swap}
use Rattle.std.proofs.lemmas.List.Elements.{All-get_or, All-set}
use Rattle.queue_slots.specs.declared.entry.Entry.{Entry}
use Rattle.queue_slots.specs.declared.entry.Slot.{Slot}
use Rattle.song_queue.specs.Entries.{same_entry}
use Rattle.song_queue.specs.State.{QueueState, IsQueue, restamped, kept, written, write_at, queue_of, swapped, wraps, next_version}
use Rattle.queue_slots.proofs.Exchanges.{length-write_at}
use Rattle.song_queue.proofs.Same.{same_entry-refl, same_entry-other}
use Rattle.song_queue.proofs.Edits.{Distinct, IsQueue-stays, edited-changed, edited-same}

-- a swap brings no entry in, wherever its positions are
pub All-swap : {X : Type 0} (P : X → Type 0) (es : List X) (a b : ℕ) → All P es → All P (swap es a b)
All-swap P [] a b all = all
All-swap P (e ∷ es) a b all =
    let list = e ∷ es in
    let first : P e = all 0 e (omega arith) in
    let read : (k : ℕ) → P (get_or list k e) = λ k. elim (cases_lt k (length list)) [
      | inl within ↦ All-get_or P list k e within all
      | inr past ↦ subst P (sym (get_or_past list k e past)) first
    ] in
    All-set P (set list a (get_or list b e)) b (get_or list a e) (read a) (All-set P list a (get_or list b e) (read b) all)

module _ (v : ℕ) (w : Bool) where
  get_or-write_at_same : (xs : List Slot) (i : ℕ) (d : Slot) → i < length xs → get_or (write_at v w xs i) i d ≡ written v w (get_or xs i d).entry
  get_or-write_at_same [] i d l = absurd (omega arith)
  get_or-write_at_same (x ∷ xs) zero d l = refl
  get_or-write_at_same (x ∷ xs) (suc i) d l = get_or-write_at_same xs i d (omega arith)

  get_or-write_at_other : (xs : List Slot) (i j : ℕ) (d : Slot) → j ≢ i → get_or (write_at v w xs i) j d ≡ get_or xs j d
  get_or-write_at_other [] i j d ne = refl
  get_or-write_at_other (x ∷ xs) zero zero d ne = absurd (ne refl)
  get_or-write_at_other (x ∷ xs) zero (suc j) d ne = refl
  get_or-write_at_other (x ∷ xs) (suc i) zero d ne = refl
  get_or-write_at_other (x ∷ xs) (suc i) (suc j) d ne = get_or-write_at_other xs i j d (λ e. ne (ap suc e))

  length-restamped : (ss : List Slot) (es : List Entry) → length (restamped v w ss es) ≡ length es
  length-restamped ss [] = refl
  length-restamped [] (e ∷ es) = ap suc (length-restamped [] es)
  length-restamped (s ∷ ss) (e ∷ es) = ap suc (length-restamped ss es)

  get_or-restamped : (ss : List Slot) (es : List Entry) (k : ℕ) (d : Slot) (f : Entry) → k < length ss → k < length es
      → get_or (restamped v w ss es) k d ≡ cond (same_entry (get_or ss k d).entry (get_or es k f)) (kept w (get_or ss k d)) (written v w (get_or es k f))
  get_or-restamped ss [] k d f l m = absurd (omega arith)
  get_or-restamped [] (e ∷ es) k d f l m = absurd (omega arith)
  get_or-restamped (s ∷ ss) (e ∷ es) zero d f l m = refl
  get_or-restamped (s ∷ ss) (e ∷ es) (suc k) d f l m = get_or-restamped ss es k d f (omega arith) (omega arith)

-- an entry of a list that has one
pub data One : Type 0 where
  one : Entry → One

pub some : (es : List Entry) → 0 < length es → One
some [] l = absurd (omega arith)
some (e ∷ es) l = one e

-- entries at two positions are two
pub Distinct-apart : (es : List Entry) → Distinct es → (i j : ℕ) (d : Entry) → i < length es → j < length es → i ≢ j → (get_or es i d).id ≢ (get_or es j d).id
Distinct-apart es h i j d li lj ne same = elim (cases_lt i j) [
  | inl below ↦ h i j d below lj same
  | inr above ↦ h j i d (omega arith) li (sym same)
]

module _ (es : List Entry) (a b : ℕ) (la : a < length es) (lb : b < length es) where
  -- where the entry at a position was before
  before : (k : ℕ) (d : Entry) → (m : ℕ) × (get_or (swap es a b) k d ≡ get_or es m d) × (((k ≡ a) × (m ≡ b)) ⊎ (((k ≡ b) × (m ≡ a)) ⊎ ((k ≢ a) × (k ≢ b) × (m ≡ k))))
  before k d =
      let s = swapped_from_swap es (swap es a b) a b d la lb refl in
      elim (cases_eq k a) [
        | inl e ↦ (b, ap (λ x. get_or (swap es a b) x d) e ∙ s.0, inl (e, refl))
        | inr na ↦ elim (cases_eq k b) [
          | inl e ↦ (a, ap (λ x. get_or (swap es a b) x d) e ∙ s.1, inr (inl (e, refl)))
          | inr nb ↦ (k, s.2 k na nb, inr (inr (na, nb, refl)))
        ]
      ]

  pub Distinct-swap : Distinct es → Distinct (swap es a b)
  Distinct-swap distinct i j d below within same =
      let size : length (swap es a b) ≡ length es = length-swap es a b in
      let p = before i d in
      let r = before j d in
      let one : (get_or (swap es a b) i d).id ≡ (get_or es p.0 d).id = ap (λ (x : Entry). x.id) p.1 in
      let two : (get_or (swap es a b) j d).id ≡ (get_or es r.0 d).id = ap (λ (x : Entry). x.id) r.1 in
      let P = p.2 in
      let R = r.2 in
      let lp : p.0 < length es = grind (arith, P) in
      let lr : r.0 < length es = grind (arith, R) in
      let ne : p.0 ≢ r.0 = grind (arith, P, R) in
      Distinct-apart es distinct p.0 r.0 d lp lr ne (sym one ∙ same ∙ two)

  swap-same : a ≡ b → es ≡ swap es a b
  swap-same e = same_lists es (swap es a b) (sym (length-swap es a b)) (λ k d l.
      let p = before k d in
      let P = p.2 in
      let same : p.0 ≡ k = grind (arith, e, P) in
      sym (p.1 ∙ ap (λ x. get_or es x d) same))

module _ (q : QueueState) (is : IsQueue q) (a b : ℕ) (la : a < length q.slots) (lb : b < length q.slots) where
  abbrev ss : List Slot
  ss = q.slots

  abbrev es : List Entry
  es = queue_of q

  abbrev after : List Entry
  after = swap es a b

  length-es : length es ≡ length ss
  length-es = length-map ss (λ (s : Slot). s.entry)

  pub IsQueue-swapped : IsQueue (swapped q a b)
  IsQueue-swapped =
      let size : length after ≡ length es = length-swap es a b in
      IsQueue-stays q after is (omega (arith, length-es)) (All-swap (λ e. e.id ≤ q.greatest_id) es a b is.ids) (Distinct-swap es a b (omega (arith, length-es)) (omega (arith, length-es)) is.distinct)

  abbrev v : ℕ
  v = next_version q

  abbrev w : Bool
  w = wraps q

  abbrev kepts : List Slot
  kepts = map (kept w) ss

  abbrev exchanged : List Slot
  exchanged = swap kepts a b

  abbrev first : List Slot
  first = write_at v w exchanged a

  length-exchanged : length exchanged ≡ length ss
  length-exchanged = length-swap kepts a b ∙ length-map ss (kept w)

  length-first : length first ≡ length ss
  length-first = length-write_at v w exchanged a ∙ length-exchanged

  length-after : length after ≡ length ss
  length-after = length-swap es a b ∙ length-es

  -- a slot whose entry is another one now
  restamped-moved : (k m : ℕ) (d : Slot) → k < length ss → m < length ss → k ≢ m → get_or after k d.entry ≡ get_or es m d.entry → get_or (restamped v w ss after) k d ≡ written v w (get_or ss m d).entry
  restamped-moved k m d lk lm ne moved =
      let entry : Slot → Entry = λ s. s.entry in
      let at_es : (i : ℕ) → i < length ss → get_or es i d.entry ≡ (get_or ss i d).entry = λ i li. get_or-map entry ss i d d.entry li in
      let apart : (get_or es k d.entry).id ≢ (get_or es m d.entry).id = Distinct-apart es is.distinct k m d.entry (omega (arith, length-es)) (omega (arith, length-es)) ne in
      let other : same_entry (get_or ss k d).entry (get_or after k d.entry) ≡ false =
      same_entry-other (get_or ss k d).entry (get_or after k d.entry) (λ x. apart (ap (λ (z : Entry). z.id) (at_es k lk) ∙ x ∙ ap (λ (z : Entry). z.id) moved)) in
      get_or-restamped v w ss after k d d.entry lk (omega (arith, length-after)) ∙ cond-false _ _ _ other ∙ ap (written v w) (moved ∙ at_es m lm)

  pub swapped-slots : a ≢ b → write_at v w first b ≡ restamped v w ss after
  swapped-slots ne =
      let size : length (write_at v w first b) ≡ length first = length-write_at v w first b in
      let size_r : length (restamped v w ss after) ≡ length after = length-restamped v w ss after in
      same_lists (write_at v w first b) (restamped v w ss after) (omega (arith, length-first, length-after)) (λ k d l.
      let lk : k < length ss = omega (arith, length-first) in
      let f : Entry = d.entry in
      let t = swapped_from_swap kepts exchanged a b d (omega (arith, length-map ss (kept w))) (omega (arith, length-map ss (kept w))) refl in
      let s = swapped_from_swap es after a b f (omega (arith, length-es)) (omega (arith, length-es)) refl in
      let at_kepts : (i : ℕ) → i < length ss → get_or kepts i d ≡ kept w (get_or ss i d) = λ i li. get_or-map (kept w) ss i d d li in
      elim (cases_eq k b) [
        | inl e ↦
            let old : get_or (write_at v w first b) b d ≡ written v w (get_or ss a d).entry =
            get_or-write_at_same v w first b d (omega (arith, length-first)) ∙ ap (λ (x : Slot). written v w x.entry) (get_or-write_at_other v w exchanged a b d (λ x. ne (sym x)) ∙ t.1 ∙ at_kepts a la) in
            ap (λ x. get_or (write_at v w first b) x d) e ∙ old ∙ sym (ap (λ x. get_or (restamped v w ss after) x d) e ∙ restamped-moved b a d lb la (λ x. ne (sym x)) s.1)
        | inr nb ↦ elim (cases_eq k a) [
          | inl e ↦
              let old : get_or (write_at v w first b) a d ≡ written v w (get_or ss b d).entry =
              get_or-write_at_other v w first b a d ne ∙ get_or-write_at_same v w exchanged a d (omega (arith, length-exchanged)) ∙ ap (λ (x : Slot). written v w x.entry) (t.0 ∙ at_kepts b lb) in
              ap (λ x. get_or (write_at v w first b) x d) e ∙ old ∙ sym (ap (λ x. get_or (restamped v w ss after) x d) e ∙ restamped-moved a b d la lb ne s.0)
          | inr na ↦
              let old : get_or (write_at v w first b) k d ≡ kept w (get_or ss k d) =
              get_or-write_at_other v w first b k d nb ∙ get_or-write_at_other v w exchanged a k d na ∙ t.2 k na nb ∙ at_kepts k lk in
              let now : get_or after k f ≡ (get_or ss k d).entry = s.2 k na nb ∙ get_or-map (λ (x : Slot). x.entry) ss k d f lk in
              let same : same_entry (get_or ss k d).entry (get_or after k f) ≡ true = ap (same_entry (get_or ss k d).entry) now ∙ same_entry-refl (get_or ss k d).entry in
              old ∙ sym (get_or-restamped v w ss after k d f lk (omega (arith, length-after)) ∙ cond-true _ _ _ same)
        ]
      ])

  -- an exchange of two positions changes the queue
  swapped-other : a ≢ b → es ≢ after
  swapped-other ne same = elim (some es (omega (arith, length-es))) as (λ _. ⊥) [
    | one d ↦
        let s = swapped_from_swap es after a b d (omega (arith, length-es)) (omega (arith, length-es)) refl in
        Distinct-apart es is.distinct a b d (omega (arith, length-es)) (omega (arith, length-es)) ne (ap (λ x. (get_or x a d).id) same ∙ ap (λ (x : Entry). x.id) s.0)
  ]

  -- the fields that the code leaves
  pub swapped-is : (v' : ℕ) (w' : Bool) (slots : List Slot) → v' ≡ v → w' ≡ w → a ≢ b → slots ≡ write_at v' w' (write_at v' w' (swap (map (kept w') ss) a b) a) b
      → record { slots = slots; version = v'; greatest_id = q.greatest_id; max_len = q.max_len; max_version = q.max_version; max_id = q.max_id; parity = not q.parity } ≡ swapped q a b
  swapped-is v' w' slots is_v is_w ne is_slots =
      let is_all : slots ≡ restamped v w ss after = is_slots ∙ (λ i. write_at (is_v i) (is_w i) (write_at (is_v i) (is_w i) (swap (map (kept (is_w i)) ss) a b) a) b) ∙ swapped-slots ne in
      (λ i. record { slots = is_all i; version = is_v i; greatest_id = q.greatest_id; max_len = q.max_len; max_version = q.max_version; max_id = q.max_id; parity = not q.parity }) ∙ sym (edited-changed q after (swapped-other ne))

  pub swapped-same : a ≡ b → swapped q a b ≡ q
  swapped-same e = edited-same q after (swap-same es a b (omega (arith, length-es)) (omega (arith, length-es)) e)

-- a swap of two positions is one of the lower and the higher of them
pub swap-either : {X : Type 0} (xs : List X) (a b low high : ℕ) → a < length xs → b < length xs → a ≢ b → ((low ≡ a) × (high ≡ b)) ⊎ ((low ≡ b) × (high ≡ a)) → swap xs low high ≡ swap xs a b
swap-either [] a b low high la lb ne e = refl
swap-either (x ∷ xs) a b low high la lb ne (inl e) = λ i. swap (x ∷ xs) (e.0 i) (e.1 i)
swap-either (x ∷ xs) a b low high la lb ne (inr e) =
    let list = x ∷ xs in
    (λ i. swap list (e.0 i) (e.1 i)) ∙ sym (swap_is list b a x lb la) ∙ set_comm list b a (get_or list a x) (get_or list b x) (λ same. ne (sym same)) ∙ swap_is list a b x la lb
