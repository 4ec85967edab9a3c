-- The order that a round keeps of a queue: what it gives first is the entry that comes first.
use Rattle.std.proofs.Common.{◌≡◌, ℕ, zero, suc, ◌+◌, ◌-◌, ◌<◌, Bool, true, false, ◌&&◌, ◌||◌, ◌==◌, cond, List, [], ◌∷◌, ◌++◌, length, map, take, drop, get_or, Less, Equal, Greater, refl, ap, sym, subst, ◌∙◌, inl, inr, arith}
use Rattle.std.specs.List.{slice_range}
use Rattle.std.specs.declared.cmp.Ordering.{Ordering}
use Rattle.std.specs.Ordering.{is_eq, nat_cmp, ordering_then}
use Rattle.std.proofs.lemmas.Bool.{cond-true, cond-false, cases_lt, cases_eq, and_parts, and_from, eq-eqb, eqb-true, ne_eqb, lt-ltb, le-ltb}
use Rattle.std.proofs.lemmas.List.{take_more}
use Rattle.std.proofs.lemmas.List.Elements.{filter-append}
use Rattle.song_queue.specs.declared.entry.Entry.{Entry}
use Rattle.song_queue.specs.declared.entry.Slot.{Slot}
use Rattle.song_queue.specs.State.{entries_of}
use Rattle.play_order.specs.declared.modes.Rank.{Rank}
use Rattle.play_order.specs.Draws.{rank_of}
use Rattle.play_order.specs.Waits.{AreOf, Key, has_key, is_unplayed, key_cmp, key_of, ranked_key, priority_and_id_by_key, priority_and_id, unplayed_keys}
use Rattle.play_order.proofs.Lists.{append-nil, map-append, slice_range-front, slice_range-join}

pub nat_cmp-lt : (a b : ℕ) → a < b → nat_cmp a b ≡ Less
nat_cmp-lt a b l = cond-true _ _ _ (lt-ltb a b l)

pub nat_cmp-eq : (a b : ℕ) → a ≡ b → nat_cmp a b ≡ Equal
nat_cmp-eq a b e = cond-false _ _ _ (le-ltb a b (omega arith)) ∙ cond-true _ _ _ (eq-eqb a b e)

pub nat_cmp-gt : (a b : ℕ) → b < a → nat_cmp a b ≡ Greater
nat_cmp-gt a b l = cond-false _ _ _ (le-ltb a b (omega arith)) ∙ cond-false _ _ _ (ne_eqb a b (λ e. omega arith))

is_eq-nat_cmp : (a b : ℕ) → is_eq (nat_cmp a b) ≡ (a == b)
is_eq-nat_cmp a b = elim (cases_lt a b) [
  | inl l ↦ ap is_eq (nat_cmp-lt a b l) ∙ sym (ne_eqb a b (λ e. omega arith))
  | inr m ↦ elim (cases_eq a b) [
    | inl e ↦ ap is_eq (nat_cmp-eq a b e) ∙ sym (eq-eqb a b e)
    | inr n ↦ ap is_eq (nat_cmp-gt a b (omega arith)) ∙ sym (ne_eqb a b n)
  ]
]

is_eq-then : (r s : Ordering) → is_eq (ordering_then r s) ≡ (is_eq r && is_eq s)
is_eq-then Less s = refl
is_eq-then Equal s = refl
is_eq-then Greater s = refl

-- whether two keys are the same
abbrev pub same_key : Key → Key → Bool
same_key a b = ((a.0 == b.0) && (a.1 == b.1)) && (a.2 == b.2)

pub is_eq-key : (a b : Key) → is_eq (key_cmp a b) ≡ same_key a b
is_eq-key a b =
    is_eq-then (ordering_then (nat_cmp a.0 b.0) (nat_cmp a.1 b.1)) (nat_cmp a.2 b.2)
    ∙ (λ i. (is_eq-then (nat_cmp a.0 b.0) (nat_cmp a.1 b.1) ∙ (λ j. is_eq-nat_cmp a.0 b.0 j && is_eq-nat_cmp a.1 b.1 j)) i && is_eq-nat_cmp a.2 b.2 i)

pub same_key-refl : (k : Key) → same_key k k ≡ true
same_key-refl k = and_from _ _ (and_from _ _ (eq-eqb k.0 k.0 refl) (eq-eqb k.1 k.1 refl)) (eq-eqb k.2 k.2 refl)

pub same_key-is : (a b : Key) → same_key a b ≡ true → a ≡ b
same_key-is a b t =
    let p = and_parts ((a.0 == b.0) && (a.1 == b.1)) (a.2 == b.2) t in
    let q = and_parts (a.0 == b.0) (a.1 == b.1) p.0 in
    let x = eqb-true a.0 b.0 q.0 in
    let y = eqb-true a.1 b.1 q.1 in
    let z = eqb-true a.2 b.2 p.1 in
    λ i. (x i, y i, z i)

eqb-sym : (a b : ℕ) → (a == b) ≡ (b == a)
eqb-sym a b = grind arith

pub is_eq-sym : (a b : Key) → is_eq (key_cmp a b) ≡ is_eq (key_cmp b a)
is_eq-sym a b = is_eq-key a b ∙ (λ i. (eqb-sym a.0 b.0 i && eqb-sym a.1 b.1 i) && eqb-sym a.2 b.2 i) ∙ sym (is_eq-key b a)

-- whether a list has a key, with one more behind it
pub has_key-more : (keys : List Key) (x k : Key) → has_key (keys ++ x ∷ []) k ≡ (is_eq (key_cmp k x) || has_key keys k)
has_key-more [] x k = refl
has_key-more (y ∷ ys) x k = grind (arith, has_key-more ys x k)

-- a list has the keys that it keeps of others
pub has_key-filter : (played : List ℕ) (known : List Key) (k : Key) → has_key (unplayed_keys played known) k ≡ true → has_key known k ≡ true
has_key-filter played [] k h = h
has_key-filter played (x ∷ xs) k h =
    elim (is_unplayed played x) as (λ v. has_key (cond v (x ∷ unplayed_keys played xs) (unplayed_keys played xs)) k ≡ true → (is_eq (key_cmp k x) || has_key xs k) ≡ true) [
      | true ↦ λ e. elim (is_eq (key_cmp k x)) as (λ v. (v || has_key (unplayed_keys played xs) k) ≡ true → (v || has_key xs k) ≡ true) [
        | true ↦ λ f. refl
        | false ↦ λ f. has_key-filter played xs k f
      ] e
      | false ↦ λ e. or_right (is_eq (key_cmp k x)) _ (has_key-filter played xs k e)
    ] h
  where
    or_right : (a b : Bool) → b ≡ true → (a || b) ≡ true
    or_right true b e = refl
    or_right false b e = e

unplayed-next : (played : List ℕ) (known : List Key) (i : ℕ) (d : Key) → i < length known
    → unplayed_keys played (take (i + 1) known) ≡ unplayed_keys played (take i known) ++ unplayed_keys played (get_or known i d ∷ [])
unplayed-next played known i d l = ap (unplayed_keys played) (take_more known i d l) ∙ filter-append (is_unplayed played) (take i known) (get_or known i d ∷ [])

-- one key further, of an entry that was not played
pub unplayed-more-in : (played : List ℕ) (known : List Key) (i : ℕ) (d k : Key) (old : Bool) → i < length known → is_unplayed played (get_or known i d) ≡ true → old ≡ has_key (unplayed_keys played (take i known)) k
    → cond (is_eq (key_cmp (get_or known i d) k)) true old ≡ has_key (unplayed_keys played (take (i + 1) known)) k
unplayed-more-in played known i d k old l p same =
    let x : Key = get_or known i d in
    let one : unplayed_keys played (x ∷ []) ≡ x ∷ [] = rw p refl in
    let all : unplayed_keys played (take (i + 1) known) ≡ unplayed_keys played (take i known) ++ x ∷ [] = unplayed-next played known i d l ∙ ap (λ (ys : List Key). unplayed_keys played (take i known) ++ ys) one in
    (λ j. cond (is_eq-sym x k j) true (same j)) ∙ as_or (is_eq (key_cmp k x)) (has_key (unplayed_keys played (take i known)) k)
    ∙ sym (ap (λ (ys : List Key). has_key ys k) all ∙ has_key-more (unplayed_keys played (take i known)) x k)
  where
    as_or : (a b : Bool) → cond a true b ≡ (a || b)
    as_or true b = refl
    as_or false b = refl

-- and of one that was
pub unplayed-more-out : (played : List ℕ) (known : List Key) (i : ℕ) (d k : Key) → i < length known → is_unplayed played (get_or known i d) ≡ false
    → has_key (unplayed_keys played (take i known)) k ≡ has_key (unplayed_keys played (take (i + 1) known)) k
unplayed-more-out played known i d k l p =
    let x : Key = get_or known i d in
    let one : unplayed_keys played (x ∷ []) ≡ [] = rw p refl in
    let all : unplayed_keys played (take (i + 1) known) ≡ unplayed_keys played (take i known) ++ [] = unplayed-next played known i d l ∙ ap (λ (ys : List Key). unplayed_keys played (take i known) ++ ys) one in
    sym (ap (λ (ys : List Key). has_key ys k) (all ∙ append-nil (unplayed_keys played (take i known))))

pub ranked-keys : (ranks : List Rank) (entries : List Entry) (known : List Key) → known ≡ map (key_of ranks) entries → map (ranked_key ranks) known ≡ known
ranked-keys ranks entries known h = subst (λ (ks : List Key). map (ranked_key ranks) ks ≡ ks) (sym h) (all entries)
  where
    back : (p : ℕ) → 255 - (255 - (255 - p)) ≡ 255 - p
    back p = omega arith

    all : (es : List Entry) → map (ranked_key ranks) (map (key_of ranks) es) ≡ map (key_of ranks) es
    all [] = refl
    all (e ∷ es) = λ i. (back e.priority i, rank_of ranks e.id, e.id) ∷ all es i

take-join : {X : Type 0} (xs : List X) (at count : ℕ) → take (at + count) xs ≡ take at xs ++ slice_range xs at (at + count)
take-join {X} xs at count =
    sym (slice_range-front xs (at + count)) ∙ slice_range-join xs 0 at count (omega arith) ∙ ap (λ (ys : List X). ys ++ slice_range xs at (at + count)) (slice_range-front xs at)

pub keys-join : (ranks : List Rank) (queue : List Entry) (at count : ℕ)
    → map (key_of ranks) (take (at + count) queue) ≡ map (key_of ranks) (take at queue) ++ map (key_of ranks) (slice_range queue at (at + count))
keys-join ranks queue at count = ap (map (key_of ranks)) (take-join queue at count) ∙ map-append (key_of ranks) (take at queue) (slice_range queue at (at + count))

pub same_pairs-join : (queue : List Entry) (known : List Key) (at count : ℕ) → AreOf (take at queue) (take at known)
    → AreOf (slice_range queue at (at + count)) (slice_range known at (at + count)) → AreOf (take (at + count) queue) (take (at + count) known)
same_pairs-join queue known at count h more =
    ap (map priority_and_id) (take-join queue at count) ∙ map-append priority_and_id (take at queue) (slice_range queue at (at + count)) ∙ (λ i. h i ++ more i)
    ∙ sym (ap (map priority_and_id_by_key) (take-join known at count) ∙ map-append priority_and_id_by_key (take at known) (slice_range known at (at + count)))

-- what is of all of a queue is of a part of it
tails : (e : Entry) (es : List Entry) (k : Key) (ks : List Key) → AreOf (e ∷ es) (k ∷ ks) → AreOf es ks
tails e es k ks h = cc

drop-of : (queue : List Entry) (known : List Key) (n : ℕ) → AreOf queue known → AreOf (drop n queue) (drop n known)
drop-of queue known zero h = h
drop-of [] [] (suc n) h = refl
drop-of [] (k ∷ ks) (suc n) h = cc
drop-of (e ∷ es) [] (suc n) h = cc
drop-of (e ∷ es) (k ∷ ks) (suc n) h = drop-of es ks n (tails e es k ks h)

take-of : (queue : List Entry) (known : List Key) (n : ℕ) → AreOf queue known → AreOf (take n queue) (take n known)
take-of queue known zero h = refl
take-of [] [] (suc n) h = refl
take-of [] (k ∷ ks) (suc n) h = cc
take-of (e ∷ es) [] (suc n) h = cc
take-of (e ∷ es) (k ∷ ks) (suc n) h = let first : priority_and_id e ≡ priority_and_id_by_key k = cc in λ i. first i ∷ take-of es ks n (tails e es k ks h) i

pub part-of : (queue : List Entry) (known : List Key) (from end : ℕ) → AreOf queue known → AreOf (slice_range queue from end) (slice_range known from end)
part-of queue known from end h = take-of (drop from queue) (drop from known) (end - from) (drop-of queue known from h)

pub length-of : (queue : List Entry) (known : List Key) → AreOf queue known → length queue ≡ length known
length-of [] [] h = refl
length-of [] (k ∷ ks) h = cc
length-of (e ∷ es) [] h = cc
length-of (e ∷ es) (k ∷ ks) h = ap suc (length-of es ks (tails e es k ks h))

-- and each slot has the id and priority of its key
pub same_pairs-at : (run : List Slot) (known : List Key) (position : ℕ) (s : Slot) (k : Key) → position < length run → AreOf (entries_of run) known → priority_and_id (get_or run position s).entry ≡ priority_and_id_by_key (get_or known position k)
same_pairs-at [] known position s k l h = absurd (omega arith)
same_pairs-at (x ∷ xs) [] position s k l h = cc
same_pairs-at (x ∷ xs) (y ∷ ys) zero s k l h = cc
same_pairs-at (x ∷ xs) (y ∷ ys) (suc position) s k l h = same_pairs-at xs ys position s k (omega arith) (tails x.entry (entries_of xs) y ys h)
