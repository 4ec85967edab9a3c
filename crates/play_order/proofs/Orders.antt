-- The order that a round keeps of a queue: what waits first is the entry that comes first.
use Rattle.std.proofs.Common.{◌≡◌, ◌≢◌, ◌⊎◌, ℕ, ◌-◌, ◌<◌, ◌≤◌, Bool, true, false, ◌||◌, ◌==◌, not, cond, List, [], ◌∷◌, length, map, filter, find, Option, Some, None, Greater, refl, ap, sym, subst, ◌∙◌, inl, inr, arith}
use Rattle.std.specs.List.{list_any, list_all}
use Rattle.std.specs.Ordering.{is_eq, is_gt, nat_cmp, ordering_then}
use Rattle.std.proofs.lemmas.Bool.{cond-true, cond-false, false_from_ne_true, false≢true, cases_Bool, cases_lt, cases_eq, and_parts, and_from, eq-eqb, eqb-true, ne_eqb, lt-ltb, ltb-true}
use Rattle.std.proofs.lemmas.List.Elements.{All-head, All-tail}
use Rattle.song_queue.specs.declared.entry.Entry.{Entry}
use Rattle.play_order.specs.declared.modes.Rank.{Rank}
use Rattle.play_order.specs.Draws.{is_among, has_id, moved_last, rank_of}
use Rattle.play_order.specs.Order.{comes_before, entry_of, is_first, first_of, unplayed}
use Rattle.play_order.specs.Waits.{AreOf, HasKeyWith, HaveOwnIds, IsOrderOf, Key, LacksId, WaitingState, has_key, key_cmp, key_of, ranked_key, priority_and_id_by_key, priority_and_id, unplayed_keys}
use Rattle.play_order.proofs.Firsts.{Distinct, EachIn, Apart, each-filter}
use Rattle.play_order.proofs.Ids.{among-moved_last}
use Rattle.play_order.proofs.Waits.{has_key-filter, is_eq-key, nat_cmp-eq, nat_cmp-gt, same_key, same_key-is, same_key-refl}

or_left : (a b : Bool) → a ≡ true → (a || b) ≡ true
or_left a b e = ap (λ x. x || b) e

or_right : (a b : Bool) → b ≡ true → (a || b) ≡ true
or_right true b e = refl
or_right false b e = e

or_cases : (a b : Bool) → (a || b) ≡ true → (a ≡ true) ⊎ (b ≡ true)
or_cases true b e = inl refl
or_cases false b e = inr e

-- keys that are not one are apart
apart-keys : (k x : Key) → (k ≡ x → ⊥) → is_eq (key_cmp k x) ≡ false
apart-keys k x ne = false_from_ne_true (is_eq (key_cmp k x)) (λ t. ne (same_key-is k x (sym (is_eq-key k x) ∙ t)))

-- the keys that wait when one more song was played: those of other ids
has_key-played : (id : ℕ) (played : List ℕ) (known : List Key) (k : Key) → has_key (unplayed_keys (moved_last played id) known) k ≡ cond (id == k.2) false (has_key (unplayed_keys played known) k)
has_key-played id played [] k = elim (id == k.2) as (λ v. false ≡ cond v false false) [ true ↦ refl | false ↦ refl ]
has_key-played id played (x ∷ xs) k =
    let less : List Key = unplayed_keys (moved_last played id) xs in
    let left : List Key = unplayed_keys played xs in
    let rest : has_key less k ≡ cond (id == k.2) false (has_key left k) = has_key-played id played xs k in
    let among : is_among x.2 (moved_last played id) ≡ cond (id == x.2) true (is_among x.2 played) = among-moved_last x.2 id played in
    elim (id == x.2) as (λ v. (id == x.2) ≡ v → has_key (unplayed_keys (moved_last played id) (x ∷ xs)) k ≡ cond (id == k.2) false (has_key (unplayed_keys played (x ∷ xs)) k)) [
      | true ↦ λ e.
          let gone : is_among x.2 (moved_last played id) ≡ true = among ∙ cond-true _ _ _ e in
          rw gone (rest ∙ (elim (is_among x.2 played) as (λ w. cond (id == k.2) false (has_key left k) ≡ cond (id == k.2) false (has_key (cond (not w) (x ∷ left) left) k)) [
            | true ↦ refl
            | false ↦ elim (id == k.2) as (λ u. (id == k.2) ≡ u → cond u false (has_key left k) ≡ cond u false (is_eq (key_cmp k x) || has_key left k)) [
              | true ↦ λ f. refl
              | false ↦ λ f. let other = apart-keys k x (λ s. false≢true (sym f ∙ ap (λ (y : Key). id == y.2) s ∙ e)) in rw other refl
            ] refl
          ]))
      | false ↦ λ e.
          let same : is_among x.2 (moved_last played id) ≡ is_among x.2 played = among ∙ cond-false _ _ _ e in
          rw same (elim (is_among x.2 played) as (λ w. has_key (cond (not w) (x ∷ less) less) k ≡ cond (id == k.2) false (has_key (cond (not w) (x ∷ left) left) k)) [
            | true ↦ rest
            | false ↦ (λ i. is_eq (key_cmp k x) || rest i) ∙ (elim (id == k.2) as (λ u. (id == k.2) ≡ u → (is_eq (key_cmp k x) || cond u false (has_key left k)) ≡ cond u false (is_eq (key_cmp k x) || has_key left k)) [
              | true ↦ λ f. let other = apart-keys k x (λ s. false≢true (sym e ∙ ap (λ (y : Key). id == y.2) (sym s) ∙ f)) in rw other refl
              | false ↦ λ f. refl
            ] refl)
          ])
    ] refl

-- without the key of a song that was played, and with no other gone, an order is one of the round after the play
pub order-left : (ranks : List Rank) (played : List ℕ) (known keys less : List Key) (version id : ℕ) (k : Key) → HasKeyWith id (record { known = known; keys = keys; version = version }) k
    → ((q : Key) → has_key less q ≡ cond (is_eq (key_cmp k q)) false (has_key keys q)) → IsOrderOf ranks played (record { known = known; keys = keys; version = version })
    → IsOrderOf ranks (moved_last played id) (record { known = known; keys = less; version = version })
order-left ranks played known keys less version id k found updates order = record {
  ranked = order.ranked;
  own = order.own;
  waits = λ q. updates q ∙ alone q ∙ ap (cond (id == q.2) false) (order.waits q) ∙ sym (has_key-played id played known q);
}
  where
    old : (q : Key) → has_key keys q ≡ true → has_key known q ≡ true
    old q h = has_key-filter played known q (sym (order.waits q) ∙ h)

    here : has_key known k ≡ true
    here = elim (or_cases (has_key keys k) (has_key known k) found.1) [ inl h ↦ old k h | inr h ↦ h ]

    alone : (q : Key) → cond (is_eq (key_cmp k q)) false (has_key keys q) ≡ cond (id == q.2) false (has_key keys q)
    alone q = elim (is_eq (key_cmp k q)) as (λ v. is_eq (key_cmp k q) ≡ v → cond v false (has_key keys q) ≡ cond (id == q.2) false (has_key keys q)) [
      | true ↦ λ e. let s : k ≡ q = same_key-is k q (sym (is_eq-key k q) ∙ e) in sym (cond-true _ _ _ (eq-eqb id q.2 (sym found.0 ∙ ap (λ (x : Key). x.2) s)))
      | false ↦ λ e. elim (id == q.2) as (λ v. (id == q.2) ≡ v → has_key keys q ≡ cond v false (has_key keys q)) [
        | true ↦ λ f. false_from_ne_true (has_key keys q) (λ h.
            let s : k ≡ q = order.own k q here (old q h) (found.0 ∙ eqb-true id q.2 f) in
            false≢true (sym e ∙ is_eq-key k q ∙ ap (same_key k) (sym s) ∙ same_key-refl k))
        | false ↦ λ f. refl
      ] refl
    ] refl

lacks-key : (id : ℕ) (known : List Key) (k : Key) → LacksId id known → id ≡ k.2 → has_key known k ≡ false
lacks-key id [] k lacks e = refl
lacks-key id (x ∷ xs) k lacks e =
    let other = apart-keys k x (λ s. All-head (λ (y : Key). y.2 ≢ id) x xs lacks (sym (ap (λ (y : Key). y.2) s) ∙ sym e)) in
    rw other (lacks-key id xs k (All-tail (λ (y : Key). y.2 ≢ id) x xs lacks) e)

-- a song of which there is no key
pub order-lacks : (ranks : List Rank) (played : List ℕ) (id : ℕ) (waiting : WaitingState) → LacksId id waiting.known → IsOrderOf ranks played waiting → IsOrderOf ranks (moved_last played id) waiting
order-lacks ranks played id waiting lacks order = record {
  ranked = order.ranked;
  own = order.own;
  waits = λ q. order.waits q ∙ others q ∙ sym (has_key-played id played waiting.known q);
}
  where
    others : (q : Key) → has_key (unplayed_keys played waiting.known) q ≡ cond (id == q.2) false (has_key (unplayed_keys played waiting.known) q)
    others q = elim (id == q.2) as (λ v. (id == q.2) ≡ v → has_key (unplayed_keys played waiting.known) q ≡ cond v false (has_key (unplayed_keys played waiting.known) q)) [
      | true ↦ λ e. false_from_ne_true _ (λ h. false≢true (sym (lacks-key id waiting.known q lacks (eqb-true id q.2 e)) ∙ has_key-filter played waiting.known q h))
      | false ↦ λ e. refl
    ] refl

-- the first comes before the second
abbrev Below : Key → Key → Type 0
Below x y = (x.0 < y.0) ⊎ ((x.0 ≡ y.0) × ((x.1 < y.1) ⊎ ((x.1 ≡ y.1) × (x.2 < y.2))))

-- a key that is not above another is below it or has its id
low_key : (x y : Key) → is_gt (key_cmp x y) ≡ false → Below x y ⊎ (x.2 ≡ y.2)
low_key x y h = elim (cases_lt x.0 y.0) [
  | inl l ↦ inl (inl l)
  | inr m ↦ elim (cases_eq x.0 y.0) [
    | inr ne ↦ let g : key_cmp x y ≡ Greater = ap (λ o. ordering_then (ordering_then o (nat_cmp x.1 y.1)) (nat_cmp x.2 y.2)) (nat_cmp-gt x.0 y.0 (omega arith)) in absurd (let t = sym (ap is_gt g) ∙ h in cc)
    | inl e ↦ elim (cases_lt x.1 y.1) [
      | inl l ↦ inl (inr (e, inl l))
      | inr m1 ↦ elim (cases_eq x.1 y.1) [
        | inr ne ↦
            let g : key_cmp x y ≡ Greater = (λ i. ordering_then (ordering_then (nat_cmp-eq x.0 y.0 e i) (nat_cmp-gt x.1 y.1 (omega arith) i)) (nat_cmp x.2 y.2)) in
            absurd (let t = sym (ap is_gt g) ∙ h in cc)
        | inl e1 ↦ elim (cases_lt x.2 y.2) [
          | inl l ↦ inl (inr (e, inr (e1, l)))
          | inr m2 ↦ elim (cases_eq x.2 y.2) [
            | inl e2 ↦ inr e2
            | inr ne ↦
                let g : key_cmp x y ≡ Greater = (λ i. ordering_then (ordering_then (nat_cmp-eq x.0 y.0 e i) (nat_cmp-eq x.1 y.1 e1 i)) (nat_cmp-gt x.2 y.2 (omega arith) i)) in
                absurd (let t = sym (ap is_gt g) ∙ h in cc)
          ]
        ]
      ]
    ]
  ]
]

-- an entry whose key is below another's comes before it, and no other
before_from_key : (ranks : List Rank) (c d : Entry) → c.priority ≤ 255 → d.priority ≤ 255 → Below (key_of ranks c) (key_of ranks d) → comes_before ranks c d ≡ true
before_from_key ranks c d pc pd h = elim h [
  | inl l ↦ or_left _ _ (lt-ltb d.priority c.priority (omega arith))
  | inr p ↦ or_right _ _ (and_from _ _ (eq-eqb c.priority d.priority (let e = p.0 in omega arith)) (elim p.1 [
    | inl l ↦ or_left _ _ (lt-ltb _ _ l)
    | inr q ↦ or_right _ _ (and_from _ _ (eq-eqb _ _ q.0) (lt-ltb _ _ q.1))
  ]))
]

key_from_before : (ranks : List Rank) (c d : Entry) → c.priority ≤ 255 → d.priority ≤ 255 → comes_before ranks c d ≡ true → Below (key_of ranks c) (key_of ranks d)
key_from_before ranks c d pc pd h = elim (or_cases _ _ h) [
  | inl t ↦ let l = ltb-true d.priority c.priority t in inl (omega arith)
  | inr t ↦
      let p = and_parts (c.priority == d.priority) _ t in
      let same = eqb-true c.priority d.priority p.0 in
      inr (
        omega arith,
        elim (or_cases _ _ p.1) [
          | inl u ↦ inl (ltb-true _ _ u)
          | inr u ↦ let q = and_parts (rank_of ranks c.id == rank_of ranks d.id) _ u in inr (eqb-true _ _ q.0, ltb-true _ _ q.1)
        ],
      )
]

not_both : (x y : Key) → Below x y → Below y x → ⊥
not_both x y h k = elim h [
  | inl l ↦ elim k [ inl m ↦ omega arith | inr q ↦ let e = q.0 in omega arith ]
  | inr p ↦ elim k [
    | inl m ↦ let e = p.0 in omega arith
    | inr q ↦ elim p.1 [
      | inl l ↦ elim q.1 [ inl m ↦ omega arith | inr s ↦ let e = s.0 in omega arith ]
      | inr r ↦ elim q.1 [ inl m ↦ let e = r.0 in omega arith | inr s ↦ let a = r.1 in let b = s.1 in omega arith ]
    ]
  ]
]

-- where a key is among those of entries, one of them has its id, and is found first if each other comes behind it
module _ (ranks : List Rank) (k : Key) where
  abbrev Low : Entry → Type 0
  Low e = (e.priority ≤ 255) × (Below k (key_of ranks e) ⊎ (k.2 ≡ e.id))

  is_first-low : (c : Entry) → c.priority ≤ 255 → key_of ranks c ≡ k → (xs : List Entry) → EachIn Low xs → is_first ranks xs c ≡ true
  is_first-low c pc same [] h = refl
  is_first-low c pc same (d ∷ xs) h =
      and_from _ _ (elim h.0.1 [
        | inl b ↦ or_right _ _ (before_from_key ranks c d pc h.0.0 (subst (λ (x : Key). Below x (key_of ranks d)) (sym same) b))
        | inr e ↦ or_left _ _ (eq-eqb d.id c.id (sym e ∙ sym (ap (λ (x : Key). x.2) same)))
      ]) (is_first-low c pc same xs h.1)

  abbrev has_at : Entry → Bool
  has_at e = same_key k (key_of ranks e)

  same-true : (x : Key) → same_key k x ≡ true → x ≡ k
  same-true x t = sym (same_key-is k x t)

  find-any : (p : Entry → Bool) (xs : List Entry) → list_any p xs ≡ true → EachIn Low xs → (e : Entry) × (find p xs ≡ Some e) × (p e ≡ true) × Low e
  find-any p [] t h = cc
  find-any p (x ∷ xs) t h = elim (cases_Bool (p x)) [
    | inl y ↦ (x, cond-true _ _ _ y, y, h.0)
    | inr n ↦ let r = find-any p xs (sym (ap (λ b. b || list_any p xs) n) ∙ t) h.1 in (r.0, cond-false _ _ _ n ∙ r.1, r.2, r.3)
  ]

  any-more : (p q : Entry → Bool) → ((e : Entry) → p e ≡ true → Low e → q e ≡ true) → (xs : List Entry) → list_any p xs ≡ true → EachIn Low xs → list_any q xs ≡ true
  any-more p q f [] t h = cc
  any-more p q f (x ∷ xs) t h = elim (or_cases (p x) (list_any p xs) t) [
    | inl y ↦ or_left _ _ (f x y h.0)
    | inr y ↦ or_right _ _ (any-more p q f xs y h.1)
  ]

  all-any : (p r : Entry → Bool) (xs : List Entry) → list_all r xs ≡ true → list_any p xs ≡ true → EachIn Low xs → (e : Entry) × (p e ≡ true) × (r e ≡ true) × Low e
  all-any p r [] all t h = cc
  all-any p r (x ∷ xs) all t h =
      let both = and_parts (r x) (list_all r xs) all in
      elim (or_cases (p x) (list_any p xs) t) [ inl y ↦ (x, y, both.0, h.0) | inr y ↦ all-any p r xs both.1 y h.1 ]

  first-is : (xs : List Entry) → EachIn Low xs → list_any has_at xs ≡ true → (e : Entry) × (first_of ranks xs ≡ Some e) × (e.id ≡ k.2)
  first-is xs h has =
      let one = any-more has_at (is_first ranks xs) (λ e t low. is_first-low e low.0 (same-true (key_of ranks e) t) xs h) xs has h in
      let found = find-any (is_first ranks xs) xs one h in
      let e : Entry = found.0 in
      let low : Low e = found.3 in
      let other = all-any has_at (λ d. has_id e.id d || comes_before ranks e d) xs found.2 has h in
      let c : Entry = other.0 in
      let same : key_of ranks c ≡ k = same-true (key_of ranks c) other.1 in
      let id : c.id ≡ k.2 = ap (λ (x : Key). x.2) same in
      let is : e.id ≡ k.2 = elim (or_cases _ _ other.2) [
        | inl t ↦ sym (eqb-true c.id e.id t) ∙ id
        | inr t ↦ elim low.1 [
          | inl b ↦ absurd (not_both k (key_of ranks e) b (subst (λ (x : Key). Below (key_of ranks e) x) same (key_from_before ranks e c low.0 other.3.0 t)))
          | inr s ↦ sym s
        ]
      ] in
      (e, found.1, is)

-- the priorities of a queue whose keys are known are those of keys
within : (entries : List Entry) (known : List Key) → AreOf entries known → EachIn (λ e. e.priority ≤ 255) entries
within [] known h = tt
within (e ∷ es) [] h = cc
within (e ∷ es) (k ∷ ks) h = let first : priority_and_id e ≡ priority_and_id_by_key k = cc in let rest : map priority_and_id es ≡ map priority_and_id_by_key ks = cc in let p = ap (λ (t : ℕ × ℕ). t.0) first in (omega arith, within es ks rest)

-- the keys of a queue's entries are those that are known
known-are : (ranks : List Rank) (entries : List Entry) (known : List Key) → AreOf entries known → map (ranked_key ranks) known ≡ known → map (key_of ranks) entries ≡ known
known-are ranks entries known h ranked = by_entries entries ∙ ap (map by) h ∙ sym (by_known known) ∙ ranked
  where
    by : ℕ × ℕ → Key
    by t = (255 - t.0, rank_of ranks t.1, t.1)

    by_entries : (es : List Entry) → map (key_of ranks) es ≡ map by (map priority_and_id es)
    by_entries [] = refl
    by_entries (e ∷ es) = ap (λ (ks : List Key). key_of ranks e ∷ ks) (by_entries es)

    by_known : (ks : List Key) → map (ranked_key ranks) ks ≡ map by (map priority_and_id_by_key ks)
    by_known [] = refl
    by_known (k ∷ ks) = ap (λ (more : List Key). ranked_key ranks k ∷ more) (by_known ks)

-- the keys of unplayed entries are the unplayed keys
keys-unplayed : (ranks : List Rank) (played : List ℕ) (entries : List Entry) → map (key_of ranks) (unplayed played entries) ≡ unplayed_keys played (map (key_of ranks) entries)
keys-unplayed ranks played [] = refl
keys-unplayed ranks played (e ∷ es) =
    elim (is_among e.id played) as (λ v. map (key_of ranks) (cond (not v) (e ∷ unplayed played es) (unplayed played es)) ≡ cond (not v) (key_of ranks e ∷ unplayed_keys played (map (key_of ranks) es)) (unplayed_keys played (map (key_of ranks) es))) [
      | true ↦ keys-unplayed ranks played es
      | false ↦ ap (λ (ks : List Key). key_of ranks e ∷ ks) (keys-unplayed ranks played es)
    ]

-- an entry with a key
has-entry : (ranks : List Rank) (entries : List Entry) (k : Key) → has_key (map (key_of ranks) entries) k ≡ list_any (λ e. same_key k (key_of ranks e)) entries
has-entry ranks [] k = refl
has-entry ranks (e ∷ es) k = λ i. is_eq-key k (key_of ranks e) i || has-entry ranks es k i

found-each : (P : Entry → Type 0) (q : Entry → Bool) (ys : List Entry) (e : Entry) → EachIn P ys → find q ys ≡ Some e → P e
found-each P q [] e each f = cc
found-each P q (y ∷ ys) e each f =
    elim (q y) as (λ v. cond v (Some y) (find q ys) ≡ Some e → P e) [
      | true ↦ λ g. let s : y ≡ e = cc in subst P s each.0
      | false ↦ λ g. found-each P q ys e each.1 g
    ] f

-- where ids are distinct, what is found among some of the entries is found by its id among all
own-entry : (t p : Entry → Bool) (xs : List Entry) (e : Entry) → Distinct xs → find p (filter t xs) ≡ Some e → find (has_id e.id) xs ≡ Some e
own-entry t p [] e d h = cc
own-entry t p (x ∷ xs) e d h =
    elim (t x) as (λ v. find p (cond v (x ∷ filter t xs) (filter t xs)) ≡ Some e → find (has_id e.id) (x ∷ xs) ≡ Some e) [
      | true ↦ λ f. elim (p x) as (λ v. cond v (Some x) (find p (filter t xs)) ≡ Some e → find (has_id e.id) (x ∷ xs) ≡ Some e) [
        | true ↦ λ g. let s : x ≡ e = cc in cond-true _ _ _ (eq-eqb x.id e.id (ap (λ (y : Entry). y.id) s)) ∙ ap Some s
        | false ↦ λ g. behind x xs e d.0 (own-entry t p xs e d.1 g)
      ] f
      | false ↦ λ f. behind x xs e d.0 (own-entry t p xs e d.1 f)
    ] h
  where
    behind : (x : Entry) (xs : List Entry) (e : Entry) → Apart x xs → find (has_id e.id) xs ≡ Some e → find (has_id e.id) (x ∷ xs) ≡ Some e
    behind x xs e apart rest = cond-false _ _ _ (ne_eqb x.id e.id (found-each (λ y. x.id ≢ y.id) (has_id e.id) xs e apart rest)) ∙ rest

-- a key of entries has the id of one of them
other-id : (ranks : List Rank) (x : Entry) (xs : List Entry) (k : Key) → Apart x xs → has_key (map (key_of ranks) xs) k ≡ true → x.id ≡ k.2 → ⊥
other-id ranks x [] k apart h s = false≢true h
other-id ranks x (y ∷ ys) k apart h s = elim (or_cases (is_eq (key_cmp k (key_of ranks y))) _ h) [
  | inl e ↦ apart.0 (s ∙ ap (λ (q : Key). q.2) (same_key-is k (key_of ranks y) (sym (is_eq-key k (key_of ranks y)) ∙ e)))
  | inr r ↦ other-id ranks x ys k apart.1 r s
]

-- where ids are distinct, so are those of keys
pub own-ids : (ranks : List Rank) (entries : List Entry) → Distinct entries → HaveOwnIds (map (key_of ranks) entries)
own-ids ranks [] distinct a b h k e = absurd (false≢true h)
own-ids ranks (x ∷ xs) distinct a b h k e = elim (or_cases (is_eq (key_cmp a (key_of ranks x))) _ h) [
  | inl s ↦ let is : a ≡ key_of ranks x = same_key-is a (key_of ranks x) (sym (is_eq-key a (key_of ranks x)) ∙ s) in elim (or_cases (is_eq (key_cmp b (key_of ranks x))) _ k) [
    | inl t ↦ is ∙ sym (same_key-is b (key_of ranks x) (sym (is_eq-key b (key_of ranks x)) ∙ t))
    | inr t ↦ absurd (other-id ranks x xs b distinct.0 t (sym (ap (λ (q : Key). q.2) is) ∙ e))
  ]
  | inr s ↦ elim (or_cases (is_eq (key_cmp b (key_of ranks x))) _ k) [
    | inl t ↦ let is : b ≡ key_of ranks x = same_key-is b (key_of ranks x) (sym (is_eq-key b (key_of ranks x)) ∙ t) in absurd (other-id ranks x xs a distinct.0 s (sym (ap (λ (q : Key). q.2) is) ∙ sym e))
    | inr t ↦ own-ids ranks xs distinct.1 a b s t e
  ]
]

-- where there is no first key there is none
pub no-keys : (keys : List Key) → (0 < length keys → false ≡ true) → keys ≡ []
no-keys [] none = refl
no-keys (k ∷ ks) none = absurd (false≢true (none (omega arith)))

-- what waits first is the first entry of those that were not played
module _ (ranks : List Rank) (played : List ℕ) (entries : List Entry) (waiting : WaitingState) (same : AreOf entries waiting.known) (order : IsOrderOf ranks played waiting) where
  are : map (key_of ranks) entries ≡ waiting.known
  are = known-are ranks entries waiting.known same order.ranked

  left : (k : Key) → has_key waiting.keys k ≡ list_any (λ e. same_key k (key_of ranks e)) (unplayed played entries)
  left k = order.waits k ∙ ap (λ (ks : List Key). has_key (unplayed_keys played ks) k) (sym are) ∙ ap (λ (ks : List Key). has_key ks k) (sym (keys-unplayed ranks played entries)) ∙ has-entry ranks (unplayed played entries) k

  lows : (k : Key) (xs : List Entry) → EachIn (λ (e : Entry). e.priority ≤ 255) xs → ((e : Entry) → list_any (λ d. same_key (key_of ranks e) (key_of ranks d)) xs ≡ true → is_gt (key_cmp k (key_of ranks e)) ≡ false) → EachIn (Low ranks k) xs
  lows k [] p h = tt
  lows k (x ∷ xs) p h = ((p.0, low_key k (key_of ranks x) (h x (or_left _ _ (same_key-refl (key_of ranks x))))), lows k xs p.1 (λ e t. h e (or_right _ _ t)))

  pub first-waits : (k : Key) → Distinct entries → has_key waiting.keys k ≡ true → ((q : Key) → has_key waiting.keys q ≡ true → is_gt (key_cmp k q) ≡ false) → entry_of entries k.2 ≡ first_of ranks (unplayed played entries)
  first-waits k distinct member least =
      let low : EachIn (Low ranks k) (unplayed played entries) =
      lows k (unplayed played entries) (each-filter (λ (e : Entry). e.priority ≤ 255) (λ (e : Entry). not (is_among e.id played)) entries (within entries waiting.known same))
      (λ e t. least (key_of ranks e) (left (key_of ranks e) ∙ t)) in
      let first = first-is ranks k (unplayed played entries) low (sym (left k) ∙ member) in
      ap (λ (id : ℕ). entry_of entries id) (sym first.2) ∙ own-entry (λ (e : Entry). not (is_among e.id played)) (is_first ranks (unplayed played entries)) entries first.0 distinct first.1 ∙ sym first.1

  pub none-waits : waiting.keys ≡ [] → ◌≡◌ {A = Option Entry} None (first_of ranks (unplayed played entries))
  none-waits none = empty (unplayed played entries) (λ k h. false≢true (sym (ap (λ (keys : List Key). has_key keys k) none) ∙ left k ∙ h))
    where
      empty : (xs : List Entry) → ((k : Key) → list_any (λ e. same_key k (key_of ranks e)) xs ≡ true → ⊥) → ◌≡◌ {A = Option Entry} None (first_of ranks xs)
      empty [] lacks = refl
      empty (x ∷ xs) lacks = absurd (lacks (key_of ranks x) (or_left _ _ (same_key-refl (key_of ranks x))))
