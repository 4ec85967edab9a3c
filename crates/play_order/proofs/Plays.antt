-- Plays by their numbers: one more, and one less.
use Rattle.std.proofs.Common.{◌≡◌, ℕ, suc, ◌+◌, ◌<◌, ◌≤◌, Bool, true, false, not, ◌==◌, ◌||◌, List, [], ◌∷◌, ◌++◌, length, filter, Option, Some, None, is_some, Less, Equal, Greater, Ordering, inl, inr, refl, ap, sym, ◌∙◌, arith, cond, length-append}
use Rattle.std.specs.Prelude.{All}
use Rattle.std.specs.Option.{MatchOption, option_map}
use Rattle.std.specs.List.{AllByRecursion}
use Rattle.std.specs.List.Sorted.{IsStrictlySortedBy}
use Rattle.std.specs.BTreeMap.{insert_entry, is_at}
use Rattle.std.specs.Map.{keys_of, remove_entry, values_of}
use Rattle.std.specs.Ordering.{is_eq, match_ordering, nat_cmp}
use Rattle.std.proofs.lemmas.Bool.{cases_eq, cases_lt, cond-false, cond-true, eq-eqb, eqb-false, eqb-true, false_from_ne_true, false≢true, le-ltb, lt-ltb, ne_eqb}
use Rattle.std.proofs.lemmas.List.Elements.{All-head, All-tail, filter-append}
use Rattle.play_order.specs.Draws.{is_among, moved_last, others}
use Rattle.play_order.specs.Ends.{last_of}
use Rattle.play_order.specs.Scans.{play_with}
use Rattle.play_order.proofs.Ids.{last_of-push}
use Rattle.play_order.proofs.Lists.{append-nil, map-append}

-- the plays of an id, and those of the others
abbrev pub plays_of : ℕ → List (ℕ × ℕ) → List (ℕ × ℕ)
plays_of id plays = filter (λ p. p.1 == id) plays

abbrev pub other_plays : ℕ → List (ℕ × ℕ) → List (ℕ × ℕ)
other_plays id plays = filter (λ p. not (p.1 == id)) plays

pub values-others : (id : ℕ) (plays : List (ℕ × ℕ)) → values_of (other_plays id plays) ≡ others id (values_of plays)
values-others id [] = refl
values-others id (p ∷ plays) =
    elim (p.1 == id) as (λ v. values_of (cond (not v) (p ∷ other_plays id plays) (other_plays id plays)) ≡ cond (not v) (p.1 ∷ others id (values_of plays)) (others id (values_of plays))) [
      | true ↦ values-others id plays
      | false ↦ ap (λ (r : List ℕ). p.1 ∷ r) (values-others id plays)
    ]

plays-others : (q id : ℕ) (plays : List (ℕ × ℕ)) → plays_of q (other_plays id plays) ≡ cond (id == q) [] (plays_of q plays)
plays-others q id [] = elim (id == q) as (λ v. ◌≡◌ {A = List (ℕ × ℕ)} [] (cond v [] [])) [ true ↦ refl | false ↦ refl ]
plays-others q id (p ∷ plays) =
    let rest : List (ℕ × ℕ) = other_plays id plays in
    let more = plays-others q id plays in
    elim (p.1 == id) as (λ v. (p.1 == id) ≡ v → plays_of q (cond (not v) (p ∷ rest) rest) ≡ cond (id == q) [] (plays_of q (p ∷ plays))) [
      | true ↦ λ e. more ∙ (elim (id == q) as (λ w. (id == q) ≡ w → cond w [] (plays_of q plays) ≡ cond w [] (plays_of q (p ∷ plays))) [
        | true ↦ λ g. refl
        | false ↦ λ g. let apart : (p.1 == q) ≡ false = ap (λ (x : ℕ). x == q) (eqb-true p.1 id e) ∙ g in rw apart refl
      ] refl)
      | false ↦ λ e. elim (p.1 == q) as (λ w. (p.1 == q) ≡ w → cond w (p ∷ plays_of q rest) (plays_of q rest) ≡ cond (id == q) [] (cond w (p ∷ plays_of q plays) (plays_of q plays))) [
        | true ↦ λ g.
            let apart : (id == q) ≡ false = false_from_ne_true (id == q) (λ t. eqb-false p.1 id e (eqb-true p.1 q g ∙ sym (eqb-true id q t))) in
            ap (λ (r : List (ℕ × ℕ)). p ∷ r) (more ∙ ap (λ (b : Bool). cond b [] (plays_of q plays)) apart) ∙ ap (λ (b : Bool). cond b [] (p ∷ plays_of q plays)) (sym apart)
        | false ↦ λ g. more
      ] refl
    ] refl

-- an id with no play
pub lack-others : (id : ℕ) (plays : List (ℕ × ℕ)) → plays_of id plays ≡ [] → other_plays id plays ≡ plays
lack-others id [] h = refl
lack-others id (p ∷ plays) h =
    elim (p.1 == id) as (λ v. cond v (p ∷ plays_of id plays) (plays_of id plays) ≡ [] → cond (not v) (p ∷ other_plays id plays) (other_plays id plays) ≡ p ∷ plays) [
      | true ↦ λ t. absurd (let n = ap length t in omega (arith, n))
      | false ↦ λ t. ap (λ (r : List (ℕ × ℕ)). p ∷ r) (lack-others id plays t)
    ] h

-- whether an id was played
abbrev filled : List (ℕ × ℕ) → Bool
filled [] = false
filled (p ∷ plays) = true

any-play : (id : ℕ) (plays : List (ℕ × ℕ)) → filled (plays_of id plays) ≡ is_among id (values_of plays)
any-play id [] = refl
any-play id (p ∷ plays) = elim (p.1 == id) as (λ v. filled (cond v (p ∷ plays_of id plays) (plays_of id plays)) ≡ (v || is_among id (values_of plays))) [ true ↦ refl | false ↦ any-play id plays ]

pub found-among : (number : Option ℕ) (id : ℕ) (plays : List (ℕ × ℕ)) → plays_of id plays ≡ play_with number id → is_some number ≡ is_among id (values_of plays)
found-among None id plays h = sym (ap filled h) ∙ any-play id plays
found-among (Some number) id plays h = sym (ap filled h) ∙ any-play id plays

-- numbers in order
nat_cmp-lt : (a b : ℕ) → a < b → nat_cmp a b ≡ Less
nat_cmp-lt a b l = cond-true _ _ _ (lt-ltb a b l)

nat_cmp-eq : (a b : ℕ) → a ≡ b → nat_cmp a b ≡ Equal
nat_cmp-eq a b e = cond-false _ _ _ (le-ltb a b (omega arith)) ∙ cond-true _ _ _ (eq-eqb a b e)

nat_cmp-gt : (a b : ℕ) → b < a → nat_cmp a b ≡ Greater
nat_cmp-gt a b l = cond-false _ _ _ (le-ltb a b (omega arith)) ∙ cond-false _ _ _ (ne_eqb a b (λ e. omega arith))

abbrev is_less : Ordering → Bool
is_less Less = true
is_less Equal = false
is_less Greater = false

not-at : (k n : ℕ) → nat_cmp k n ≡ Less → is_at (nat_cmp n) k ≡ false
not-at k n h = elim (cases_lt k n) [
  | inl l ↦ ap is_eq (nat_cmp-gt n k l)
  | inr m ↦ elim (cases_eq k n) [
    | inl e ↦ absurd (false≢true (sym (ap is_less (nat_cmp-eq k n e)) ∙ ap is_less h))
    | inr ne ↦ absurd (false≢true (sym (ap is_less (nat_cmp-gt k n (omega arith))) ∙ ap is_less h))
  ]
]

-- a number after each other goes to the end
pub insert-last : (plays : List (ℕ × ℕ)) (number id : ℕ) → All (λ k. k < number) (keys_of plays) → insert_entry nat_cmp plays number id ≡ plays ++ (number, id) ∷ []
insert-last [] number id h = refl
insert-last (p ∷ plays) number id h =
    ap (λ (o : Ordering). match_ordering o ((number, id) ∷ p ∷ plays) ((p.0, id) ∷ plays) (p ∷ insert_entry nat_cmp plays number id)) (nat_cmp-gt number p.0 (All-head (λ (k : ℕ). k < number) p.0 (keys_of plays) h))
    ∙ ap (λ (r : List (ℕ × ℕ)). p ∷ r) (insert-last plays number id (All-tail (λ (k : ℕ). k < number) p.0 (keys_of plays) h))

-- an id that has no play gets one
pub insert-new : (plays after : List (ℕ × ℕ)) (number id : ℕ) (found : Option ℕ) → after ≡ insert_entry nat_cmp plays number id → All (λ k. k < number) (keys_of plays) → plays_of id plays ≡ play_with found id → found ≡ None
    → after ≡ other_plays id plays ++ (number, id) ∷ []
insert-new plays after number id found grown above finds none =
    let lacks : plays_of id plays ≡ [] = finds ∙ ap (λ (o : Option ℕ). play_with o id) none in
    grown ∙ insert-last plays number id above ∙ ap (λ (r : List (ℕ × ℕ)). r ++ (number, id) ∷ []) (sym (lack-others id plays lacks))

-- of a list of one play
abbrev first_number : List (ℕ × ℕ) → ℕ
first_number [] = 0
first_number (p ∷ plays) = p.0

abbrev without_first : List (ℕ × ℕ) → List (ℕ × ℕ)
without_first [] = []
without_first (p ∷ plays) = plays

-- a number that is less than each is less than that of an id
number-above : (k id number : ℕ) (plays : List (ℕ × ℕ)) → AllByRecursion (λ y. nat_cmp k y ≡ Less) (keys_of plays) → plays_of id plays ≡ (number, id) ∷ [] → nat_cmp k number ≡ Less
number-above k id number [] all h = absurd (let n = ap length h in omega (arith, n))
number-above k id number (p ∷ plays) all h =
    elim (p.1 == id) as (λ v. cond v (p ∷ plays_of id plays) (plays_of id plays) ≡ (number, id) ∷ [] → nat_cmp k number ≡ Less) [
      | true ↦ λ t. ap (nat_cmp k) (sym (ap first_number t)) ∙ all.0
      | false ↦ λ t. number-above k id number plays all.1 t
    ] h

-- the play with the number of an id is taken out
pub remove-play : (plays more : List (ℕ × ℕ)) (id number : ℕ) → IsStrictlySortedBy nat_cmp (keys_of plays) → plays_of id plays ≡ (number, id) ∷ []
    → remove_entry (is_at (nat_cmp number)) (plays ++ more) ≡ other_plays id plays ++ more
unfolding IsStrictlySortedBy
remove-play [] more id number sorted h = absurd (let n = ap length h in omega (arith, n))
remove-play (p ∷ plays) more id number sorted h =
    elim (p.1 == id) as (λ v. cond v (p ∷ plays_of id plays) (plays_of id plays) ≡ (number, id) ∷ [] → remove_entry (is_at (nat_cmp number)) (p ∷ plays ++ more) ≡ cond (not v) (p ∷ other_plays id plays) (other_plays id plays) ++ more) [
      | true ↦ λ t.
          ap (λ (b : Bool). cond b (plays ++ more) (p ∷ remove_entry (is_at (nat_cmp number)) (plays ++ more))) (ap is_eq (nat_cmp-eq number p.0 (sym (ap first_number t))))
          ∙ ap (λ (r : List (ℕ × ℕ)). r ++ more) (sym (lack-others id plays (ap without_first t)))
      | false ↦ λ t.
          ap (λ (b : Bool). cond b (plays ++ more) (p ∷ remove_entry (is_at (nat_cmp number)) (plays ++ more))) (not-at p.0 number (number-above p.0 id number plays sorted.0 t))
          ∙ ap (λ (r : List (ℕ × ℕ)). p ∷ r) (remove-play plays more id number sorted.1 t)
    ] h

-- what is found of the plays when one is taken out
pub finds-out : (found after : ℕ → Option ℕ) (plays : List (ℕ × ℕ)) (id : ℕ) → ((q : ℕ) → plays_of q plays ≡ play_with (found q) q) → ((q : ℕ) → after q ≡ cond (id == q) None (found q))
    → (q : ℕ) → plays_of q (other_plays id plays) ≡ play_with (after q) q
finds-out found after plays id finds h q =
    plays-others q id plays ∙ (elim (id == q) as (λ v. cond v [] (plays_of q plays) ≡ play_with (cond v None (found q)) q) [ true ↦ refl | false ↦ finds q ])
    ∙ ap (λ (o : Option ℕ). play_with o q) (sym (h q))

-- and when an id gets a new number
pub finds-moved : (found after : ℕ → Option ℕ) (plays : List (ℕ × ℕ)) (id number : ℕ) → ((q : ℕ) → plays_of q plays ≡ play_with (found q) q) → ((q : ℕ) → after q ≡ cond (id == q) (Some number) (found q))
    → (q : ℕ) → plays_of q (other_plays id plays ++ (number, id) ∷ []) ≡ play_with (after q) q
finds-moved found after plays id number finds h q =
    filter-append (λ (p : ℕ × ℕ). p.1 == q) (other_plays id plays) ((number, id) ∷ []) ∙ ap (λ (r : List (ℕ × ℕ)). r ++ plays_of q ((number, id) ∷ [])) (plays-others q id plays)
    ∙ (elim (id == q) as (λ v. (id == q) ≡ v → cond v [] (plays_of q plays) ++ cond v ((number, id) ∷ []) [] ≡ play_with (cond v (Some number) (found q)) q) [
      | true ↦ λ e. ap (λ (x : ℕ). (number, x) ∷ []) (eqb-true id q e)
      | false ↦ λ e. append-nil (plays_of q plays) ∙ finds q
    ] refl)
    ∙ ap (λ (o : Option ℕ). play_with o q) (sym (h q))

pub values-moved : (id number : ℕ) (plays : List (ℕ × ℕ)) → values_of (other_plays id plays ++ (number, id) ∷ []) ≡ moved_last (values_of plays) id
values-moved id number plays = map-append (λ (p : ℕ × ℕ). p.1) (other_plays id plays) ((number, id) ∷ []) ∙ ap (λ (r : List ℕ). r ++ id ∷ []) (values-others id plays)

-- the last but one
abbrev same : ℕ → List ℕ → List ℕ
same id ids = filter (λ other. other == id) ids

count-plays : (id : ℕ) (plays : List (ℕ × ℕ)) → length (same id (values_of plays)) ≡ length (plays_of id plays)
count-plays id [] = refl
count-plays id (p ∷ plays) =
    elim (p.1 == id) as (λ v. length (cond v (p.1 ∷ filter (λ other. other == id) (values_of plays)) (filter (λ other. other == id) (values_of plays))) ≡ length (cond v (p ∷ plays_of id plays) (plays_of id plays))) [
      | true ↦ ap suc (count-plays id plays)
      | false ↦ count-plays id plays
    ]

one-play : (number : Option ℕ) (id : ℕ) → length (play_with number id) ≤ 1
one-play None id = omega arith
one-play (Some number) id = omega arith

lack-same : (id : ℕ) (ids : List ℕ) → length (filter (λ other. other == id) ids) ≡ 0 → others id ids ≡ ids
lack-same id [] h = refl
lack-same id (x ∷ ids) h =
    elim (x == id) as (λ v. length (cond v (x ∷ filter (λ other. other == id) ids) (filter (λ other. other == id) ids)) ≡ 0 → cond (not v) (x ∷ others id ids) (others id ids) ≡ x ∷ ids) [
      | true ↦ λ t. absurd (omega (arith, t))
      | false ↦ λ t. ap (λ (r : List ℕ). x ∷ r) (lack-same id ids t)
    ] h

-- where the last is the id, the others are those before it
pub others-before : (number : Option ℕ) (id : ℕ) (plays : List (ℕ × ℕ)) (before : List ℕ) → plays_of id plays ≡ play_with number id → values_of plays ≡ before ++ id ∷ [] → others id (values_of plays) ≡ before
others-before number id plays before h e =
    let here : (id == id) ≡ true = eq-eqb id id refl in
    let last : filter (λ other. other == id) (id ∷ []) ≡ id ∷ [] = rw here refl in
    let gone : others id (id ∷ []) ≡ [] = rw here refl in
    let parts : length (filter (λ other. other == id) (values_of plays)) ≡ length (filter (λ other. other == id) before) + 1 =
    ap (λ (r : List ℕ). length (filter (λ other. other == id) r)) e ∙ ap length (filter-append (λ (other : ℕ). other == id) before (id ∷ [])) ∙ ap (λ (r : List ℕ). length (filter (λ other. other == id) before ++ r)) last
    ∙ length-append (filter (λ other. other == id) before) (id ∷ []) in
    let count = count-plays id plays in
    let one = one-play number id in
    let size = ap length h in
    let none : length (filter (λ other. other == id) before) ≡ 0 = omega (arith, parts, count, one, size) in
    ap (others id) e ∙ filter-append (λ (other : ℕ). not (other == id)) before (id ∷ []) ∙ ap (λ (r : List ℕ). others id before ++ r) gone ∙ append-nil (others id before) ∙ lack-same id before none

-- where it is another, that is the last of the others
pub last-apart : (id last : ℕ) (ids before : List ℕ) → (last == id) ≡ false → ids ≡ before ++ last ∷ [] → last_of (others id ids) ≡ Some last
last-apart id last ids before apart e =
    let stays : others id (last ∷ []) ≡ last ∷ [] = rw apart refl in
    ap (λ (r : List ℕ). last_of (others id r)) e ∙ ap last_of (filter-append (λ (other : ℕ). not (other == id)) before (last ∷ [])) ∙ ap (λ (r : List ℕ). last_of (others id before ++ r)) stays
    ∙ last_of-push (others id before) last

-- what is taken from the end is the last
pub last-taken : {A : Type 0} (f : A → ℕ) (taken : Option A) (ids before : List ℕ) → MatchOption taken ((ids ≡ []) × (before ≡ [])) (λ x. ids ≡ before ++ f x ∷ []) → option_map f taken ≡ last_of ids
last-taken f None ids before h = sym (ap last_of h.0)
last-taken f (Some x) ids before h = sym (ap last_of h ∙ last_of-push before (f x))
