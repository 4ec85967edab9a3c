-- What is played next, in the words of the rules.
use Rattle.std.proofs.Common.{◌≡◌, ◌≢◌, ◌⊎◌, inl, inr, ℕ, zero, suc, ◌+◌, ◌-◌, ◌<◌, ◌≤◌, Bool, true, false, ◌&&◌, ◌||◌, not, nat_lt, ◌==◌, List, [], ◌∷◌, ◌++◌, length, take, drop, filter, find, slice_get, slice_index_or, Contains, Option, Some, None, is_none, is_some, cond, refl, ap, sym, ◌∙◌, subst, arith}
use Rattle.std.specs.List.{list_all}
use Rattle.std.specs.Option.{option_map_or}
use Rattle.std.proofs.lemmas.Bool.{eqb-true, ltb-true, ltb-false}
use Rattle.song_queue.specs.declared.entry.Entry.{Entry}
use Rattle.play_order.specs.declared.modes.Rank.{Rank}
use Rattle.play_order.specs.declared.modes.Modes.{Modes}
use Rattle.play_order.specs.declared.modes.Consume.{Consume}
use Rattle.play_order.specs.declared.modes.Consume.TheVariants as consume
use Rattle.play_order.specs.Draws.{RoundState, rank_of, is_among, has_id, ids_of, without, renewed, moved_last, others}
use Rattle.play_order.specs.Order.{ahead, at_or_first, begun, comes_before, entry_of, first_anew, first_of, ids_taken, is_first, is_over, left_by, next_of, opening_of, or_else, entry_position, round_for, unplayed}
use Rattle.play_order.specs.Ends.{after_next, ahead_after, consumes, entries_left, position_after, round_after, round_left}
use Rattle.play_order.specs.Choices.{AllWerePlayed, BecomesRound, ChoosesUnplayed, ConsumesOne, FollowsBy, FollowsInQueue, FollowsInRound, FollowsPositions, ForgetsGone, HaveOwnIds, IsLeastUnplayed, KeepsRound, OneFollows, Precedes, PrecedesIsOrder, RenewsRound, RoundsForgetGone, RoundsGoOn, left_after, new_ranks}
use Rattle.play_order.specs.Choices.Precedes.{ByPriority, ByRank, ById}
use Rattle.play_order.specs.Choices.FollowsInRound.{InRound, InNewRound, RoundIsOver}
use Rattle.play_order.specs.Choices.FollowsInQueue.{AtPosition, AtFront, QueueIsOver}
use Rattle.play_order.specs.Choices.BecomesRound.{GoesOn, BeginsAnew}
use Rattle.play_order.proofs.Firsts.{Apart, Distinct, EachIn, distinct-from, distinct-left, distinct-unplayed, some-first}
use Rattle.play_order.proofs.Going.{AreApart, apart-from, first-kept, first-round_left, goes-on, is-renewed, left-apart, next-without, opening-next, opening-round, taken-all-apart, without-none}
use Rattle.play_order.proofs.Ids.{among-moved_last, find-left}
use Rattle.play_order.proofs.Lists.{filter-all}
use Rattle.play_order.proofs.Positions.{others-joined}

-- what a list contains, element by element
contains-here : {X : Type 0} (xs : List X) (x : X) → Contains (x ∷ xs) x
contains-here xs x = (0, omega arith, refl)

contains-there : {X : Type 0} (xs : List X) (y x : X) → Contains xs x → Contains (y ∷ xs) x
contains-there xs y x h = (suc h.0, omega (arith, h.1), h.2)

contains-at : {X : Type 0} (xs : List X) (y x : X) (k : ℕ) → k < suc (length xs) → slice_index_or (y ∷ xs) k x ≡ x → (y ≡ x) ⊎ Contains xs x
contains-at xs y x zero l e = inl e
contains-at xs y x (suc k) l e = inr (k, omega arith, e)

pub contains-cases : {X : Type 0} (xs : List X) (y x : X) → Contains (y ∷ xs) x → (y ≡ x) ⊎ Contains xs x
contains-cases xs y x h = contains-at xs y x h.0 h.1 h.2

pub contains-none : {X : Type 0} (x : X) → Contains [] x → ⊥
contains-none x h = omega (arith, h.1)

-- an id that is among others, and one that is not
pub among-contains : (ids : List ℕ) (id : ℕ) → is_among id ids ≡ true → Contains ids id
among-contains [] id h = cc
among-contains (x ∷ ids) id h =
    elim (x == id) as (λ v. (x == id) ≡ v → (v || is_among id ids) ≡ true → Contains (x ∷ ids) id) [
      | true ↦ λ e k. subst (λ (y : ℕ). Contains (x ∷ ids) y) (eqb-true x id e) (contains-here ids x)
      | false ↦ λ e k. contains-there ids x id (among-contains ids id k)
    ] refl h

among-first : (x id : ℕ) (ids : List ℕ) → (x ≡ id) ⊎ Contains ids id → (Contains ids id → is_among id ids ≡ true) → is_among id (x ∷ ids) ≡ true
among-first x id ids (inl e) h = let same : (x == id) ≡ true = grind (arith, e) in rw same refl
among-first x id ids (inr k) h = elim (x == id) as (λ v. (v || is_among id ids) ≡ true) [ true ↦ refl | false ↦ h k ]

pub contains-among : (ids : List ℕ) (id : ℕ) → Contains ids id → is_among id ids ≡ true
contains-among [] id h = absurd (contains-none id h)
contains-among (x ∷ ids) id h = among-first x id ids (contains-cases ids x id h) (contains-among ids id)

-- what a filter keeps
filter-first : {X : Type 0} (p : X → Bool) (xs : List X) (y x : X) → p x ≡ true → (y ≡ x) ⊎ Contains xs x → (Contains xs x → Contains (filter p xs) x) → Contains (filter p (y ∷ xs)) x
filter-first p xs y x t (inl e) h = let passes : p y ≡ true = ap p e ∙ t in rw passes (subst (λ z. Contains (y ∷ filter p xs) z) e (contains-here (filter p xs) y))
filter-first p xs y x t (inr k) h = elim (p y) as (λ v. Contains (cond v (y ∷ filter p xs) (filter p xs)) x) [ true ↦ contains-there (filter p xs) y x (h k) | false ↦ h k ]

pub in-filter : {X : Type 0} (p : X → Bool) (xs : List X) (x : X) → p x ≡ true → Contains xs x → Contains (filter p xs) x
in-filter p [] x t h = absurd (contains-none x h)
in-filter p (y ∷ xs) x t h = filter-first p xs y x t (contains-cases xs y x h) (in-filter p xs x t)

kept-first : {X : Type 0} (p : X → Bool) (xs : List X) (y x : X) → p y ≡ true → (y ≡ x) ⊎ Contains (filter p xs) x
    → (Contains (filter p xs) x → Contains xs x × (p x ≡ true)) → Contains (y ∷ xs) x × (p x ≡ true)
kept-first p xs y x t (inl e) h = (subst (λ z. Contains (y ∷ xs) z) e (contains-here xs y), sym (ap p e) ∙ t)
kept-first p xs y x t (inr k) h = let r = h k in (contains-there xs y x r.0, r.1)

pub of-filter : {X : Type 0} (p : X → Bool) (xs : List X) (x : X) → Contains (filter p xs) x → Contains xs x × (p x ≡ true)
of-filter p [] x h = absurd (contains-none x h)
of-filter p (y ∷ xs) x h =
    elim (p y) as (λ v. p y ≡ v → Contains (cond v (y ∷ filter p xs) (filter p xs)) x → Contains (y ∷ xs) x × (p x ≡ true)) [
      | true ↦ λ e k. kept-first p xs y x e (contains-cases (filter p xs) y x k) (of-filter p xs x)
      | false ↦ λ e k. let r = of-filter p xs x k in (contains-there xs y x r.0, r.1)
    ] refl h

-- what is found is there, and passes
pub find-there : {X : Type 0} (p : X → Bool) (xs : List X) (b : X) → find p xs ≡ Some b → Contains xs b × (p b ≡ true)
find-there p [] b h = cc
find-there p (x ∷ xs) b h =
    elim (p x) as (λ v. p x ≡ v → cond v (Some x) (find p xs) ≡ Some b → Contains (x ∷ xs) b × (p b ≡ true)) [
      | true ↦ λ t e. let s : x ≡ b = cc in (subst (λ z. Contains (x ∷ xs) z) s (contains-here xs x), sym (ap p s) ∙ t)
      | false ↦ λ t e. let r = find-there p xs b e in (contains-there xs x b r.0, r.1)
    ] refl h

-- a test that all pass is passed by each
all-first : {X : Type 0} (p : X → Bool) (xs : List X) (y x : X) → list_all p (y ∷ xs) ≡ true → (y ≡ x) ⊎ Contains xs x → (list_all p xs ≡ true → Contains xs x → p x ≡ true) → p x ≡ true
all-first p xs y x h (inl e) k = let first : p y ≡ true = grind arith in sym (ap p e) ∙ first
all-first p xs y x h (inr c) k = let rest : list_all p xs ≡ true = grind arith in k rest c

all-pass : {X : Type 0} (p : X → Bool) (xs : List X) (x : X) → list_all p xs ≡ true → Contains xs x → p x ≡ true
all-pass p [] x h c = absurd (contains-none x c)
all-pass p (y ∷ xs) x h c = all-first p xs y x h (contains-cases xs y x c) (all-pass p xs x)

-- entries with distinct ids: the id names the entry
each-first : (P : Entry → Type 0) (xs : List Entry) (y x : Entry) → EachIn P (y ∷ xs) → (y ≡ x) ⊎ Contains xs x → (Contains xs x → P x) → P x
each-first P xs y x h (inl e) k = subst P e h.0
each-first P xs y x h (inr c) k = k c

pub each-there : (P : Entry → Type 0) (xs : List Entry) (x : Entry) → EachIn P xs → Contains xs x → P x
each-there P [] x h c = absurd (contains-none x c)
each-there P (y ∷ xs) x h c = each-first P xs y x h (contains-cases xs y x c) (each-there P xs x h.1)

one-first : (xs : List Entry) (x a b : Entry) → Apart x xs → (x ≡ a) ⊎ Contains xs a → (x ≡ b) ⊎ Contains xs b → a.id ≡ b.id → (Contains xs a → Contains xs b → a ≡ b) → a ≡ b
one-first xs x a b d (inl h) (inl k) e rest = sym h ∙ k
one-first xs x a b d (inl h) (inr k) e rest = absurd (each-there (λ y. x.id ≢ y.id) xs b d k (ap (λ (y : Entry). y.id) h ∙ e))
one-first xs x a b d (inr h) (inl k) e rest = absurd (each-there (λ y. x.id ≢ y.id) xs a d h (ap (λ (y : Entry). y.id) k ∙ sym e))
one-first xs x a b d (inr h) (inr k) e rest = rest h k

one-entry : (xs : List Entry) (a b : Entry) → Distinct xs → Contains xs a → Contains xs b → a.id ≡ b.id → a ≡ b
one-entry [] a b d h k e = absurd (contains-none a h)
one-entry (x ∷ xs) a b d h k e = one-first xs x a b d.0 (contains-cases xs x a h) (contains-cases xs x b k) e (λ i j. one-entry xs a b d.1 i j e)

-- the order of two entries
ordered : (x y : ℕ) → (x < y) ⊎ ((x ≡ y) ⊎ (y < x))
ordered x y =
    elim (nat_lt x y) as (λ v. nat_lt x y ≡ v → (x < y) ⊎ ((x ≡ y) ⊎ (y < x))) [
      | true ↦ λ e. inl (ltb-true x y e)
      | false ↦ λ e. elim (nat_lt y x) as (λ v. nat_lt y x ≡ v → (x < y) ⊎ ((x ≡ y) ⊎ (y < x))) [
        | true ↦ λ f. inr (inr (ltb-true y x f))
        | false ↦ λ f. let below : y ≤ x = ltb-false x y e in let above : x ≤ y = ltb-false y x f in inr (inl (omega arith))
      ] refl
    ] refl

by-number : (ranks : List Rank) (a b : Entry) → a.id ≢ b.id → a.priority ≡ b.priority → rank_of ranks a.id ≡ rank_of ranks b.id → (a.id < b.id) ⊎ ((a.id ≡ b.id) ⊎ (b.id < a.id))
    → Precedes ranks a b ⊎ Precedes ranks b a
by-number ranks a b d p r (inl h) = inl (ById p r h)
by-number ranks a b d p r (inr (inl h)) = absurd (d h)
by-number ranks a b d p r (inr (inr h)) = inr (ById (sym p) (sym r) h)

by-rank : (ranks : List Rank) (a b : Entry) → a.id ≢ b.id → a.priority ≡ b.priority
    → (rank_of ranks a.id < rank_of ranks b.id) ⊎ ((rank_of ranks a.id ≡ rank_of ranks b.id) ⊎ (rank_of ranks b.id < rank_of ranks a.id)) → Precedes ranks a b ⊎ Precedes ranks b a
by-rank ranks a b d p (inl h) = inl (ByRank p h)
by-rank ranks a b d p (inr (inl h)) = by-number ranks a b d p h (ordered a.id b.id)
by-rank ranks a b d p (inr (inr h)) = inr (ByRank (sym p) h)

by-priority : (ranks : List Rank) (a b : Entry) → a.id ≢ b.id → (a.priority < b.priority) ⊎ ((a.priority ≡ b.priority) ⊎ (b.priority < a.priority)) → Precedes ranks a b ⊎ Precedes ranks b a
by-priority ranks a b d (inl h) = inr (ByPriority h)
by-priority ranks a b d (inr (inl h)) = by-rank ranks a b d h (ordered (rank_of ranks a.id) (rank_of ranks b.id))
by-priority ranks a b d (inr (inr h)) = inl (ByPriority h)

never-itself : (ranks : List Rank) (a : Entry) → Precedes ranks a a → ⊥
never-itself ranks a (ByPriority h) = omega (arith, h)
never-itself ranks a (ByRank p h) = omega (arith, h)
never-itself ranks a (ById p r h) = omega (arith, h)

further : (ranks : List Rank) (a b c : Entry) → Precedes ranks a b → Precedes ranks b c → Precedes ranks a c
further ranks a b c (ByPriority h) (ByPriority k) = ByPriority (omega (arith, h, k))
further ranks a b c (ByPriority h) (ByRank p k) = ByPriority (omega (arith, h, p))
further ranks a b c (ByPriority h) (ById p r k) = ByPriority (omega (arith, h, p))
further ranks a b c (ByRank p h) (ByPriority k) = ByPriority (omega (arith, p, k))
further ranks a b c (ByRank p h) (ByRank q k) = ByRank (p ∙ q) (omega (arith, h, k))
further ranks a b c (ByRank p h) (ById q r k) = ByRank (p ∙ q) (omega (arith, h, r))
further ranks a b c (ById p r h) (ByPriority k) = ByPriority (omega (arith, p, k))
further ranks a b c (ById p r h) (ByRank q k) = ByRank (p ∙ q) (omega (arith, r, k))
further ranks a b c (ById p r h) (ById q s k) = ById (p ∙ q) (r ∙ s) (omega (arith, h, k))

pub precedes_is_order : PrecedesIsOrder
precedes_is_order = record {
  apart = never-itself;
  through = further;
  total = λ ranks a b d. by-priority ranks a b d (ordered a.priority b.priority);
}

precedes-from : (ranks : List Rank) (a b : Entry) → comes_before ranks a b ≡ true → Precedes ranks a b
precedes-from ranks a b h =
    let r : ℕ = rank_of ranks a.id in
    let s : ℕ = rank_of ranks b.id in
    elim (nat_lt b.priority a.priority) as (λ v. nat_lt b.priority a.priority ≡ v → (v || ((a.priority == b.priority) && (nat_lt r s || ((r == s) && nat_lt a.id b.id)))) ≡ true → Precedes ranks a b) [
      | true ↦ λ e k. ByPriority (ltb-true b.priority a.priority e)
      | false ↦ λ e k. elim (a.priority == b.priority) as (λ v. (a.priority == b.priority) ≡ v → (v && (nat_lt r s || ((r == s) && nat_lt a.id b.id))) ≡ true → Precedes ranks a b) [
        | true ↦ λ p l. elim (nat_lt r s) as (λ v. nat_lt r s ≡ v → (v || ((r == s) && nat_lt a.id b.id)) ≡ true → Precedes ranks a b) [
          | true ↦ λ f m. ByRank (eqb-true a.priority b.priority p) (ltb-true r s f)
          | false ↦ λ f m. elim (r == s) as (λ v. (r == s) ≡ v → (v && nat_lt a.id b.id) ≡ true → Precedes ranks a b) [
            | true ↦ λ g n. ById (eqb-true a.priority b.priority p) (eqb-true r s g) (ltb-true a.id b.id n)
            | false ↦ λ g n. cc
          ] refl m
        ] refl l
        | false ↦ λ p l. cc
      ] refl k
    ] refl h

-- the first of those that were not played
least-by : (ranks : List Rank) (xs : List Entry) (c other : Entry) → Distinct xs → Contains xs c → Contains xs other → (has_id c.id other || comes_before ranks c other) ≡ true
    → (other ≡ c) ⊎ Precedes ranks c other
least-by ranks xs c other d h k t =
    elim (has_id c.id other) as (λ v. has_id c.id other ≡ v → (v || comes_before ranks c other) ≡ true → (other ≡ c) ⊎ Precedes ranks c other) [
      | true ↦ λ e m. inl (one-entry xs other c d k h (eqb-true other.id c.id e))
      | false ↦ λ e m. inr (precedes-from ranks c other m)
    ] refl t

not-among : (ids : List ℕ) (id : ℕ) → (Contains ids id → ⊥) → not (is_among id ids) ≡ true
not-among ids id h = elim (is_among id ids) as (λ v. is_among id ids ≡ v → not v ≡ true) [ true ↦ λ e. absurd (h (among-contains ids id e)) | false ↦ λ e. refl ] refl

pub not-contained : (ids : List ℕ) (id : ℕ) → not (is_among id ids) ≡ true → Contains ids id → ⊥
not-contained ids id h c = let e : is_among id ids ≡ true = contains-among ids id c in let f : false ≡ true = sym (ap not e) ∙ h in cc

least-of : (ranks : List Rank) (played : List ℕ) (entries : List Entry) (c : Entry) → Distinct entries → first_of ranks (unplayed played entries) ≡ Some c → IsLeastUnplayed ranks played entries c
least-of ranks played entries c d h =
    let xs : List Entry = unplayed played entries in
    let found = find-there (is_first ranks xs) xs c h in
    let there = of-filter (λ e. not (is_among e.id played)) entries c found.0 in
    record {
      in_queue = there.0;
      unplayed = not-contained played c.id there.1;
      least = λ other k m.
          let here : Contains xs other = in-filter (λ e. not (is_among e.id played)) entries other (not-among played other.id m) k in
          least-by ranks entries c other d there.0 k (all-pass (λ e. has_id c.id e || comes_before ranks c e) xs other found.1 here);
    }

-- where there is no first one, all were played
nothing-first : (ranks : List Rank) (xs : List Entry) → Distinct xs → first_of ranks xs ≡ None → length xs ≡ 0
nothing-first ranks xs d h =
    let none : nat_lt 0 (length xs) ≡ false = sym (some-first ranks xs d) ∙ ap is_some h in
    let below : length xs ≤ 0 = ltb-false 0 (length xs) none in
    omega (arith, below)

all-played : (ranks : List Rank) (played : List ℕ) (entries : List Entry) → Distinct entries → first_of ranks (unplayed played entries) ≡ None → AllWerePlayed played entries
all-played ranks played entries d h entry there =
    let none : length (unplayed played entries) ≡ 0 = nothing-first ranks (unplayed played entries) (distinct-unplayed played entries d) h in
    elim (is_among entry.id played) as (λ v. is_among entry.id played ≡ v → Contains played entry.id) [
      | true ↦ λ e. among-contains played entry.id e
      | false ↦ λ e. let here : Contains (unplayed played entries) entry = in-filter (λ (x : Entry). not (is_among x.id played)) entries entry (ap not e) there in absurd (omega (arith, here.1, none))
    ] refl

no-entries : (xs : List Entry) → length xs ≡ 0 → xs ≡ []
no-entries [] h = refl
no-entries (x ∷ xs) h = absurd (omega (arith, h))

nothing-left : (ranks : List Rank) (left : List Entry) → Distinct left → first_of ranks (unplayed [] left) ≡ None → left ≡ []
nothing-left ranks left d h =
    let none : length (unplayed [] left) ≡ 0 = nothing-first ranks (unplayed [] left) (distinct-unplayed [] left d) h in
    no-entries left (sym (ap length (filter-all left)) ∙ none)

-- what follows in random order, when ids have left the round and no entry that is left has one of them
new-round : (repeat : Bool) (round : RoundState) (ids : List ℕ) (left : List Entry) → Distinct left → AllWerePlayed round.played left → FollowsInRound repeat round left (first_anew repeat (without round ids) left)
new-round false round ids left d all = RoundIsOver all (inl refl)
new-round true round ids left d all =
    elim (first_of (new_ranks round left) (unplayed [] left)) as (λ o. first_of (new_ranks round left) (unplayed [] left) ≡ o → FollowsInRound true round left o) [
      | None ↦ λ e. RoundIsOver all (inr (nothing-left (new_ranks round left) left d e))
      | Some c ↦ λ e. InNewRound c all refl (least-of (new_ranks round left) [] left c d e)
    ] refl

follows-round : (modes : Modes) (round : RoundState) (ids : List ℕ) (left : List Entry) (position : ℕ) → modes.random ≡ true → AreApart ids left → Distinct left
    → FollowsInRound modes.repeat round left (next_of modes (without round ids) left position)
follows-round modes round ids left position random apart d =
    elim (first_of round.ranks (unplayed round.played left)) as (λ o. first_of round.ranks (unplayed round.played left) ≡ o → FollowsInRound modes.repeat round left (next_of modes (without round ids) left position)) [
      | None ↦ λ e.
          let over = is-renewed modes (without round ids) left position random (first-kept round ids left apart ∙ e) in
          subst (λ (o : Option Entry). FollowsInRound modes.repeat round left o) (sym over.1) (new-round modes.repeat round ids left d (all-played round.ranks round.played left d e))
      | Some c ↦ λ e.
          subst (λ (o : Option Entry). FollowsInRound modes.repeat round left o) (sym (next-without modes round ids left position c random apart e)) (InRound c (least-of round.ranks round.played left c d e))
    ] refl

-- the position of an entry
each-get : (P : Entry → Type 0) (xs : List Entry) (k : ℕ) (x : Entry) → slice_get xs k ≡ Some x → EachIn P xs → P x
each-get P [] k x e h = cc
each-get P (y ∷ xs) zero x e h = let s : y ≡ x = cc in subst P s h.0
each-get P (y ∷ xs) (suc k) x e h = each-get P xs k x e h.1

pub position-at : (xs : List Entry) (k : ℕ) (x : Entry) → Distinct xs → slice_get xs k ≡ Some x → entry_position xs x.id ≡ k
position-at [] k x d h = cc
position-at (y ∷ xs) zero x d h =
    let s : y ≡ x = cc in
    let same : has_id x.id y ≡ true = grind (arith, ap (λ (z : Entry). z.id) s) in
    rw same refl
position-at (y ∷ xs) (suc k) x d h =
    let differ : y.id ≢ x.id = each-get (λ z. y.id ≢ z.id) xs k x h d.0 in
    let other : has_id x.id y ≡ false = grind (arith, differ) in
    rw other (omega (arith, position-at xs k x d.1 h))

pub get-within : (xs : List Entry) (k : ℕ) (x : Entry) → slice_get xs k ≡ Some x → k < length xs
get-within [] k x h = cc
get-within (y ∷ xs) zero x h = omega arith
get-within (y ∷ xs) (suc k) x h = omega (arith, get-within xs k x h)

get-none : (xs : List Entry) (k : ℕ) → slice_get xs k ≡ None → length xs ≤ k
get-none [] k h = omega arith
get-none (y ∷ xs) zero h = cc
get-none (y ∷ xs) (suc k) h = omega (arith, get-none xs k h)

-- what consume leaves
left-by : (c : Consume) (entries : List Entry) (id position : ℕ) → Distinct entries → entry_position entries id ≡ position → position < length entries
    → cond (consumes c) (filter (λ e. not (has_id id e)) entries) entries ≡ left_after c entries position
left-by consume.Off entries id position d e l = refl
left-by consume.On entries id position d e l = sym (others-joined id entries d (omega (arith, e, l))) ∙ ap (λ (n : ℕ). left_by entries n (n + 1)) e
left-by consume.Oneshot entries id position d e l = sym (others-joined id entries d (omega (arith, e, l))) ∙ ap (λ (n : ℕ). left_by entries n (n + 1)) e

pub consumes_one : ConsumesOne
consumes_one modes round entries position song own at =
    let d : Distinct entries = distinct-from entries own in
    left-by modes.consume entries song.id position d (position-at entries position song d at) (get-within entries position song at)

distinct-after : (c : Consume) (entries : List Entry) (position : ℕ) → Distinct entries → Distinct (left_after c entries position)
distinct-after consume.Off entries position d = d
distinct-after consume.On entries position d = distinct-left position (position + 1) entries (omega arith) d
distinct-after consume.Oneshot entries position d = distinct-left position (position + 1) entries (omega arith) d

pub none-apart : (entries : List Entry) → AreApart [] entries
none-apart [] = tt
none-apart (e ∷ entries) = (refl, none-apart entries)

random-end : (modes : Modes) (round : RoundState) (entries : List Entry) (id : ℕ) (b : Bool) → modes.random ≡ true → Distinct (cond b (filter (λ e. not (has_id id e)) entries) entries)
    → FollowsInRound modes.repeat round (cond b (filter (λ e. not (has_id id e)) entries) entries)
    (next_of modes (cond b (without round (id ∷ [])) round) (cond b (filter (λ e. not (has_id id e)) entries) entries) (cond b (entry_position entries id) (entry_position entries id + 1)))
random-end modes round entries id true random d = follows-round modes round (id ∷ []) (filter (λ e. not (has_id id e)) entries) (entry_position entries id) random (left-apart id entries) d
random-end modes round entries id false random d =
    subst (λ (r : RoundState). FollowsInRound modes.repeat round entries (next_of modes r entries (entry_position entries id + 1))) (without-none round)
    (follows-round modes round [] entries (entry_position entries id + 1) random (none-apart entries) d)

random-at-end : (modes : Modes) (round : RoundState) (entries : List Entry) (position : ℕ) (song : Entry) → modes.random ≡ true → HaveOwnIds entries → slice_get entries position ≡ Some song
    → FollowsInRound modes.repeat round (left_after modes.consume entries position) (after_next modes round entries song.id).entry
random-at-end modes round entries position song random own at =
    let same = consumes_one modes round entries position song own at in
    let d : Distinct (entries_left modes entries song.id) = subst Distinct (sym same) (distinct-after modes.consume entries position (distinct-from entries own)) in
    subst (λ (left : List Entry). FollowsInRound modes.repeat round left (after_next modes round entries song.id).entry) same
    (random-end modes round entries song.id (consumes modes.consume) random d)

pub chooses_unplayed : ChoosesUnplayed
chooses_unplayed = record {
  at_end = random-at-end;
  at_removal = λ modes round entries from end random own order.
      let d : Distinct entries = distinct-from entries own in
      let ids : List ℕ = ids_taken entries from end in
      follows-round modes round ids (left_by entries from end) from random (apart-from ids (left_by entries from end) (taken-all-apart from end entries ids order d refl)) (distinct-left from end entries order d);
}

-- an id that starts is played, and others are as they were
pub last-among : (q id : ℕ) (played : List ℕ) → Contains played q ⊎ (q ≡ id) → Contains (moved_last played id) q
last-among q id played (inl h) =
    let e : is_among q (moved_last played id) ≡ true = among-moved_last q id played ∙ (grind (arith, contains-among played q h)) in among-contains (moved_last played id) q e
last-among q id played (inr h) =
    let same : (id == q) ≡ true = grind (arith, h) in
    let e : is_among q (moved_last played id) ≡ true = among-moved_last q id played ∙ ap (λ (b : Bool). cond b true (is_among q played)) same in
    among-contains (moved_last played id) q e

pub among-last : (q id : ℕ) (played : List ℕ) → Contains (moved_last played id) q → Contains played q ⊎ (q ≡ id)
among-last q id played h =
    let e : cond (id == q) true (is_among q played) ≡ true = sym (among-moved_last q id played) ∙ contains-among (moved_last played id) q h in
    elim (id == q) as (λ v. (id == q) ≡ v → cond v true (is_among q played) ≡ true → Contains played q ⊎ (q ≡ id)) [
      | true ↦ λ f k. inr (sym (eqb-true id q f))
      | false ↦ λ f k. inl (among-contains played q k)
    ] refl e

-- an id that is not gone is among those that are left as it was among all
left-contains : (q : ℕ) (gone played : List ℕ) → is_among q gone ≡ false → Contains played q → Contains (filter (λ id. not (is_among id gone)) played) q
left-contains q gone played h c = in-filter (λ id. not (is_among id gone)) played q (ap not h) c

each-apart : (ids : List ℕ) (left : List Entry) (e : Entry) → AreApart ids left → Contains left e → is_among e.id ids ≡ false
each-apart ids left e h c = each-there (λ x. is_among x.id ids ≡ false) left e h c

map-inl : {A B C : Type 0} → (A → C) → A ⊎ B → C ⊎ B
map-inl f (inl a) = inl (f a)
map-inl f (inr b) = inr b

not-true : (b : Bool) → not b ≡ true → b ≡ false
not-true true h = sym h
not-true false h = refl

-- each entry whose id is not gone is left
abbrev pub AllLeft : List ℕ → List Entry → List Entry → Type 0
AllLeft ids entries left = (e : Entry) → Contains entries e → is_among e.id ids ≡ false → Contains left e

rank-kept : (ids : List ℕ) (left : List Entry) (other : Entry) (ranks : List Rank) → AreApart ids left → Contains left other → rank_of (filter (λ r. not (is_among r.id ids)) ranks) other.id ≡ rank_of ranks other.id
rank-kept ids left other ranks apart there =
    ap (λ (r : Option Rank). option_map_or (λ (x : Rank). x.rank) r 0) (find-left other.id ids ranks ∙ ap (λ (b : Bool). cond b None (find (λ (r : Rank). r.id == other.id) ranks)) (each-apart ids left other apart there))

-- a round that some ids have left, where all others are left
pub forgets : (round : RoundState) (ids : List ℕ) (entries left : List Entry) → AreApart ids left → AllLeft ids entries left → ForgetsGone round (without round ids) entries left
forgets round ids entries left apart all = record {
  ranks = λ other there. rank-kept ids left other round.ranks apart there;
  generator = refl;
  kept = λ other there h. left-contains other.id ids round.played (each-apart ids left other apart there) h;
  no_more = λ id h. (of-filter (λ x. not (is_among x ids)) round.played id h).0;
  only_left = λ other there h. all other there (not-true (is_among other.id ids) (of-filter (λ id. not (is_among id ids)) round.played other.id h).1);
}

-- the same where an entry starts
kept-entry : (round : RoundState) (ids : List ℕ) (entries left : List Entry) (c other : Entry) → AreApart ids left → AllLeft ids entries left → Contains left c → Contains entries other
    → Contains (without round ids).played other.id ⊎ (other.id ≡ c.id) → Contains left other
kept-entry round ids entries left c other apart all here there (inl h) = (forgets round ids entries left apart all).only_left other there h
kept-entry round ids entries left c other apart all here there (inr e) = all other there (ap (λ (n : ℕ). is_among n ids) e ∙ each-apart ids left c apart here)

pub keeps : (round : RoundState) (ids : List ℕ) (entries left : List Entry) (c : Entry) → AreApart ids left → AllLeft ids entries left → Contains left c
    → KeepsRound round (record (without round ids) { played = moved_last (without round ids).played c.id }) entries left c
keeps round ids entries left c apart all here = record {
  ranks = λ other there. rank-kept ids left other round.ranks apart there;
  generator = refl;
  kept = λ other there h. last-among other.id c.id (without round ids).played (inl (left-contains other.id ids round.played (each-apart ids left other apart there) h));
  last = (others c.id (without round ids).played, refl);
  no_more = λ id h. map-inl (λ k. (of-filter (λ x. not (is_among x ids)) round.played id k).0) (among-last id c.id (without round ids).played h);
  only_left = λ other there h. kept-entry round ids entries left c other apart all here there (among-last other.id c.id (without round ids).played h);
}

-- which entries are left
split-first : (n : ℕ) (xs : List Entry) (x e : Entry) → (x ≡ e) ⊎ Contains xs e → (Contains xs e → Contains (take n xs) e ⊎ Contains (drop n xs) e) → Contains (x ∷ take n xs) e ⊎ Contains (drop n xs) e
split-first n xs x e (inl h) k = inl (subst (λ (y : Entry). Contains (x ∷ take n xs) y) h (contains-here (take n xs) x))
split-first n xs x e (inr h) k = map-inl (λ c. contains-there (take n xs) x e c) (k h)

swapped : {A B : Type 0} → A ⊎ B → B ⊎ A
swapped (inl a) = inr a
swapped (inr b) = inl b

parts-first : (ys zs xs : List Entry) (x e : Entry) → (x ≡ e) ⊎ Contains xs e → (Contains xs e → Contains ys e ⊎ Contains zs e) → Contains (x ∷ ys) e ⊎ Contains zs e
parts-first ys zs xs x e (inl h) k = inl (subst (λ (y : Entry). Contains (x ∷ ys) y) h (contains-here ys x))
parts-first ys zs xs x e (inr h) k = map-inl (λ c. contains-there ys x e c) (k h)

among-ids-first : (x e : Entry) (xs : List Entry) → (x ≡ e) ⊎ Contains xs e → (Contains xs e → is_among e.id (ids_of xs) ≡ true) → is_among e.id (x.id ∷ ids_of xs) ≡ true
among-ids-first x e xs (inl h) k = let same : (x.id == e.id) ≡ true = grind (arith, ap (λ (y : Entry). y.id) h) in rw same refl
among-ids-first x e xs (inr h) k = elim (x.id == e.id) as (λ v. (v || is_among e.id (ids_of xs)) ≡ true) [ true ↦ refl | false ↦ k h ]

either-left : {B : Type 0} (A : Type 0) → A ⊎ B → (B → A) → A
either-left A (inl a) k = a
either-left A (inr b) k = k b

not-consumed : (id : ℕ) (entries : List Entry) (e : Entry) → Contains entries e → is_among e.id (id ∷ []) ≡ false → Contains (filter (λ x. not (has_id id x)) entries) e
not-consumed id entries e there h =
    let other : not (has_id id e) ≡ true = grind (arith, h) in
    in-filter (λ x. not (has_id id x)) entries e other there

split : (n : ℕ) (xs : List Entry) (e : Entry) → Contains xs e → Contains (take n xs) e ⊎ Contains (drop n xs) e
split zero xs e h = inr h
split (suc n) [] e h = absurd (contains-none e h)
split (suc n) (x ∷ xs) e h = split-first n xs x e (contains-cases xs x e h) (split n xs e)

parts : (from n : ℕ) (xs : List Entry) (e : Entry) → Contains xs e → Contains (take from xs ++ drop (from + n) xs) e ⊎ Contains (take n (drop from xs)) e
parts zero n xs e h = let same : 0 + n ≡ n = omega arith in subst (λ (k : ℕ). Contains (drop k xs) e ⊎ Contains (take n xs) e) (sym same) (swapped (split n xs e h))
parts (suc from) n [] e h = absurd (contains-none e h)
parts (suc from) n (x ∷ xs) e h =
    let same : suc from + n ≡ suc (from + n) = omega arith in
    subst (λ (k : ℕ). Contains (x ∷ take from xs ++ drop k (x ∷ xs)) e ⊎ Contains (take n (drop from xs)) e) (sym same)
    (parts-first (take from xs ++ drop (from + n) xs) (take n (drop from xs)) xs x e (contains-cases xs x e h) (parts from n xs e))

ids-among : (xs : List Entry) (e : Entry) → Contains xs e → is_among e.id (ids_of xs) ≡ true
ids-among [] e h = absurd (contains-none e h)
ids-among (x ∷ xs) e h = among-ids-first x e xs (contains-cases xs x e h) (ids-among xs e)

not-deleted : (from end : ℕ) (entries : List Entry) (e : Entry) → from ≤ end → Contains entries e → is_among e.id (ids_taken entries from end) ≡ false → Contains (left_by entries from end) e
not-deleted from end entries e h there new =
    let same : from + (end - from) ≡ end = omega arith in
    either-left (Contains (left_by entries from end) e) (subst (λ (k : ℕ). Contains (left_by entries from k) e ⊎ Contains (take (end - from) (drop from entries)) e) same (parts from (end - from) entries e there))
    (λ taken. let lost : true ≡ false = sym (ids-among (take (end - from) (drop from entries)) e taken) ∙ new in cc)

forgets-consumed : (c : Consume) (round : RoundState) (entries : List Entry) (position id : ℕ) → Distinct entries → entry_position entries id ≡ position → position < length entries
    → ForgetsGone round (cond (consumes c) (without round (id ∷ [])) round) entries (left_after c entries position)
forgets-consumed consume.Off round entries position id d e l =
    subst (λ (r : RoundState). ForgetsGone round r entries entries) (without-none round) (forgets round [] entries entries (none-apart entries) (λ x there new. there))
forgets-consumed consume.On round entries position id d e l =
    subst (λ (left : List Entry). ForgetsGone round (without round (id ∷ [])) entries left) (left-by consume.On entries id position d e l)
    (forgets round (id ∷ []) entries (filter (λ x. not (has_id id x)) entries) (left-apart id entries) (not-consumed id entries))
forgets-consumed consume.Oneshot round entries position id d e l =
    subst (λ (left : List Entry). ForgetsGone round (without round (id ∷ [])) entries left) (left-by consume.On entries id position d e l)
    (forgets round (id ∷ []) entries (filter (λ x. not (has_id id x)) entries) (left-apart id entries) (not-consumed id entries))

pub rounds_forget_gone : RoundsForgetGone
rounds_forget_gone = record {
  consumed = λ modes round entries position song own at.
      let d : Distinct entries = distinct-from entries own in
      forgets-consumed modes.consume round entries position song.id d (position-at entries position song d at) (get-within entries position song at);
  deleted = λ round entries from end own order.
      let ids : List ℕ = ids_taken entries from end in
      forgets round ids entries (left_by entries from end) (apart-from ids (left_by entries from end) (taken-all-apart from end entries ids order (distinct-from entries own) refl))
      (λ e there new. not-deleted from end entries e order there new);
}

renews : (modes : Modes) (round : RoundState) (left : List Entry) (o : Option Entry) → modes.random ≡ true → RenewsRound round (begun modes (renewed round (ids_of left)) o) left o
renews modes round left None random = record { ranks = refl; generator = refl; played = refl }
renews modes round left (Some e) random =
    subst (λ (r : RoundState). RenewsRound round r left (Some e)) (sym (ap (λ (b : Bool). cond b (record (renewed round (ids_of left)) { played = e.id ∷ [] }) (renewed round (ids_of left))) random))
    (record { ranks = refl; generator = refl; played = refl })

as-whole : (modes : Modes) (round : RoundState) (ids : List ℕ) (left : List Entry) (o : Option Entry) → modes.random ≡ true → RenewsRound round (begun modes (renewed (without round ids) (ids_of left)) o) left o
as-whole modes round ids left o random = renews modes round left o random

-- a start heeds no mode but `random`
begun-same : (modes other : Modes) (round : RoundState) (o : Option Entry) → modes.random ≡ other.random → begun modes round o ≡ begun other round o
begun-same modes other round None h = refl
begun-same modes other round (Some e) h = ap (λ (b : Bool). cond b (record round { played = moved_last round.played e.id }) round) h

-- the round when what follows has started
abbrev ended-round : Modes → RoundState → List Entry → ℕ → RoundState
ended-round modes rest left position = begun modes (round_for modes rest left) (next_of modes rest left position)

becomes : (modes : Modes) (round : RoundState) (ids : List ℕ) (entries left : List Entry) (position : ℕ) → modes.random ≡ true → AreApart ids left → AllLeft ids entries left → Distinct left
    → BecomesRound round (begun modes (round_for modes (without round ids) left) (next_of modes (without round ids) left position)) entries left (next_of modes (without round ids) left position)
becomes modes round ids entries left position random apart all d =
    let rest : RoundState = without round ids in
    let next : Option Entry = next_of modes rest left position in
    elim (first_of round.ranks (unplayed round.played left)) as (λ o. first_of round.ranks (unplayed round.played left) ≡ o → BecomesRound round (begun modes (round_for modes rest left) next) entries left next) [
      | None ↦ λ e.
          let over = is-renewed modes rest left position random (first-kept round ids left apart ∙ e) in
          BeginsAnew next (all-played round.ranks round.played left d e)
          (subst (λ (r : RoundState). RenewsRound round (begun modes r next) left next) (sym over.0) (as-whole modes round ids left next random))
      | Some c ↦ λ e.
          let on = goes-on modes rest left position c random (first-kept round ids left apart ∙ e) in
          let least = least-of round.ranks round.played left c d e in
          let after : begun modes (round_for modes rest left) (Some c) ≡ record rest { played = moved_last rest.played c.id } =
          ap (λ (r : RoundState). begun modes r (Some c)) on.0 ∙ ap (λ (b : Bool). cond b (record rest { played = moved_last rest.played c.id }) rest) random in
          subst (λ (o : Option Entry). BecomesRound round (begun modes (round_for modes rest left) o) entries left o) (sym on.1)
          (subst (λ (r : RoundState). BecomesRound round r entries left (Some c)) (sym after) (GoesOn c (λ over. least.unplayed (over c least.in_queue)) (keeps round ids entries left c apart all least.in_queue)))
    ] refl

rounds-end : (modes : Modes) (round : RoundState) (entries : List Entry) (id : ℕ) (b : Bool) → modes.random ≡ true → Distinct (cond b (filter (λ e. not (has_id id e)) entries) entries)
    → BecomesRound round (ended-round modes (cond b (without round (id ∷ [])) round) (cond b (filter (λ e. not (has_id id e)) entries) entries) (cond b (entry_position entries id) (entry_position entries id + 1)))
    entries (cond b (filter (λ e. not (has_id id e)) entries) entries)
    (next_of modes (cond b (without round (id ∷ [])) round) (cond b (filter (λ e. not (has_id id e)) entries) entries) (cond b (entry_position entries id) (entry_position entries id + 1)))
rounds-end modes round entries id true random d = becomes modes round (id ∷ []) entries (filter (λ e. not (has_id id e)) entries) (entry_position entries id) random (left-apart id entries) (not-consumed id entries) d
rounds-end modes round entries id false random d =
    subst (λ (r : RoundState). BecomesRound round (ended-round modes r entries (entry_position entries id + 1)) entries entries (next_of modes r entries (entry_position entries id + 1))) (without-none round)
    (becomes modes round [] entries entries (entry_position entries id + 1) random (none-apart entries) (λ x there new. there) d)

rounds-at-end : (modes : Modes) (round : RoundState) (entries : List Entry) (position : ℕ) (song : Entry) → modes.random ≡ true → HaveOwnIds entries → slice_get entries position ≡ Some song
    → BecomesRound round (round_after (after_next modes round entries song.id)) entries (left_after modes.consume entries position) (after_next modes round entries song.id).entry
rounds-at-end modes round entries position song random own at =
    let same = consumes_one modes round entries position song own at in
    let d : Distinct (entries_left modes entries song.id) = subst Distinct (sym same) (distinct-after modes.consume entries position (distinct-from entries own)) in
    let next : Option Entry = (after_next modes round entries song.id).entry in
    subst (λ (left : List Entry). BecomesRound round (round_after (after_next modes round entries song.id)) entries left next) same
    (subst (λ (r : RoundState). BecomesRound round r entries (entries_left modes entries song.id) next)
    (begun-same modes (after_next modes round entries song.id).modes (round_for modes (round_left modes round song.id) (entries_left modes entries song.id)) next refl)
    (rounds-end modes round entries song.id (consumes modes.consume) random d))

pub rounds_go_on : RoundsGoOn
rounds_go_on = record {
  at_end = rounds-at-end;
  at_removal = λ modes round entries from end random own order.
      let d : Distinct entries = distinct-from entries own in
      let ids : List ℕ = ids_taken entries from end in
      becomes modes round ids entries (left_by entries from end) from random (apart-from ids (left_by entries from end) (taken-all-apart from end entries ids order d refl)) (λ e there new. not-deleted from end entries e order there new) (distinct-left from end entries order d);
}

-- what follows where the order is not random
next-in-order : (modes : Modes) (round : RoundState) (left : List Entry) (position : ℕ) → modes.random ≡ false → next_of modes round left position ≡ at_or_first modes.repeat left position
next-in-order modes round left position h =
    let over : is_over modes round left ≡ false = ap (λ (b : Bool). b && is_none (first_of round.ranks (unplayed round.played left))) h in
    let same : round_for modes round left ≡ round = ap (λ (b : Bool). cond b (renewed round (ids_of left)) round) over in
    ap (λ (b : Bool). cond (b && not modes.repeat) None (ahead modes (round_for modes round left) left position)) over ∙ ap (λ (r : RoundState). ahead modes r left position) same
    ∙ ap (λ (b : Bool). cond b (first_of round.ranks (unplayed round.played left)) (at_or_first modes.repeat left position)) h

front-of : (repeat : Bool) (entries left : List Entry) (position : ℕ) → length entries ≡ position → FollowsInQueue repeat entries left position (cond repeat (slice_get left 0) None)
front-of true entries [] position e = QueueIsOver e (inr refl)
front-of true entries (x ∷ left) position e = AtFront x e refl refl
front-of false entries left position e = QueueIsOver e (inl refl)

follows-position : (repeat : Bool) (entries left : List Entry) (position at : ℕ) (o : Option Entry) → position ≤ length entries → slice_get entries position ≡ o → slice_get left at ≡ o
    → FollowsInQueue repeat entries left position (or_else o (cond repeat (slice_get left 0) None))
follows-position repeat entries left position at None l h k = let most : length entries ≤ position = get-none entries position h in front-of repeat entries left position (omega (arith, l, most))
follows-position repeat entries left position at (Some e) l h k = AtPosition e h

follows-at : (repeat : Bool) (entries left : List Entry) (position at : ℕ) → position ≤ length entries → slice_get left at ≡ slice_get entries position → FollowsInQueue repeat entries left position (at_or_first repeat left at)
follows-at repeat entries left position at l h =
    subst (λ (o : Option Entry). FollowsInQueue repeat entries left position (or_else o (cond repeat (slice_get left 0) None))) (sym h)
    (follows-position repeat entries left position at (slice_get entries position) l refl h)

-- after what is taken out stands what stood after it
get-drop : (n : ℕ) (xs : List Entry) → slice_get (drop n xs) 0 ≡ slice_get xs n
get-drop zero xs = refl
get-drop (suc n) [] = refl
get-drop (suc n) (x ∷ xs) = get-drop n xs

get-left : (from end : ℕ) (xs : List Entry) → from ≤ end → end ≤ length xs → slice_get (left_by xs from end) from ≡ slice_get xs end
get-left zero end xs h l = get-drop end xs
get-left (suc from) zero xs h l = absurd (omega arith)
get-left (suc from) (suc end) [] h l = absurd (omega arith)
get-left (suc from) (suc end) (x ∷ xs) h l = get-left from end xs (omega arith) (omega arith)

position-in-left : (c : Consume) (entries : List Entry) (id position : ℕ) → entry_position entries id ≡ position → position < length entries
    → slice_get (left_after c entries position) (cond (consumes c) (entry_position entries id) (entry_position entries id + 1)) ≡ slice_get entries (position + 1)
position-in-left consume.Off entries id position e l = ap (λ (n : ℕ). slice_get entries (n + 1)) e
position-in-left consume.On entries id position e l = ap (slice_get (left_by entries position (position + 1))) e ∙ get-left position (position + 1) entries (omega arith) (omega arith)
position-in-left consume.Oneshot entries id position e l = ap (slice_get (left_by entries position (position + 1))) e ∙ get-left position (position + 1) entries (omega arith) (omega arith)

position-at-end : (modes : Modes) (round : RoundState) (entries : List Entry) (position : ℕ) (song : Entry) → modes.random ≡ false → HaveOwnIds entries → slice_get entries position ≡ Some song
    → FollowsInQueue modes.repeat entries (left_after modes.consume entries position) (position + 1) (after_next modes round entries song.id).entry
position-at-end modes round entries position song order own at =
    let here : entry_position entries song.id ≡ position = position-at entries position song (distinct-from entries own) at in
    let within : position < length entries = get-within entries position song at in
    let left : List Entry = left_after modes.consume entries position in
    let next : (after_next modes round entries song.id).entry ≡ at_or_first modes.repeat left (position_after modes entries song.id) =
    next-in-order modes (round_left modes round song.id) (entries_left modes entries song.id) (position_after modes entries song.id) order
    ∙ ap (λ (xs : List Entry). at_or_first modes.repeat xs (position_after modes entries song.id)) (consumes_one modes round entries position song own at) in
    subst (λ (o : Option Entry). FollowsInQueue modes.repeat entries left (position + 1) o) (sym next)
    (follows-at modes.repeat entries left (position + 1) (position_after modes entries song.id) (omega (arith, within)) (position-in-left modes.consume entries song.id position here within))

pub follows_positions : FollowsPositions
follows_positions = record {
  at_end = position-at-end;
  at_removal = λ modes round entries from end order h l.
      subst (λ (o : Option Entry). FollowsInQueue modes.repeat entries (left_by entries from end) end o)
      (sym (next-in-order modes (without round (ids_taken entries from end)) (left_by entries from end) from order))
      (follows-at modes.repeat entries (left_by entries from end) end from l (get-left from end entries h l));
}

-- the rules name one entry
one-least : (ranks : List Rank) (played : List ℕ) (entries : List Entry) (a b : Entry) → (a ≡ b) ⊎ Precedes ranks b a → (b ≡ a) ⊎ Precedes ranks a b → a ≡ b
one-least ranks played entries a b (inl e) k = e
one-least ranks played entries a b (inr h) (inl e) = sym e
one-least ranks played entries a b (inr h) (inr k) = absurd (never-itself ranks a (further ranks a b a k h))

least-once : (ranks : List Rank) (played : List ℕ) (entries : List Entry) (a b : Entry) → IsLeastUnplayed ranks played entries a → IsLeastUnplayed ranks played entries b → a ≡ b
least-once ranks played entries a b h k = one-least ranks played entries a b (k.least a h.in_queue h.unplayed) (h.least b k.in_queue k.unplayed)

not-over : (repeat : Bool) (ranks : List Rank) (played : List ℕ) (left : List Entry) (e : Entry) → repeat ≡ true → IsLeastUnplayed ranks played left e → (repeat ≡ false) ⊎ (left ≡ []) → ⊥
not-over repeat ranks played left e r h (inl f) = cc
not-over repeat ranks played left e r h (inr n) = contains-none e (subst (λ (xs : List Entry). Contains xs e) n h.in_queue)

one-in-round : (repeat : Bool) (round : RoundState) (left : List Entry) (a b : Option Entry) → FollowsInRound repeat round left a → FollowsInRound repeat round left b → a ≡ b
one-in-round repeat round left _ _ (InRound a h) (InRound b k) = ap Some (least-once round.ranks round.played left a b h k)
one-in-round repeat round left _ _ (InRound a h) (InNewRound b all r k) = absurd (h.unplayed (all a h.in_queue))
one-in-round repeat round left _ _ (InRound a h) (RoundIsOver all r) = absurd (h.unplayed (all a h.in_queue))
one-in-round repeat round left _ _ (InNewRound a all r h) (InRound b k) = absurd (k.unplayed (all b k.in_queue))
one-in-round repeat round left _ _ (InNewRound a all r h) (InNewRound b more s k) = ap Some (least-once (new_ranks round left) [] left a b h k)
one-in-round repeat round left _ _ (InNewRound a all r h) (RoundIsOver more s) = absurd (not-over repeat (new_ranks round left) [] left a r h s)
one-in-round repeat round left _ _ (RoundIsOver all r) (InRound b k) = absurd (k.unplayed (all b k.in_queue))
one-in-round repeat round left _ _ (RoundIsOver all r) (InNewRound b more s k) = absurd (not-over repeat (new_ranks round left) [] left b s k r)
one-in-round repeat round left _ _ (RoundIsOver all r) (RoundIsOver more s) = refl

not-past : (entries : List Entry) (position : ℕ) (e : Entry) → slice_get entries position ≡ Some e → length entries ≡ position → ⊥
not-past entries position e h l = omega (arith, get-within entries position e h, l)

not-done : (repeat : Bool) (left : List Entry) (e : Entry) → repeat ≡ true → slice_get left 0 ≡ Some e → (repeat ≡ false) ⊎ (left ≡ []) → ⊥
not-done repeat left e r h (inl f) = cc
not-done repeat left e r h (inr n) = let none : slice_get left 0 ≡ None = ap (λ (xs : List Entry). slice_get xs 0) n in cc

one-in-queue : (repeat : Bool) (entries left : List Entry) (position : ℕ) (a b : Option Entry) → FollowsInQueue repeat entries left position a → FollowsInQueue repeat entries left position b → a ≡ b
one-in-queue repeat entries left position _ _ (AtPosition a h) (AtPosition b k) = sym h ∙ k
one-in-queue repeat entries left position _ _ (AtPosition a h) (AtFront b l r k) = absurd (not-past entries position a h l)
one-in-queue repeat entries left position _ _ (AtPosition a h) (QueueIsOver l r) = absurd (not-past entries position a h l)
one-in-queue repeat entries left position _ _ (AtFront a l r h) (AtPosition b k) = absurd (not-past entries position b k l)
one-in-queue repeat entries left position _ _ (AtFront a l r h) (AtFront b m s k) = sym h ∙ k
one-in-queue repeat entries left position _ _ (AtFront a l r h) (QueueIsOver m s) = absurd (not-done repeat left a r h s)
one-in-queue repeat entries left position _ _ (QueueIsOver l r) (AtPosition b k) = absurd (not-past entries position b k l)
one-in-queue repeat entries left position _ _ (QueueIsOver l r) (AtFront b m s k) = absurd (not-done repeat left b s k r)
one-in-queue repeat entries left position _ _ (QueueIsOver l r) (QueueIsOver m s) = refl

one-by : (b : Bool) (modes : Modes) (round : RoundState) (entries left : List Entry) (position : ℕ) (one other : Option Entry) → FollowsBy b modes round entries left position one → FollowsBy b modes round entries left position other → one ≡ other
one-by true modes round entries left position one other h k = one-in-round modes.repeat round left one other h k
one-by false modes round entries left position one other h k = one-in-queue modes.repeat entries left position one other h k

pub one_follows : OneFollows
one_follows modes round entries left position one other h k = one-by modes.random modes round entries left position one other h k

-- the entry at a position is in the queue, and found by its id
pub get-there : (xs : List Entry) (k : ℕ) (x : Entry) → slice_get xs k ≡ Some x → Contains xs x
get-there [] k x h = cc
get-there (y ∷ xs) zero x h = let s : y ≡ x = cc in subst (λ (z : Entry). Contains (y ∷ xs) z) s (contains-here xs y)
get-there (y ∷ xs) (suc k) x h = contains-there xs y x (get-there xs k x h)

found-first : (xs : List Entry) (y x : Entry) → Apart y xs → (y ≡ x) ⊎ Contains xs x → (Contains xs x → entry_of xs x.id ≡ Some x) → entry_of (y ∷ xs) x.id ≡ Some x
found-first xs y x d (inl e) h = let same : has_id x.id y ≡ true = grind (arith, ap (λ (z : Entry). z.id) e) in rw same (ap Some e)
found-first xs y x d (inr c) h =
    let differ : y.id ≢ x.id = each-there (λ z. y.id ≢ z.id) xs x d c in
    let other : has_id x.id y ≡ false = grind (arith, differ) in
    rw other (h c)

pub entry-found : (xs : List Entry) (x : Entry) → Distinct xs → Contains xs x → entry_of xs x.id ≡ Some x
entry-found [] x d c = absurd (contains-none x c)
entry-found (y ∷ xs) x d c = found-first xs y x d.0 (contains-cases xs y x c) (entry-found xs x d.1)

-- an entry that is taken out is no longer there
pub not-left : (entries : List Entry) (position : ℕ) (song : Entry) → Distinct entries → slice_get entries position ≡ Some song → Contains (left_by entries position (position + 1)) song → ⊥
not-left entries position song d at there =
    let here : entry_position entries song.id ≡ position = position-at entries position song d at in
    let within : position < length entries = get-within entries position song at in
    let same : filter (λ e. not (has_id song.id e)) entries ≡ left_by entries position (position + 1) = left-by consume.On entries song.id position d here within in
    let kept = of-filter (λ e. not (has_id song.id e)) entries song (subst (λ (xs : List Entry). Contains xs song) (sym same) there) in
    let self : has_id song.id song ≡ true = grind arith in
    let lost : false ≡ true = sym (ap not self) ∙ kept.1 in
    cc

-- what is ahead in the order follows
ahead-at-random : (modes : Modes) (round : RoundState) (left : List Entry) (position : ℕ) → modes.random ≡ true → ahead modes round left position ≡ first_of round.ranks (unplayed round.played left)
ahead-at-random modes round left position h = ap (λ (b : Bool). cond b (first_of round.ranks (unplayed round.played left)) (at_or_first modes.repeat left position)) h

ahead-in-order : (modes : Modes) (round : RoundState) (left : List Entry) (position : ℕ) → modes.random ≡ false → ahead modes round left position ≡ next_of modes round left position
ahead-in-order modes round left position h =
    ap (λ (b : Bool). cond b (first_of round.ranks (unplayed round.played left)) (at_or_first modes.repeat left position)) h ∙ sym (next-in-order modes round left position h)

pub ahead-follows : (modes : Modes) (round : RoundState) (left : List Entry) (position : ℕ) (e : Entry) → ahead modes round left position ≡ Some e → next_of modes round left position ≡ Some e
ahead-follows modes round left position e h =
    elim (modes.random) as (λ v. modes.random ≡ v → next_of modes round left position ≡ Some e) [
      | true ↦ λ r. (goes-on modes round left position e r (sym (ahead-at-random modes round left position r) ∙ h)).1
      | false ↦ λ r. sym (ahead-in-order modes round left position r) ∙ h
    ] refl

-- where nothing is ahead, nothing follows, or the round is over
pub nothing-ahead : (modes : Modes) (round : RoundState) (entries : List Entry) (position : ℕ) (song : Entry) → HaveOwnIds entries → slice_get entries position ≡ Some song
    → ahead_after modes round entries song.id ≡ None
    → ((after_next modes round entries song.id).entry ≡ None) ⊎ ((modes.random ≡ true) × AllWerePlayed round.played (left_after modes.consume entries position))
nothing-ahead modes round entries position song own at h =
    let rest : RoundState = round_left modes round song.id in
    let left : List Entry = entries_left modes entries song.id in
    let same : left ≡ left_after modes.consume entries position = consumes_one modes round entries position song own at in
    let d : Distinct left = subst Distinct (sym same) (distinct-after modes.consume entries position (distinct-from entries own)) in
    elim (modes.random) as (λ v. modes.random ≡ v → ((after_next modes round entries song.id).entry ≡ None) ⊎ ((modes.random ≡ true) × AllWerePlayed round.played (left_after modes.consume entries position))) [
      | true ↦ λ r.
          let none : first_of round.ranks (unplayed round.played left) ≡ None =
          sym (first-round_left modes round entries song.id) ∙ sym (ahead-at-random modes rest left (position_after modes entries song.id) r) ∙ h in
          inr (r, subst (AllWerePlayed round.played) same (all-played round.ranks round.played left d none))
      | false ↦ λ r. inl (sym (ahead-in-order modes rest left (position_after modes entries song.id) r) ∙ h)
    ] refl

-- what an opening begins with: in random order what follows with repeat, else the first entry
opening-same : (modes : Modes) (round : RoundState) (entries : List Entry) → next_of (record modes { repeat = true }) (without round []) entries 0 ≡ opening_of modes round entries
opening-same modes round entries = ap (λ (r : RoundState). next_of (record modes { repeat = true }) r entries 0) (without-none round) ∙ opening-next modes round entries

pub opening-follows : (modes : Modes) (round : RoundState) (entries : List Entry) → modes.random ≡ true → HaveOwnIds entries → FollowsInRound true round entries (opening_of modes round entries)
opening-follows modes round entries random own =
    subst (λ (o : Option Entry). FollowsInRound true round entries o) (opening-same modes round entries)
    (follows-round (record modes { repeat = true }) round [] entries 0 random (none-apart entries) (distinct-from entries own))

pub opening-becomes : (modes : Modes) (round : RoundState) (entries : List Entry) → modes.random ≡ true → HaveOwnIds entries
    → BecomesRound round (begun modes (round_for modes round entries) (opening_of modes round entries)) entries entries (opening_of modes round entries)
opening-becomes modes round entries random own =
    subst (λ (o : Option Entry). BecomesRound round (begun modes (round_for modes round entries) (opening_of modes round entries)) entries entries o) (opening-same modes round entries)
    (subst (λ (r : RoundState). BecomesRound round r entries entries (next_of (record modes { repeat = true }) (without round []) entries 0)) (opening-round modes round entries)
    (becomes (record modes { repeat = true }) round [] entries entries 0 random (none-apart entries) (λ x there new. there) (distinct-from entries own)))

first-or-none : (repeat : Bool) (entries : List Entry) → at_or_first repeat entries 0 ≡ slice_get entries 0
first-or-none true [] = refl
first-or-none false [] = refl
first-or-none repeat (x ∷ entries) = refl

pub opening-first : (modes : Modes) (round : RoundState) (entries : List Entry) → modes.random ≡ false → opening_of modes round entries ≡ slice_get entries 0
opening-first modes round entries order =
    let new : RoundState = round_for modes round entries in
    ap (λ (b : Bool). cond b (first_of new.ranks (unplayed new.played entries)) (at_or_first modes.repeat entries 0)) order ∙ first-or-none modes.repeat entries
