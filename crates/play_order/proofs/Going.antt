-- How a round goes on: what is first when some ids leave it, and what is then renewed and started.
use Rattle.std.proofs.Common.{◌≡◌, ◌≢◌, ℕ, zero, suc, ◌+◌, ◌<◌, Bool, true, false, ◌&&◌, ◌||◌, not, ◌==◌, List, [], ◌∷◌, ◌++◌, length, filter, find, get_or, slice_get, take, drop, ◌-◌, ◌≤◌, Option, Some, None, is_none, is_some, nat_lt, refl, ap, sym, ◌∙◌, arith, cond, All, AllPairs, subst, length-append, length-drop}
use Rattle.std.specs.Option.{option_map_or}
use Rattle.std.proofs.lemmas.List.{length-take-le}
use Rattle.std.proofs.lemmas.List.Elements.{filter-append}
use Rattle.song_queue.specs.declared.entry.Entry.{Entry}
use Rattle.play_order.specs.declared.modes.Modes.{Modes}
use Rattle.play_order.specs.declared.modes.Rank.{Rank}
use Rattle.play_order.specs.Draws.{RoundState, rank_of, is_among, has_id, ids_of, without, renewed, moved_last, others}
use Rattle.play_order.specs.Order.{ahead, at_or_first, begun, comes_before, entry_of, first_anew, first_of, ids_taken, is_first, is_over, left_by, next_of, opening_of, or_else, round_for, unplayed}
use Rattle.play_order.specs.Ends.{after_next, again, consumes, entries_left, id_of, position_after, round_after, round_left}
use Rattle.play_order.proofs.Firsts.{Apart, Distinct, EachIn, distinct-from, distinct-left, some-first, each-drop, each-from, each-filter, each-map, find-agree, list_all-agree}
use Rattle.play_order.proofs.Ids.{among-left, find-left}
use Rattle.play_order.proofs.Lists.{filter-all, filter-swap}

-- no entry has one of the ids
abbrev pub AreApart : List ℕ → List Entry → Type 0
AreApart ids entries = EachIn (λ e. is_among e.id ids ≡ false) entries

filter-agree : (p q : Entry → Bool) (xs : List Entry) → EachIn (λ e. p e ≡ q e) xs → filter p xs ≡ filter q xs
filter-agree p q [] h = refl
filter-agree p q (x ∷ xs) h = rw h.0 (ap (λ (r : List Entry). cond (q x) (x ∷ r) r) (filter-agree p q xs h.1))

-- entries that stay are played as before, and have the rank that they had
unplayed-kept : (played ids : List ℕ) (entries : List Entry) → AreApart ids entries → unplayed (filter (λ id. not (is_among id ids)) played) entries ≡ unplayed played entries
unplayed-kept played ids entries h =
    filter-agree (λ e. not (is_among e.id (filter (λ id. not (is_among id ids)) played))) (λ e. not (is_among e.id played)) entries
    (each-map (λ e. is_among e.id ids ≡ false) (λ e. not (is_among e.id (filter (λ id. not (is_among id ids)) played)) ≡ not (is_among e.id played))
    (λ e k. ap not (among-left e.id ids played ∙ ap (λ (b : Bool). cond b false (is_among e.id played)) k)) entries h)

rank-kept : (ranks : List Rank) (ids : List ℕ) (id : ℕ) → is_among id ids ≡ false → rank_of (filter (λ r. not (is_among r.id ids)) ranks) id ≡ rank_of ranks id
rank-kept ranks ids id h =
    ap (λ (r : Option Rank). option_map_or (λ (x : Rank). x.rank) r 0) (find-left id ids ranks ∙ ap (λ (b : Bool). cond b None (find (λ (r : Rank). r.id == id) ranks)) h)

same-before : (r s : List Rank) (c d : Entry) → rank_of r c.id ≡ rank_of s c.id → rank_of r d.id ≡ rank_of s d.id → (has_id c.id d || comes_before r c d) ≡ (has_id c.id d || comes_before s c d)
same-before r s c d h k = rw (h, k) refl

same-first : (r s : List Rank) (cs : List Entry) → EachIn (λ e. rank_of r e.id ≡ rank_of s e.id) cs → first_of r cs ≡ first_of s cs
same-first r s cs h =
    find-agree (is_first r cs) (is_first s cs) cs
    (each-map (λ c. rank_of r c.id ≡ rank_of s c.id) (λ c. is_first r cs c ≡ is_first s cs c)
    (λ c k.
    list_all-agree (λ d. has_id c.id d || comes_before r c d) (λ d. has_id c.id d || comes_before s c d) cs
    (each-map (λ d. rank_of r d.id ≡ rank_of s d.id) (λ d. (has_id c.id d || comes_before r c d) ≡ (has_id c.id d || comes_before s c d)) (λ d l. same-before r s c d k l) cs h)) cs h)

-- the first of the entries that stay is the same before and after the ids have left
pub first-kept : (round : RoundState) (ids : List ℕ) (left : List Entry) → AreApart ids left
    → first_of (without round ids).ranks (unplayed (without round ids).played left) ≡ first_of round.ranks (unplayed round.played left)
first-kept round ids left h =
    ap (first_of (without round ids).ranks) (unplayed-kept round.played ids left h)
    ∙ same-first (without round ids).ranks round.ranks (unplayed round.played left)
    (each-map (λ e. is_among e.id ids ≡ false) (λ e. rank_of (without round ids).ranks e.id ≡ rank_of round.ranks e.id) (λ e k. rank-kept round.ranks ids e.id k) (unplayed round.played left)
    (each-filter (λ e. is_among e.id ids ≡ false) (λ e. not (is_among e.id round.played)) left h))

find-each : (P : Entry → Type 0) (p : Entry → Bool) (xs : List Entry) (e : Entry) → find p xs ≡ Some e → EachIn P xs → P e
find-each P p [] e h k = cc
find-each P p (x ∷ xs) e h k =
    elim (p x) as (λ v. cond v (Some x) (find p xs) ≡ Some e → P e) [
      | true ↦ λ m. let same : x ≡ e = cc in subst P same k.0
      | false ↦ λ m. find-each P p xs e m k.1
    ] h

first-apart : (round : RoundState) (ids : List ℕ) (left : List Entry) (e : Entry) → AreApart ids left → first_of round.ranks (unplayed round.played left) ≡ Some e → is_among e.id ids ≡ false
first-apart round ids left e h found =
    find-each (λ x. is_among x.id ids ≡ false) (is_first round.ranks (unplayed round.played left)) (unplayed round.played left) e found
    (each-filter (λ x. is_among x.id ids ≡ false) (λ x. not (is_among x.id round.played)) left h)

-- a song starts, and then others leave, or the other way round
started-then-left : (played ids : List ℕ) (id : ℕ) → is_among id ids ≡ false
    → filter (λ other. not (is_among other ids)) (moved_last played id) ≡ moved_last (filter (λ other. not (is_among other ids)) played) id
started-then-left played ids id h =
    let stays : filter (λ other. not (is_among other ids)) (id ∷ []) ≡ id ∷ [] = rw h refl in
    filter-append (λ (other : ℕ). not (is_among other ids)) (others id played) (id ∷ [])
    ∙ ap (λ (xs : List ℕ). filter (λ other. not (is_among other ids)) (others id played) ++ xs) stays
    ∙ ap (λ (xs : List ℕ). xs ++ id ∷ []) (filter-swap (λ (other : ℕ). not (is_among other ids)) (λ (other : ℕ). not (other == id)) played)

-- the round goes on where there is a first entry
pub goes-on : (modes : Modes) (round : RoundState) (left : List Entry) (position : ℕ) (e : Entry) → modes.random ≡ true → first_of round.ranks (unplayed round.played left) ≡ Some e
    → (round_for modes round left ≡ round) × (next_of modes round left position ≡ Some e)
goes-on modes round left position e random found =
    let over : is_over modes round left ≡ false = ap (λ (b : Bool). b && is_none (first_of round.ranks (unplayed round.played left))) random ∙ ap is_none found in
    let same : round_for modes round left ≡ round = ap (λ (b : Bool). cond b (renewed round (ids_of left)) round) over in (
      same,
      ap (λ (b : Bool). cond (b && not modes.repeat) None (ahead modes (round_for modes round left) left position)) over ∙ ap (λ (r : RoundState). ahead modes r left position) same
          ∙ ap (λ (b : Bool). cond b (first_of round.ranks (unplayed round.played left)) (or_else (slice_get left position) (cond modes.repeat (slice_get left 0) None))) random ∙ found,
    )

-- it is over where there is none
pub is-renewed : (modes : Modes) (round : RoundState) (left : List Entry) (position : ℕ) → modes.random ≡ true → first_of round.ranks (unplayed round.played left) ≡ None
    → (round_for modes round left ≡ renewed round (ids_of left)) × (next_of modes round left position ≡ first_anew modes.repeat round left)
is-renewed modes round left position random none =
    let over : is_over modes round left ≡ true = ap (λ (b : Bool). b && is_none (first_of round.ranks (unplayed round.played left))) random ∙ ap is_none none in
    let new : RoundState = renewed round (ids_of left) in
    let same : round_for modes round left ≡ new = ap (λ (b : Bool). cond b (renewed round (ids_of left)) round) over in
    let first : ahead modes new left position ≡ first_of new.ranks (unplayed new.played left) =
    ap (λ (b : Bool). cond b (first_of new.ranks (unplayed new.played left)) (or_else (slice_get left position) (cond modes.repeat (slice_get left 0) None))) random in
    let next : next_of modes round left position ≡ cond (not modes.repeat) None (first_of new.ranks (unplayed new.played left)) =
    ap (λ (b : Bool). cond (b && not modes.repeat) None (ahead modes (round_for modes round left) left position)) over ∙ ap (λ (r : RoundState). cond (not modes.repeat) None (ahead modes r left position)) same
    ∙ ap (λ (o : Option Entry). cond (not modes.repeat) None o) first in (
      same,
      next
          ∙ (elim (modes.repeat) as (λ v. cond (not v) None (first_of new.ranks (unplayed new.played left)) ≡ cond v (first_of new.ranks (unplayed new.played left)) None) [ true ↦ refl | false ↦ refl ]),
    )

-- the first entry has started, and the ids have left
pub goes-on-without : (modes : Modes) (round : RoundState) (ids : List ℕ) (left : List Entry) (position : ℕ) (e : Entry) → modes.random ≡ true → AreApart ids left
    → first_of round.ranks (unplayed round.played left) ≡ Some e
    → without (record round { played = moved_last round.played e.id }) ids ≡ begun modes (round_for modes (without round ids) left) (next_of modes (without round ids) left position)
goes-on-without modes round ids left position e random apart found =
    let rest : RoundState = without round ids in
    let kept : first_of rest.ranks (unplayed rest.played left) ≡ Some e = first-kept round ids left apart ∙ found in
    let on = goes-on modes rest left position e random kept in
    ap (λ (p : List ℕ). record rest { played = p }) (started-then-left round.played ids e.id (first-apart round ids left e apart found))
    ∙ sym (ap (λ (b : Bool). cond b (record rest { played = moved_last rest.played e.id }) rest) random)
    ∙ sym (ap (λ (o : Option Entry). begun modes rest o) on.1)
    ∙ sym (ap (λ (r : RoundState). begun modes r (next_of modes rest left position)) on.0)

pub next-without : (modes : Modes) (round : RoundState) (ids : List ℕ) (left : List Entry) (position : ℕ) (e : Entry) → modes.random ≡ true → AreApart ids left
    → first_of round.ranks (unplayed round.played left) ≡ Some e → next_of modes (without round ids) left position ≡ Some e
next-without modes round ids left position e random apart found = (goes-on modes (without round ids) left position e random (first-kept round ids left apart ∙ found)).1

-- which entry an id comes from
pub from-id : (o : Option Entry) (id : ℕ) → Some id ≡ id_of o → (e : Entry) × (o ≡ Some e) × (e.id ≡ id)
from-id None id h = cc
from-id (Some e) id h = (e, refl, cc)

pub from-no-id : (o : Option Entry) → ◌≡◌ {A = Option ℕ} None (id_of o) → o ≡ None
from-no-id None h = refl
from-no-id (Some e) h = cc

-- nothing leaves
pub without-none : (round : RoundState) → without round [] ≡ round
without-none round = ap (λ (r : List Rank). record round { ranks = r; played = filter (λ id. true) round.played }) (filter-all round.ranks) ∙ ap (λ (p : List ℕ). record round { played = p }) (filter-all round.played)

pub left-apart : (id : ℕ) (entries : List Entry) → AreApart (id ∷ []) (filter (λ e. not (has_id id e)) entries)
left-apart id [] = tt
left-apart id (x ∷ entries) =
    elim (has_id id x) as (λ v. has_id id x ≡ v → AreApart (id ∷ []) (cond (not v) (x ∷ filter (λ e. not (has_id id e)) entries) (filter (λ e. not (has_id id e)) entries))) [
      | true ↦ λ h. left-apart id entries
      | false ↦ λ h. (grind arith, left-apart id entries)
    ] refl

each-all : (P : Entry → Type 0) (xs : List Entry) → EachIn P xs → (k : ℕ) (d : Entry) → k < length xs → P (get_or xs k d)
each-all P [] h k d l = absurd (omega arith)
each-all P (x ∷ xs) h zero d l = h.0
each-all P (x ∷ xs) h (suc k) d l = each-all P xs h.1 k d (omega arith)

pub all-apart : (id : ℕ) (entries left : List Entry) → left ≡ filter (λ e. not (has_id id e)) entries → All (λ e. is_among e.id (id ∷ []) ≡ false) left
all-apart id entries left h = subst (λ (xs : List Entry). All (λ e. is_among e.id (id ∷ []) ≡ false) xs) (sym h) (each-all (λ e. is_among e.id (id ∷ []) ≡ false) (filter (λ e. not (has_id id e)) entries) (left-apart id entries))

pub apart-from : (ids : List ℕ) (left : List Entry) → All (λ e. is_among e.id ids ≡ false) left → AreApart ids left
apart-from ids left h = each-from (λ e. is_among e.id ids ≡ false) left (λ j d l. h j d l)

-- what comes first is the same in the round that consume leaves
pub first-round_left : (modes : Modes) (round : RoundState) (entries : List Entry) (id : ℕ)
    → first_of (round_left modes round id).ranks (unplayed (round_left modes round id).played (entries_left modes entries id)) ≡ first_of round.ranks (unplayed round.played (entries_left modes entries id))
first-round_left modes round entries id =
    elim (consumes modes.consume) as (λ v. first_of (cond v (without round (id ∷ [])) round).ranks (unplayed (cond v (without round (id ∷ [])) round).played (cond v (filter (λ e. not (has_id id e)) entries) entries)) ≡ first_of round.ranks (unplayed round.played (cond v (filter (λ e. not (has_id id e)) entries) entries))) [
      | true ↦ first-kept round (id ∷ []) (filter (λ e. not (has_id id e)) entries) (left-apart id entries)
      | false ↦ refl
    ]

-- the position matters by its entry alone
next-at : (modes : Modes) (round : RoundState) (left : List Entry) (a b : ℕ) → slice_get left a ≡ slice_get left b → next_of modes round left a ≡ next_of modes round left b
next-at modes round left a b h =
    let new : RoundState = round_for modes round left in
    ap (λ (o : Option Entry). cond (is_over modes round left && not modes.repeat) None (cond modes.random (first_of new.ranks (unplayed new.played left)) (or_else o (cond modes.repeat (slice_get left 0) None)))) h

pub next-left : (modes : Modes) (round rest : RoundState) (entries left : List Entry) (id position : ℕ) → left ≡ entries_left modes entries id → rest ≡ round_left modes round id
    → slice_get (entries_left modes entries id) position ≡ slice_get (entries_left modes entries id) (position_after modes entries id)
    → next_of modes rest left position ≡ (after_next modes round entries id).entry
next-left modes round rest entries left id position h k l =
    ap (λ (xs : List Entry). next_of modes rest xs position) h ∙ ap (λ (r : RoundState). next_of modes r (entries_left modes entries id) position) k
    ∙ next-at modes (round_left modes round id) (entries_left modes entries id) position (position_after modes entries id) l

-- of the modes a start heeds `random` alone
begun-modes : (modes other : Modes) (round : RoundState) (o : Option Entry) → modes.random ≡ other.random → begun modes round o ≡ begun other round o
begun-modes modes other round None h = refl
begun-modes modes other round (Some e) h = ap (λ (b : Bool). cond b (record round { played = moved_last round.played e.id }) round) h

pub begun-left : (modes : Modes) (round rest : RoundState) (entries left : List Entry) (id position : ℕ) → left ≡ entries_left modes entries id → rest ≡ round_left modes round id
    → slice_get (entries_left modes entries id) position ≡ slice_get (entries_left modes entries id) (position_after modes entries id)
    → begun modes (round_for modes rest left) (next_of modes rest left position) ≡ round_after (after_next modes round entries id)
begun-left modes round rest entries left id position h k l =
    ap (begun modes (round_for modes rest left)) (next-left modes round rest entries left id position h k l)
    ∙ ap (λ (xs : List Entry). begun modes (round_for modes rest xs) (after_next modes round entries id).entry) h
    ∙ ap (λ (r : RoundState). begun modes (round_for modes r (entries_left modes entries id)) (after_next modes round entries id).entry) k
    ∙ begun-modes modes (after_next modes round entries id).modes (round_for modes (round_left modes round id) (entries_left modes entries id)) (after_next modes round entries id).entry refl

-- a song that plays again is not consumed
pub again-stays : (modes : Modes) (entries : List Entry) (id : ℕ) (e : Entry) → again modes entries id ≡ Some e → consumes modes.consume ≡ false
again-stays modes entries id e h =
    elim (consumes modes.consume) as (λ v. consumes modes.consume ≡ v → cond (modes.repeat && not v) (entry_of entries id) None ≡ Some e → v ≡ false) [
      | true ↦ λ k m. elim (modes.repeat) as (λ w. cond (w && false) (entry_of entries id) None ≡ Some e → true ≡ false) [ true ↦ λ n. cc | false ↦ λ n. cc ] m
      | false ↦ λ k m. refl
    ] refl h

pub is-random : (b : Bool) → not b ≡ false → b ≡ true
is-random true h = refl
is-random false h = sym h

-- the opening is what comes next at the front with repeat
same-front : (left : List Entry) → or_else (slice_get left 0) (slice_get left 0) ≡ or_else (slice_get left 0) (cond false (slice_get left 0) None)
same-front [] = refl
same-front (e ∷ left) = refl

front-either : (b : Bool) (left : List Entry) → at_or_first true left 0 ≡ at_or_first b left 0
front-either true left = refl
front-either false left = same-front left

pub opening-next : (modes : Modes) (round : RoundState) (left : List Entry) → next_of (record modes { repeat = true }) round left 0 ≡ opening_of modes round left
opening-next modes round left =
    let new : RoundState = round_for modes round left in
    (elim (is_over modes round left) as (λ v. cond (v && false) None (ahead (record modes { repeat = true }) new left 0) ≡ ahead (record modes { repeat = true }) new left 0) [ true ↦ refl | false ↦ refl ])
    ∙ ap (λ (o : Option Entry). cond modes.random (first_of new.ranks (unplayed new.played left)) o) (front-either modes.repeat left)

pub opening-round : (modes : Modes) (round : RoundState) (left : List Entry)
    → begun (record modes { repeat = true }) (round_for (record modes { repeat = true }) (without round []) left) (next_of (record modes { repeat = true }) (without round []) left 0) ≡ begun modes (round_for modes round left) (opening_of modes round left)
opening-round modes round left =
    ap (λ (r : RoundState). begun (record modes { repeat = true }) (round_for modes r left) (next_of (record modes { repeat = true }) r left 0)) (without-none round)
    ∙ ap (λ (o : Option Entry). begun (record modes { repeat = true }) (round_for modes round left) o) (opening-next modes round left)
    ∙ begun-modes (record modes { repeat = true }) modes (round_for modes round left) (opening_of modes round left) refl

-- the entries from a position up to another have ids that what is left has not
not-taken : (x : Entry) (n : ℕ) (xs : List Entry) → Apart x xs → is_among x.id (ids_of (take n xs)) ≡ false
not-taken x zero xs h = refl
not-taken x (suc n) [] h = refl
not-taken x (suc n) (y ∷ ys) h = let other : (y.id == x.id) ≡ false = grind (arith, h.0) in rw other (not-taken x n ys h.1)

none-apart : (xs : List Entry) → AreApart [] xs
none-apart [] = tt
none-apart (x ∷ xs) = (refl, none-apart xs)

one-more : (x : Entry) (ids : List ℕ) (ys : List Entry) → Apart x ys → AreApart ids ys → AreApart (x.id ∷ ids) ys
one-more x ids [] h k = tt
one-more x ids (y ∷ ys) h k = let other : (x.id == y.id) ≡ false = grind (arith, h.0) in ((rw (other, k.0) refl), one-more x ids ys h.1 k.1)

dropped-apart : (n : ℕ) (xs : List Entry) → Distinct xs → AreApart (ids_of (take n xs)) (drop n xs)
dropped-apart zero xs d = none-apart xs
dropped-apart (suc n) [] d = tt
dropped-apart (suc n) (x ∷ xs) d = one-more x (ids_of (take n xs)) (drop n xs) (each-drop (λ e. x.id ≢ e.id) n xs d.0) (dropped-apart n xs d.1)

drop-nil : (n : ℕ) → ◌≡◌ {A = List Entry} (drop n []) []
drop-nil zero = refl
drop-nil (suc n) = refl

taken-apart : (from n : ℕ) (xs : List Entry) → Distinct xs → AreApart (ids_of (take n (drop from xs))) (take from xs ++ drop (from + n) xs)
taken-apart zero n xs d = let e : 0 + n ≡ n = omega arith in subst (λ (k : ℕ). AreApart (ids_of (take n xs)) (drop k xs)) (sym e) (dropped-apart n xs d)
taken-apart (suc from) n [] d = subst (λ (ys : List Entry). AreApart (ids_of (take n [])) ys) (sym (drop-nil (suc from + n))) tt
taken-apart (suc from) n (x ∷ xs) d =
    let e : suc from + n ≡ suc (from + n) = omega arith in
    subst (λ (k : ℕ). AreApart (ids_of (take n (drop from xs))) (x ∷ take from xs ++ drop k (x ∷ xs))) (sym e)
    (not-taken x n (drop from xs) (each-drop (λ y. x.id ≢ y.id) from xs d.0), taken-apart from n xs d.1)

pub taken-all-apart : (from end : ℕ) (xs : List Entry) (ids : List ℕ) → from ≤ end → Distinct xs → ids ≡ ids_taken xs from end → All (λ e. is_among e.id ids ≡ false) (left_by xs from end)
taken-all-apart from end xs ids h d k =
    let e : from + (end - from) ≡ end = omega arith in
    subst (λ (is : List ℕ). All (λ x. is_among x.id is ≡ false) (left_by xs from end)) (sym k)
    (subst (λ (n : ℕ). All (λ x. is_among x.id (ids_taken xs from end) ≡ false) (left_by xs from n)) e
    (each-all (λ x. is_among x.id (ids_taken xs from end) ≡ false) (left_by xs from (from + (end - from))) (taken-apart from (end - from) xs d)))

some-anew : (repeat : Bool) (round : RoundState) (left : List Entry) → Distinct left → is_some (first_anew repeat round left) ≡ (repeat && nat_lt 0 (length left))
some-anew true round left d = ap (λ (xs : List Entry). is_some (first_of (renewed round (ids_of left)).ranks xs)) (filter-all left) ∙ some-first (renewed round (ids_of left)).ranks left d
some-anew false round left d = refl

some-by : (modes : Modes) (round : RoundState) (ids : List ℕ) (left : List Entry) (position : ℕ) (o : Option Entry) → modes.random ≡ true → AreApart ids left → Distinct left
    → first_of round.ranks (unplayed round.played left) ≡ o → is_some (next_of modes (without round ids) left position) ≡ (is_some o || (modes.repeat && nat_lt 0 (length left)))
some-by modes round ids left position None h apart d found =
    ap is_some (is-renewed modes (without round ids) left position h (first-kept round ids left apart ∙ found)).1 ∙ some-anew modes.repeat (without round ids) left d
some-by modes round ids left position (Some e) h apart d found = ap is_some (next-without modes round ids left position e h apart found)

length-left : (from end : ℕ) (xs : List Entry) → from ≤ end → end ≤ length xs → length (left_by xs from end) + (end - from) ≡ length xs
length-left from end xs h l =
    let front = length-take-le from xs (omega arith) in
    let back = length-drop end xs in
    let both = length-append (take from xs) (drop end xs) in
    omega (arith, front, back, both)

some-left : (a b c : ℕ) → c + a ≡ b → nat_lt 0 c ≡ nat_lt a b
some-left a b c h = grind arith

-- whether an entry starts in random order when some leave
pub some-next : (modes : Modes) (round : RoundState) (ids : List ℕ) (xs : List Entry) (from end position : ℕ) → from ≤ end → end ≤ length xs → Distinct xs → modes.random ≡ true
    → AreApart ids (left_by xs from end)
    → is_some (next_of modes (without round ids) (left_by xs from end) position) ≡ (is_some (first_of round.ranks (unplayed round.played (left_by xs from end))) || (modes.repeat && nat_lt (end - from) (length xs)))
some-next modes round ids xs from end position h l d random apart =
    let left : List Entry = left_by xs from end in
    some-by modes round ids left position (first_of round.ranks (unplayed round.played left)) random apart (distinct-left from end xs h d) refl
    ∙ ap (λ (b : Bool). is_some (first_of round.ranks (unplayed round.played left)) || (modes.repeat && b)) (some-left (end - from) (length xs) (length left) (length-left from end xs h l))

-- the same of what code has found
pub some-found : (modes : Modes) (round view : RoundState) (ids : List ℕ) (xs : List Entry) (from end position n : ℕ) (b : Bool) → from ≤ end → end ≤ length xs
    → AllPairs (λ e f. e.id ≢ f.id) xs → not modes.random ≡ false → All (λ e. is_among e.id ids ≡ false) (left_by xs from end)
    → view ≡ round → b ≡ is_some (first_of view.ranks (unplayed view.played (left_by xs from end))) → n ≡ length xs
    → is_some (next_of modes (without round ids) (left_by xs from end) position) ≡ (b || (modes.repeat && nat_lt (end - from) n))
some-found modes round view ids xs from end position n b h l d random apart same found len =
    let left : List Entry = left_by xs from end in
    let first : is_some (first_of round.ranks (unplayed round.played left)) ≡ b = ap (λ (x : RoundState). is_some (first_of x.ranks (unplayed x.played left))) (sym same) ∙ sym found in
    some-next modes round ids xs from end position h l (distinct-from xs d) (is-random modes.random random) (apart-from ids left apart)
    ∙ ap (λ (f : Bool). f || (modes.repeat && nat_lt (end - from) (length xs))) first ∙ ap (λ (k : ℕ). b || (modes.repeat && nat_lt (end - from) k)) (sym len)

-- the ids that consume takes out
abbrev pub gone : Modes → ℕ → List ℕ
gone modes id = cond (consumes modes.consume) (id ∷ []) []

pub without-gone : (modes : Modes) (round : RoundState) (id : ℕ) → without round (gone modes id) ≡ round_left modes round id
without-gone modes round id =
    elim (consumes modes.consume) as (λ v. without round (cond v (id ∷ []) []) ≡ cond v (without round (id ∷ [])) round) [ true ↦ refl | false ↦ without-none round ]

pub all-left : (modes : Modes) (entries left : List Entry) (id : ℕ) → left ≡ entries_left modes entries id → All (λ e. is_among e.id (gone modes id) ≡ false) left
all-left modes entries left id h =
    elim (consumes modes.consume) as (λ v. left ≡ cond v (filter (λ e. not (has_id id e)) entries) entries → All (λ e. is_among e.id (cond v (id ∷ []) []) ≡ false) left) [
      | true ↦ λ k. all-apart id entries left k
      | false ↦ λ k. each-all (λ e. is_among e.id [] ≡ false) left (none-apart left)
    ] h

pub without-empty : (round : RoundState) (ids : List ℕ) → (length ids == 0) ≡ true → round ≡ without round ids
without-empty round [] h = sym (without-none round)
without-empty round (id ∷ ids) h = absurd (grind arith)
