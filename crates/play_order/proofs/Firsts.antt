-- The first of some candidates, found one candidate after another.
use Rattle.std.proofs.Common.{◌≡◌, ◌≢◌, ℕ, ◌<◌, ◌≤◌, Bool, true, false, ◌&&◌, ◌||◌, not, nat_lt, ◌==◌, List, [], ◌∷◌, ◌++◌, length, filter, find, Option, Some, None, is_some, refl, ap, sym, ◌∙◌, subst, arith, cond, take, drop, zero, suc, AllPairs, get_or, append_assoc}
use Rattle.std.specs.List.{fold, list_all}
use Rattle.song_queue.specs.declared.entry.Entry.{Entry}
use Rattle.play_order.specs.declared.modes.Rank.{Rank}
use Rattle.play_order.specs.Draws.{rank_of, is_among, has_id}
use Rattle.play_order.specs.Order.{comes_before, is_first, first_of, unplayed}
use Rattle.play_order.specs.Scans.{better}
use Rattle.play_order.proofs.Lists.{append-nil}

-- no later than
abbrev pub at_most : List Rank → Entry → Entry → Bool
at_most ranks a b = not (comes_before ranks b a)

pub at_most-total : (ranks : List Rank) (a b : Entry) → at_most ranks a b ≡ false → at_most ranks b a ≡ true
at_most-total ranks a b h = grind arith

pub at_most-self : (ranks : List Rank) (a : Entry) → at_most ranks a a ≡ true
at_most-self ranks a = grind arith

-- whether no candidate comes before this one, and the first such candidate
abbrev pub is_lowest : List Rank → List Entry → Entry → Bool
is_lowest ranks candidates c = list_all (λ d. not (comes_before ranks d c)) candidates

abbrev pub lowest_of : List Rank → List Entry → Option Entry
lowest_of ranks candidates = find (is_lowest ranks candidates) candidates

-- the order of two entries by their priorities, ranks and ids
abbrev pub lexicographic : ℕ → ℕ → ℕ → ℕ → ℕ → ℕ → Bool
lexicographic p q x y i j = nat_lt q p || ((p == q) && (nat_lt x y || ((x == y) && nat_lt i j)))

pub record AtMost (p q x y i j : ℕ) : Type 0 where
  pub priority : q ≤ p
  pub rank : p ≡ q → x ≤ y
  pub id : p ≡ q → x ≡ y → i ≤ j

to_fact : (p q x y i j : ℕ) → not (lexicographic q p y x j i) ≡ true → AtMost p q x y i j
to_fact p q x y i j h = record { priority = grind arith; rank = λ e. grind arith; id = λ e f. grind arith }

from_fact : (p q x y i j : ℕ) → AtMost p q x y i j → not (lexicographic q p y x j i) ≡ true
from_fact p q x y i j h = grind arith

join : (p q r x y z i j k : ℕ) → AtMost p q x y i j → AtMost q r y z j k → AtMost p r x z i k
join p q r x y z i j k h l = record {
  priority = omega (arith, h.priority, l.priority);
  rank = λ e. omega (arith, h.priority, l.priority, h.rank, l.rank);
  id = λ e f. omega (arith, h.priority, l.priority, h.rank, l.rank, h.id, l.id);
}

pub at_most-trans : (ranks : List Rank) (a b c : Entry) → at_most ranks a b ≡ true → at_most ranks b c ≡ true → at_most ranks a c ≡ true
at_most-trans ranks a b c h k =
    from_fact a.priority c.priority (rank_of ranks a.id) (rank_of ranks c.id) a.id c.id
    (join a.priority b.priority c.priority (rank_of ranks a.id) (rank_of ranks b.id) (rank_of ranks c.id) a.id b.id c.id
    (to_fact a.priority b.priority (rank_of ranks a.id) (rank_of ranks b.id) a.id b.id h)
    (to_fact b.priority c.priority (rank_of ranks b.id) (rank_of ranks c.id) b.id c.id k))

-- the entry that was found among those gone through
abbrev pub Found : List Rank → List Entry → Option Entry → Type 0
Found ranks done None = done ≡ []
Found ranks done (Some best) = lowest_of ranks done ≡ Some best

pub found-first : (ranks : List Rank) (done : List Entry) (best : Option Entry) → Found ranks done best → best ≡ lowest_of ranks done
found-first ranks done None found = subst (λ (d : List Entry). None ≡ lowest_of ranks d) (sym found) refl
found-first ranks done (Some best) found = sym found

list_all-append : {X : Type 0} (p : X → Bool) (xs : List X) (x : X) → list_all p (xs ++ x ∷ []) ≡ (list_all p xs && p x)
list_all-append p [] x = elim (p x) as (λ b. (b && true) ≡ (true && b)) [ true ↦ refl | false ↦ refl ]
list_all-append p (y ∷ ys) x = grind (arith, list_all-append p ys x)

find-both : {X : Type 0} (p q : X → Bool) (xs : List X) (b : X) → find p xs ≡ Some b → q b ≡ true → find (λ c. p c && q c) xs ≡ Some b
find-both p q [] b h k = cc
find-both p q (x ∷ xs) b h k =
    elim (p x) as (λ v. cond v (Some x) (find p xs) ≡ Some b → cond (v && q x) (Some x) (find (λ c. p c && q c) xs) ≡ Some b) [
      | true ↦ λ e. let s : x ≡ b = cc in let t : q x ≡ true = ap q s ∙ k in rw t e
      | false ↦ λ e. find-both p q xs b e k
    ] h

find-append-some : {X : Type 0} (p : X → Bool) (xs ys : List X) (b : X) → find p xs ≡ Some b → find p (xs ++ ys) ≡ Some b
find-append-some p [] ys b h = cc
find-append-some p (x ∷ xs) ys b h =
    elim (p x) as (λ v. cond v (Some x) (find p xs) ≡ Some b → cond v (Some x) (find p (xs ++ ys)) ≡ Some b) [
      | true ↦ λ e. e
      | false ↦ λ e. find-append-some p xs ys b e
    ] h

find-append-none : {X : Type 0} (p : X → Bool) (xs ys : List X) → find p xs ≡ None → find p (xs ++ ys) ≡ find p ys
find-append-none p [] ys h = refl
find-append-none p (x ∷ xs) ys h =
    elim (p x) as (λ v. cond v (Some x) (find p xs) ≡ None → cond v (Some x) (find p (xs ++ ys)) ≡ find p ys) [
      | true ↦ λ e. cc
      | false ↦ λ e. find-append-none p xs ys e
    ] h

-- what was found passes the test
find-passes : {X : Type 0} (p : X → Bool) (xs : List X) (b : X) → find p xs ≡ Some b → p b ≡ true
find-passes p [] b h = cc
find-passes p (x ∷ xs) b h =
    elim (p x) as (λ v. p x ≡ v → cond v (Some x) (find p xs) ≡ Some b → p b ≡ true) [
      | true ↦ λ t e. let s : x ≡ b = cc in sym (ap p s) ∙ t
      | false ↦ λ t e. find-passes p xs b e
    ] refl h

-- a test that holds of no element finds none
find-none : {X : Type 0} (p r : X → Bool) (xs : List X) → list_all r xs ≡ true → ((c : X) → r c ≡ true → p c ≡ false) → find p xs ≡ None
find-none p r [] h k = refl
find-none p r (x ∷ xs) h k =
    let first : r x ≡ true = grind arith in
    let rest : list_all r xs ≡ true = grind arith in
    rw (k x first) (find-none p r xs rest k)

find-same : {X : Type 0} (p q : X → Bool) (xs : List X) → ((c : X) → p c ≡ q c) → find p xs ≡ find q xs
find-same p q [] e = refl
find-same p q (x ∷ xs) e = rw (e x) (ap (λ r. cond (q x) (Some x) r) (find-same p q xs e))

list_all-weaken : {X : Type 0} (p q : X → Bool) (xs : List X) → list_all p xs ≡ true → ((c : X) → p c ≡ true → q c ≡ true) → list_all q xs ≡ true
list_all-weaken p q [] h k = refl
list_all-weaken p q (x ∷ xs) h k =
    let first : p x ≡ true = grind arith in
    let rest : list_all p xs ≡ true = grind arith in
    rw (k x first) (list_all-weaken p q xs rest k)

-- the best of those gone through stays the first, unless the next comes before it
pub lowest_of-stays : (ranks : List Rank) (done : List Entry) (best entry : Entry) → lowest_of ranks done ≡ Some best → at_most ranks best entry ≡ true
    → lowest_of ranks (done ++ entry ∷ []) ≡ Some best
lowest_of-stays ranks done best entry found before =
    let both : find (λ c. is_lowest ranks done c && at_most ranks c entry) done ≡ Some best = find-both (is_lowest ranks done) (λ c. at_most ranks c entry) done best found before in
    let longer : (c : Entry) → is_lowest ranks (done ++ entry ∷ []) c ≡ (is_lowest ranks done c && at_most ranks c entry) =
    λ c. list_all-append (λ d. not (comes_before ranks d c)) done entry in
    find-append-some (is_lowest ranks (done ++ entry ∷ [])) done (entry ∷ []) best (find-same _ _ done longer ∙ both)

lost : (ranks : List Rank) (done : List Entry) (best entry c : Entry) → at_most ranks best c ≡ true → at_most ranks best entry ≡ false → (is_lowest ranks done c && at_most ranks c entry) ≡ false
lost ranks done best entry c h k =
    elim (at_most ranks c entry) as (λ v. at_most ranks c entry ≡ v → (is_lowest ranks done c && v) ≡ false) [
      | true ↦ λ e. let t : at_most ranks best entry ≡ true = at_most-trans ranks best c entry h e in let f : true ≡ false = sym t ∙ k in cc
      | false ↦ λ e. elim (is_lowest ranks done c) as (λ v. (v && false) ≡ false) [ true ↦ refl | false ↦ refl ]
    ] refl

-- the next one is the first, if it comes before the best
pub lowest_of-next : (ranks : List Rank) (done : List Entry) (best entry : Entry) → lowest_of ranks done ≡ Some best → at_most ranks best entry ≡ false
    → lowest_of ranks (done ++ entry ∷ []) ≡ Some entry
lowest_of-next ranks done best entry found before =
    let longer : (c : Entry) → is_lowest ranks (done ++ entry ∷ []) c ≡ (is_lowest ranks done c && at_most ranks c entry) =
    λ c. list_all-append (λ d. not (comes_before ranks d c)) done entry in
    let best_first : is_lowest ranks done best ≡ true = find-passes (is_lowest ranks done) done best found in
    let before_best : at_most ranks entry best ≡ true = at_most-total ranks best entry before in
    let none : find (is_lowest ranks (done ++ entry ∷ [])) done ≡ None =
    find-none (is_lowest ranks (done ++ entry ∷ [])) (λ c. at_most ranks best c) done best_first (λ c h. longer c ∙ lost ranks done best entry c h before) in
    let entry_first : is_lowest ranks done entry ≡ true = list_all-weaken (λ d. at_most ranks best d) (λ d. at_most ranks entry d) done best_first (λ d h. at_most-trans ranks entry best d before_best h) in
    let self : at_most ranks entry entry ≡ true = at_most-self ranks entry in
    let passes : is_lowest ranks (done ++ entry ∷ []) entry ≡ true = longer entry ∙ (rw (entry_first, self) refl) in
    find-append-none (is_lowest ranks (done ++ entry ∷ [])) done (entry ∷ []) none ∙ (rw passes refl)

pub found-better : (ranks : List Rank) (done : List Entry) (best : Option Entry) (entry : Entry) → Found ranks done best → Found ranks (done ++ entry ∷ []) (better ranks best entry)
found-better ranks done None entry found =
    subst (λ (d : List Entry). lowest_of ranks (d ++ entry ∷ []) ≡ Some entry) (sym found) (rw (at_most-self ranks entry) refl)
found-better ranks done (Some best) entry found =
    elim (comes_before ranks entry best) as (λ v. comes_before ranks entry best ≡ v → Found ranks (done ++ entry ∷ []) (cond v (Some entry) (Some best))) [
      | true ↦ λ e. lowest_of-next ranks done best entry found (ap not e)
      | false ↦ λ e. lowest_of-stays ranks done best entry found (ap not e)
    ] refl

-- what holds of each entry
abbrev pub EachIn : (Entry → Type 0) → List Entry → Type 0
EachIn P [] = Unit {0}
EachIn P (x ∷ xs) = P x × EachIn P xs

-- where both tests agree on two candidates
abbrev pub Agree : List Rank → Entry → Entry → Type 0
Agree ranks c d = (has_id c.id d || comes_before ranks c d) ≡ not (comes_before ranks d c)

agree-self : (ranks : List Rank) (c : Entry) → Agree ranks c c
agree-self ranks c = grind arith

one_way : (p q x y i j : ℕ) → lexicographic p q x y i j ≡ true → lexicographic q p y x j i ≡ false
one_way p q x y i j e = grind arith

other_way : (p q x y i j : ℕ) → i ≢ j → lexicographic p q x y i j ≡ false → lexicographic q p y x j i ≡ true
other_way p q x y i j h e = grind arith

differ : (i j : ℕ) → i ≢ j → (j == i) ≡ false
differ i j h = grind arith

or-true : (b : Bool) → (b || true) ≡ true
or-true true = refl
or-true false = refl

agree-numbers : (p q x y i j : ℕ) → i ≢ j → ((j == i) || lexicographic p q x y i j) ≡ not (lexicographic q p y x j i)
agree-numbers p q x y i j h =
    elim (lexicographic p q x y i j) as (λ v. lexicographic p q x y i j ≡ v → ((j == i) || v) ≡ not (lexicographic q p y x j i)) [
      | true ↦ λ e. rw (one_way p q x y i j e) (or-true (j == i))
      | false ↦ λ e. rw (other_way p q x y i j h e, differ i j h) refl
    ] refl

agree-apart : (ranks : List Rank) (c d : Entry) → c.id ≢ d.id → Agree ranks c d
agree-apart ranks c d h = agree-numbers c.priority d.priority (rank_of ranks c.id) (rank_of ranks d.id) c.id d.id h

each-both : (P Q : Entry → Type 0) (xs : List Entry) → EachIn P xs → EachIn Q xs → EachIn (λ c. P c × Q c) xs
each-both P Q [] p q = tt
each-both P Q (x ∷ xs) p q = ((p.0, q.0), each-both P Q xs p.1 q.1)

pub each-map : (P Q : Entry → Type 0) (f : (c : Entry) → P c → Q c) (xs : List Entry) → EachIn P xs → EachIn Q xs
each-map P Q f [] p = tt
each-map P Q f (x ∷ xs) p = (f x p.0, each-map P Q f xs p.1)

pub each-filter : (P : Entry → Type 0) (t : Entry → Bool) (xs : List Entry) → EachIn P xs → EachIn P (filter t xs)
each-filter P t [] p = tt
each-filter P t (x ∷ xs) p = elim (t x) as (λ v. EachIn P (cond v (x ∷ filter t xs) (filter t xs))) [ true ↦ (p.0, each-filter P t xs p.1) | false ↦ each-filter P t xs p.1 ]

-- an entry that differs from each by its id
abbrev pub Apart : Entry → List Entry → Type 0
Apart x xs = EachIn (λ d. x.id ≢ d.id) xs

abbrev pub Distinct : List Entry → Type 0
Distinct [] = Unit {0}
Distinct (x ∷ xs) = Apart x xs × Distinct xs

agree-all : (ranks : List Rank) (xs : List Entry) → Distinct xs → EachIn (λ c. EachIn (Agree ranks c) xs) xs
agree-all ranks [] h = tt
agree-all ranks (x ∷ xs) h = (
  (agree-self ranks x, each-map (λ d. x.id ≢ d.id) (Agree ranks x) (λ d k. agree-apart ranks x d k) xs h.0),
  each-both (λ c. Agree ranks c x) (λ c. EachIn (Agree ranks c) xs) xs (each-map (λ d. x.id ≢ d.id) (λ c. Agree ranks c x) (λ c k. agree-apart ranks c x (λ e. k (sym e))) xs h.0)
      (agree-all ranks xs h.1),
)

pub list_all-agree : (p q : Entry → Bool) (xs : List Entry) → EachIn (λ d. p d ≡ q d) xs → list_all p xs ≡ list_all q xs
list_all-agree p q [] e = refl
list_all-agree p q (x ∷ xs) e = rw e.0 (ap (λ v. q x && v) (list_all-agree p q xs e.1))

pub find-agree : (p q : Entry → Bool) (xs : List Entry) → EachIn (λ c. p c ≡ q c) xs → find p xs ≡ find q xs
find-agree p q [] e = refl
find-agree p q (x ∷ xs) e = rw e.0 (ap (λ r. cond (q x) (Some x) r) (find-agree p q xs e.1))

distinct-filter : (t : Entry → Bool) (xs : List Entry) → Distinct xs → Distinct (filter t xs)
distinct-filter t [] h = tt
distinct-filter t (x ∷ xs) h =
    elim (t x) as (λ v. Distinct (cond v (x ∷ filter t xs) (filter t xs))) [ true ↦ (each-filter (λ d. x.id ≢ d.id) t xs h.0, distinct-filter t xs h.1) | false ↦ distinct-filter t xs h.1 ]

-- where ids are distinct, the first one is the one that none comes before
pub first_of-lowest : (ranks : List Rank) (xs : List Entry) → Distinct xs → first_of ranks xs ≡ lowest_of ranks xs
first_of-lowest ranks xs h =
    find-agree (is_first ranks xs) (is_lowest ranks xs) xs
    (each-map (λ c. EachIn (Agree ranks c) xs) (λ c. is_first ranks xs c ≡ is_lowest ranks xs c)
    (λ c e. list_all-agree (λ d. has_id c.id d || comes_before ranks c d) (λ d. not (comes_before ranks d c)) xs e) xs (agree-all ranks xs h))

pub each-from : (P : Entry → Type 0) (xs : List Entry) → ((j : ℕ) (d : Entry) → j < length xs → P (get_or xs j d)) → EachIn P xs
each-from P [] h = tt
each-from P (y ∷ ys) h = (h 0 y (omega arith), each-from P ys (λ j d l. h (suc j) d (omega arith)))

pub distinct-from : (xs : List Entry) → AllPairs (λ e f. e.id ≢ f.id) xs → Distinct xs
distinct-from [] h = tt
distinct-from (x ∷ xs) h =
    (each-from (λ d. x.id ≢ d.id) xs (λ j d l. h 0 (suc j) d (omega arith) (omega arith)), distinct-from xs (λ i j d a b. h (suc i) (suc j) d (omega arith) (omega arith)))

-- the first of some candidates, when more are gone through
pub found-more-candidates : (ranks : List Rank) (more done : List Entry) (best : Option Entry) → Found ranks done best → Found ranks (done ++ more) (fold (better ranks) best more)
found-more-candidates ranks [] done best found = subst (λ (d : List Entry). Found ranks d best) (sym (append-nil done)) found
found-more-candidates ranks (e ∷ more) done best found =
    subst (λ (d : List Entry). Found ranks d (fold (better ranks) (better ranks best e) more)) (append_assoc done (e ∷ []) more)
    (found-more-candidates ranks more (done ++ e ∷ []) (better ranks best e) (found-better ranks done best e found))

-- the best of candidates with distinct ids is the first
pub best-first : (ranks : List Rank) (candidates : List Entry) → Distinct candidates → fold (better ranks) None candidates ≡ first_of ranks candidates
best-first ranks candidates distinct =
    found-first ranks candidates (fold (better ranks) None candidates) (found-more-candidates ranks candidates [] None refl) ∙ sym (first_of-lowest ranks candidates distinct)

each-take : (P : Entry → Type 0) (n : ℕ) (xs : List Entry) → EachIn P xs → EachIn P (take n xs)
each-take P zero xs h = tt
each-take P (suc n) [] h = tt
each-take P (suc n) (x ∷ xs) h = (h.0, each-take P n xs h.1)

pub each-drop : (P : Entry → Type 0) (n : ℕ) (xs : List Entry) → EachIn P xs → EachIn P (drop n xs)
each-drop P zero xs h = h
each-drop P (suc n) [] h = tt
each-drop P (suc n) (x ∷ xs) h = each-drop P n xs h.1

each-append : (P : Entry → Type 0) (xs ys : List Entry) → EachIn P xs → EachIn P ys → EachIn P (xs ++ ys)
each-append P [] ys h k = k
each-append P (x ∷ xs) ys h k = (h.0, each-append P xs ys h.1 k)

distinct-drop : (n : ℕ) (xs : List Entry) → Distinct xs → Distinct (drop n xs)
distinct-drop zero xs h = h
distinct-drop (suc n) [] h = tt
distinct-drop (suc n) (x ∷ xs) h = distinct-drop n xs h.1

-- what is left of entries with distinct ids has distinct ids
pub distinct-left : (from end : ℕ) (xs : List Entry) → from ≤ end → Distinct xs → Distinct (take from xs ++ drop end xs)
distinct-left zero end xs h d = distinct-drop end xs d
distinct-left (suc from) zero xs h d = absurd (omega arith)
distinct-left (suc from) (suc end) [] h d = tt
distinct-left (suc from) (suc end) (x ∷ xs) h d =
    (each-append (λ y. x.id ≢ y.id) (take from xs) (drop end xs) (each-take (λ y. x.id ≢ y.id) from xs d.0) (each-drop (λ y. x.id ≢ y.id) end xs d.0), distinct-left from end xs (omega arith) d.1)

pub distinct-unplayed : (played : List ℕ) (xs : List Entry) → Distinct xs → Distinct (unplayed played xs)
distinct-unplayed played xs d = distinct-filter (λ (e : Entry). not (is_among e.id played)) xs d

fold-some : (ranks : List Rank) (best : Entry) (more : List Entry) → is_some (fold (better ranks) (Some best) more) ≡ true
fold-some ranks best [] = refl
fold-some ranks best (e ∷ more) =
    elim (comes_before ranks e best) as (λ v. is_some (fold (better ranks) (cond v (Some e) (Some best)) more) ≡ true) [ true ↦ fold-some ranks e more | false ↦ fold-some ranks best more ]

-- some entries have a first one
pub some-first : (ranks : List Rank) (entries : List Entry) → Distinct entries → is_some (first_of ranks entries) ≡ nat_lt 0 (length entries)
some-first ranks [] d = refl
some-first ranks (e ∷ more) d =
    let some : nat_lt 0 (suc (length more)) ≡ true = grind arith in
    ap is_some (sym (best-first ranks (e ∷ more) d)) ∙ fold-some ranks e more ∙ sym some
