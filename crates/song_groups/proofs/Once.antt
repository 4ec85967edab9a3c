-- The elements of a list in an order, each once.
use Rattle.std.proofs.Common.{◌≡◌, ◌∙◌, Bool, true, false, cond, ◌&&◌, ◌||◌, List, [], ◌∷◌, map, Some, None, refl, sym, ap}
use Rattle.std.specs.Prelude.{◌↔◌, T, is_some, IsPermutation}
use Rattle.std.specs.List.{list_any, Contains, AllByRecursion, dedup, dedup_from}
use Rattle.std.specs.List.Sorted.{IsStrictlySortedBy}
use Rattle.std.specs.Ordering.{eq_by_cmp, is_lt}
use Rattle.std.specs.declared.cmp.Ordering.{Ordering}
use Rattle.std.specs.declared.cmp.Ordering.TheVariants.{Less, Equal}
use Rattle.std.specs.Cmp.{IsTotalOrder, both_ways, eq_by_cmp_equiv, Equal-is}
use Rattle.std.specs.FinMap.{IsAntisymmetric, entries, keys, entries_sorted, from_entries, from_sorted, entries-from_sorted, get-entries, get-from_entries, get-from_sorted, same_map}
use Rattle.std.specs.FinMap.Entries.{find, below_all, is_sorted, is_some-find}
use Rattle.std.proofs.lemmas.List.Kept.{Contains-dedup, Contains-from_dedup}
use Rattle.std.proofs.lemmas.List.Sorted.{IsPermutation-map, list_any-IsPermutation}
use Rattle.std.proofs.lemmas.Map.Views.{list_any-from_Contains, Contains-from_any}
use Rattle.mpd_text.proofs.Ascending.{less, is-less, both, first, second}

-- an element as a key, with nothing at it
abbrev pub key : {K : Type 0} → K → K × Unit {0}
key x = (x, tt)

-- the elements of a list, in an order and each once
abbrev pub once : {K : Type 0} → (K → K → Ordering) → List K → List K
once R xs = keys (from_entries {R = R} (map key xs))

-- whether an element stands in a list
abbrev pub among : {K : Type 0} → (K → K → Ordering) → K → List K → Bool
among R x xs = list_any (eq_by_cmp R x) xs

names : {K : Type 0} (xs : List K) → map (λ (e : K × Unit {0}). e.0) (map key xs) ≡ xs
names [] = refl
names {K} (x ∷ xs) = ap (λ (rest : List K). x ∷ rest) (names xs)

-- what the map has at an element tells whether it stands in the list
finds : {K : Type 0} (R : K → K → Ordering) (x : K) (xs : List K) → find R x (map key xs) ≡ cond (among R x xs) (Some tt) None
finds R x [] = refl
finds R x (y ∷ ys) = elim (eq_by_cmp R x y) as (λ b. cond b (Some tt) (find R x (map key ys)) ≡ cond (b || among R x ys) (Some tt) None) [ true ↦ refl | false ↦ finds R x ys ]

below : {K : Type 0} (R : K → K → Ordering) (x : K) (xs : List K) → AllByRecursion (λ y. R x y ≡ Less) xs → T (below_all R x (map key xs))
below R x [] h = tt
below R x (y ∷ ys) h = both (is_lt (R x y)) (below_all R x (map key ys)) (less (R x y) h.0) (below R x ys h.1)

sorted : {K : Type 0} (R : K → K → Ordering) (xs : List K) → IsStrictlySortedBy R xs → T (is_sorted R (map key xs))
unfolding IsStrictlySortedBy
sorted R [] h = tt
sorted R (x ∷ xs) h = both (below_all R x (map key xs)) (is_sorted R (map key xs)) (below R x xs h.0) (sorted R xs h.1)

under_all : {K : Type 0} (R : K → K → Ordering) (x : K) (es : List (K × Unit {0})) → T (below_all R x es) → AllByRecursion (λ y. R x y ≡ Less) (map (λ (e : K × Unit {0}). e.0) es)
under_all R x [] h = tt
under_all R x (e ∷ es) h = (is-less (R x e.0) (first (is_lt (R x e.0)) (below_all R x es) h), under_all R x es (second (is_lt (R x e.0)) (below_all R x es) h))

rise : {K : Type 0} (R : K → K → Ordering) (es : List (K × Unit {0})) → T (is_sorted R es) → IsStrictlySortedBy R (map (λ (e : K × Unit {0}). e.0) es)
unfolding IsStrictlySortedBy
rise R [] h = tt
rise R (e ∷ es) h = (under_all R e.0 es (first (below_all R e.0 es) (is_sorted R es) h), rise R es (second (below_all R e.0 es) (is_sorted R es) h))

pub once-rises : {K : Type 0} (R : K → K → Ordering) (xs : List K) → IsStrictlySortedBy R (once R xs)
once-rises R xs = rise R (entries (from_entries {R = R} (map key xs))) (entries_sorted (from_entries {R = R} (map key xs)))

module _ {K : Type 0} {R : K → K → Ordering} (order : IsTotalOrder R) (apart : IsAntisymmetric R) where
  -- lists with the same elements have one such list
  pub same_once : (xs ys : List K) → ((x : K) → among R x xs ≡ among R x ys) → once R xs ≡ once R ys
  same_once xs ys h =
      ap keys (same_map order apart (from_entries (map key xs)) (from_entries (map key ys))
      (λ q. get-from_entries order (map key xs) q ∙ finds R q xs ∙ ap (λ b. cond b (Some tt) None) (h q) ∙ sym (finds R q ys) ∙ sym (get-from_entries order (map key ys) q)))

  -- what is in that order already is that list
  pub once-is : (xs : List K) → IsStrictlySortedBy R xs → once R xs ≡ xs
  once-is xs h =
      ap keys (same_map order apart (from_entries (map key xs)) (from_sorted {R = R} (map key xs))
      (λ q. get-from_entries order (map key xs) q ∙ sym (get-from_sorted R (map key xs) q (sorted R xs h))))
      ∙ ap (λ (es : List (K × Unit {0})). map (λ (e : K × Unit {0}). e.0) es) (entries-from_sorted R (map key xs) (sorted R xs h)) ∙ names xs

  pub among-once : (xs : List K) (x : K) → among R x (once R xs) ≡ among R x xs
  among-once xs x =
      sym (is_some-find R x (entries (from_entries {R = R} (map key xs))))
      ∙ ap is_some (sym (get-entries (from_entries {R = R} (map key xs)) x) ∙ get-from_entries order (map key xs) x)
      ∙ is_some-find R x (map key xs) ∙ ap (among R x) (names xs)

  one : (a b : K) → eq_by_cmp R a b ≡ true → a ≡ b
  one a b h = apart a b ((Equal-is (R a b)).0 h)

  pub among_from : (xs : List K) (x : K) → Contains xs x → among R x xs ≡ true
  among_from xs x h = list_any-from_Contains (eq_by_cmp_equiv order) x xs h

  pub among_gives : (xs : List K) (x : K) → among R x xs ≡ true → Contains xs x
  among_gives xs x h = Contains-from_any one x xs h

  pub has-each : (xs : List K) (x : K) → Contains (once R xs) x ↔ Contains xs x
  has-each xs x = (
    (λ h. among_gives xs x (sym (among-once xs x) ∙ among_from (once R xs) x h)),
    (λ h. among_gives (once R xs) x (among-once xs x ∙ among_from xs x h)),
  )

  dedup_has : (xs : List K) (x : K) → among R x (dedup (eq_by_cmp R) xs) ≡ among R x xs
  dedup_has xs x =
      both_ways (among R x (dedup (eq_by_cmp R) xs)) (among R x xs)
      (λ h. among_from xs x (Contains-from_dedup (eq_by_cmp R) xs x (among_gives (dedup (eq_by_cmp R) xs) x h)))
      (λ h. among_from (dedup (eq_by_cmp R) xs) x (Contains-dedup (eq_by_cmp_equiv order) one xs x (among_gives xs x h)))

  -- what a sort and `dedup` leave of things that show elements: P by f, which they order by S and tell apart
  -- by E
  module _ {P : Type 0} (f : P → K) (S : P → P → Ordering) (E : P → P → Bool) (by : (p q : P) → S p q ≡ R (f p) (f q)) (ties : (p q : P) → E p q ≡ eq_by_cmp R (f p) (f q)) where
    all_shown : (p : P) (ps : List P) → AllByRecursion (λ q. S p q ≡ Less) ps → AllByRecursion (λ x. R (f p) x ≡ Less) (map f ps)
    all_shown p [] h = tt
    all_shown p (q ∷ qs) h = (sym (by p q) ∙ h.0, all_shown p qs h.1)

    rises-shown : (ps : List P) → IsStrictlySortedBy S ps → IsStrictlySortedBy R (map f ps)
    unfolding IsStrictlySortedBy
    rises-shown [] h = tt
    rises-shown (p ∷ ps) h = (all_shown p ps h.0, rises-shown ps h.1)

    chosen : (b c : Bool) (us vs : List P) (ss ts : List K) → b ≡ c → map f us ≡ ss → map f vs ≡ ts → map f (cond b us vs) ≡ cond c ss ts
    chosen true true us vs ss ts e h k = h
    chosen true false us vs ss ts e h k = cc
    chosen false true us vs ss ts e h k = cc
    chosen false false us vs ss ts e h k = k

    from_one : (p : P) (ps : List P) → map f (dedup_from E p ps) ≡ dedup_from (eq_by_cmp R) (f p) (map f ps)
    from_one p [] = refl
    from_one p (q ∷ qs) =
        chosen (E q p) (eq_by_cmp R (f q) (f p)) (dedup_from E p qs) (p ∷ dedup_from E q qs) (dedup_from (eq_by_cmp R) (f p) (map f qs)) (f p ∷ dedup_from (eq_by_cmp R) (f q) (map f qs))
        (ties q p) (from_one p qs) (ap (λ (rest : List K). f p ∷ rest) (from_one q qs))

    dedup-shown : (ps : List P) → map f (dedup E ps) ≡ dedup (eq_by_cmp R) (map f ps)
    dedup-shown [] = refl
    dedup-shown (p ∷ ps) = from_one p ps

    pub sorts : (given sorted : List P) → IsPermutation given sorted → IsStrictlySortedBy S (dedup E sorted) → map f (dedup E sorted) ≡ once R (map f given)
    sorts given sorted moved rises =
        sym (once-is (map f (dedup E sorted)) (rises-shown (dedup E sorted) rises))
        ∙ same_once (map f (dedup E sorted)) (map f given)
        (λ x. ap (among R x) (dedup-shown sorted) ∙ dedup_has (map f sorted) x ∙ sym (list_any-IsPermutation (eq_by_cmp R x) (map f given) (map f sorted) (IsPermutation-map f given sorted moved)))
