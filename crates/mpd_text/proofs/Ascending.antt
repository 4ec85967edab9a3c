-- The list of the texts of a list, in byte order and each once.
use Rattle.std.proofs.Common.{◌≡◌, ◌∙◌, ℕ, Bool, true, false, cond, ◌&&◌, ◌||◌, List, [], ◌∷◌, map, Some, None, refl, sym, ap, Bor}
use Rattle.std.specs.Prelude.{◌↔◌, T, is_some, nat_eq, IsPermutation}
use lib.Pointwise.{pointwise}
use Rattle.std.specs.List.{list_any, Contains, AllByRecursion, dedup, dedup_from}
use Rattle.std.specs.List.Sorted.{IsStrictlySortedBy}
use Rattle.std.specs.Ordering.{eq_by_cmp, is_lt}
use Rattle.std.specs.declared.cmp.Ordering.{Ordering}
use Rattle.std.specs.declared.cmp.Ordering.TheVariants.{Less, Equal, Greater}
use Rattle.std.specs.Cmp.{IsTotalOrder, both_ways, eq_by_cmp_equiv}
use Rattle.std.specs.Cmp.Lexicographic.{nat_list_cmp_total, nat_list_eq_equiv, same_text, texts_ties}
use Rattle.std.specs.FinMap.{IsAntisymmetric, nat_cmp-IsAntisymmetric, slice_cmp-IsAntisymmetric, entries, keys, entries_sorted, from_entries, from_sorted, entries-from_sorted, get-entries, get-from_entries, get-from_sorted, same_map}
use Rattle.std.specs.FinMap.Entries.{find, below_all, is_sorted, is_some-find}
use Rattle.std.proofs.lemmas.List.Kept.{Contains-dedup, Contains-from_dedup}
use Rattle.std.proofs.lemmas.List.Sorted.{IsPermutation-map, list_any-IsPermutation}
use Rattle.std.proofs.lemmas.Map.Views.{list_any-from_Contains, Contains-from_any}
use Rattle.mpd_text.specs.Texts.{by_bytes, key_of, ascending}

order : IsTotalOrder by_bytes
order = nat_list_cmp_total

apart : IsAntisymmetric by_bytes
apart = slice_cmp-IsAntisymmetric nat_cmp-IsAntisymmetric

-- whether a text stands in a list
abbrev pub among : List ℕ → List (List ℕ) → Bool
among text texts = list_any (eq_by_cmp by_bytes text) texts

names : (texts : List (List ℕ)) → map (λ (e : List ℕ × Unit {0}). e.0) (map key_of texts) ≡ texts
names [] = refl
names (t ∷ ts) = ap (λ (rest : List (List ℕ)). t ∷ rest) (names ts)

-- what the map has at a text tells whether it stands in the list
finds : (text : List ℕ) (texts : List (List ℕ)) → find by_bytes text (map key_of texts) ≡ cond (among text texts) (Some tt) None
finds text [] = refl
finds text (t ∷ ts) = elim (eq_by_cmp by_bytes text t) as (λ b. cond b (Some tt) (find by_bytes text (map key_of ts)) ≡ cond (b || among text ts) (Some tt) None) [ true ↦ refl | false ↦ finds text ts ]

-- lists with the same texts have one such list
pub same_ascending : (xs ys : List (List ℕ)) → ((text : List ℕ) → among text xs ≡ among text ys) → ascending xs ≡ ascending ys
unfolding ascending
same_ascending xs ys h =
    ap keys (same_map order apart (from_entries (map key_of xs)) (from_entries (map key_of ys))
    (λ q. get-from_entries order (map key_of xs) q ∙ finds q xs ∙ ap (λ b. cond b (Some tt) None) (h q) ∙ sym (finds q ys) ∙ sym (get-from_entries order (map key_of ys) q)))

pub less : (o : Ordering) → o ≡ Less → T (is_lt o)
less Less e = tt
less Equal e = cc
less Greater e = cc

pub is-less : (o : Ordering) → T (is_lt o) → o ≡ Less
is-less Less h = refl
is-less Equal h = absurd h
is-less Greater h = absurd h

pub both : (a b : Bool) → T a → T b → T (a && b)
both true b h k = k
both false b h k = h

pub first : (a b : Bool) → T (a && b) → T a
first true b h = tt
first false b h = h

pub second : (a b : Bool) → T (a && b) → T b
second true b h = h
second false b h = absurd h

below : (x : List ℕ) (xs : List (List ℕ)) → AllByRecursion (λ y. by_bytes x y ≡ Less) xs → T (below_all by_bytes x (map key_of xs))
below x [] h = tt
below x (y ∷ ys) h = both (is_lt (by_bytes x y)) (below_all by_bytes x (map key_of ys)) (less (by_bytes x y) h.0) (below x ys h.1)

sorted : (xs : List (List ℕ)) → IsStrictlySortedBy by_bytes xs → T (is_sorted by_bytes (map key_of xs))
unfolding IsStrictlySortedBy
sorted [] h = tt
sorted (x ∷ xs) h = both (below_all by_bytes x (map key_of xs)) (is_sorted by_bytes (map key_of xs)) (below x xs h.0) (sorted xs h.1)

-- what is in that order already is that list
pub ascends-is : (xs : List (List ℕ)) → IsStrictlySortedBy by_bytes xs → ascending xs ≡ xs
unfolding ascending
ascends-is xs h =
    ap keys (same_map order apart (from_entries (map key_of xs)) (from_sorted {R = by_bytes} (map key_of xs))
    (λ q. get-from_entries order (map key_of xs) q ∙ sym (get-from_sorted by_bytes (map key_of xs) q (sorted xs h))))
    ∙ ap (λ (es : List (List ℕ × Unit {0})). map (λ (e : List ℕ × Unit {0}). e.0) es) (entries-from_sorted by_bytes (map key_of xs) (sorted xs h)) ∙ names xs

under_all : (x : List ℕ) (es : List (List ℕ × Unit {0})) → T (below_all by_bytes x es) → AllByRecursion (λ y. by_bytes x y ≡ Less) (map (λ (e : List ℕ × Unit {0}). e.0) es)
under_all x [] h = tt
under_all x (e ∷ es) h = (is-less (by_bytes x e.0) (first (is_lt (by_bytes x e.0)) (below_all by_bytes x es) h), under_all x es (second (is_lt (by_bytes x e.0)) (below_all by_bytes x es) h))

rise : (es : List (List ℕ × Unit {0})) → T (is_sorted by_bytes es) → IsStrictlySortedBy by_bytes (map (λ (e : List ℕ × Unit {0}). e.0) es)
unfolding IsStrictlySortedBy
rise [] h = tt
rise (e ∷ es) h = (under_all e.0 es (first (below_all by_bytes e.0 es) (is_sorted by_bytes es) h), rise es (second (below_all by_bytes e.0 es) (is_sorted by_bytes es) h))

pub ascending-rises : (xs : List (List ℕ)) → IsStrictlySortedBy by_bytes (ascending xs)
unfolding ascending
ascending-rises xs = rise (entries (from_entries {R = by_bytes} (map key_of xs))) (entries_sorted (from_entries {R = by_bytes} (map key_of xs)))

pub among-ascending : (xs : List (List ℕ)) (text : List ℕ) → among text (ascending xs) ≡ among text xs
unfolding ascending
among-ascending xs text =
    sym (is_some-find by_bytes text (entries (from_entries {R = by_bytes} (map key_of xs))))
    ∙ ap is_some (sym (get-entries (from_entries {R = by_bytes} (map key_of xs)) text) ∙ get-from_entries order (map key_of xs) text)
    ∙ is_some-find by_bytes text (map key_of xs) ∙ ap (among text) (names xs)

same : (a b : List ℕ) → eq_by_cmp by_bytes a b ≡ true → a ≡ b
same a b h = same_text a b (sym (texts_ties a b ∙ h))

pub among_from : (xs : List (List ℕ)) (text : List ℕ) → Contains xs text → among text xs ≡ true
among_from xs text h = list_any-from_Contains (eq_by_cmp_equiv order) text xs h

pub among_gives : (xs : List (List ℕ)) (text : List ℕ) → among text xs ≡ true → Contains xs text
among_gives xs text h = Contains-from_any same text xs h

pub has-each : (xs : List (List ℕ)) (text : List ℕ) → Contains (ascending xs) text ↔ Contains xs text
has-each xs text = (
  (λ h. among_gives xs text (sym (among-ascending xs text) ∙ among_from (ascending xs) text h)),
  (λ h. among_gives (ascending xs) text (among-ascending xs text ∙ among_from xs text h)),
)

-- lists with the same elements
pub among_same : (xs ys : List (List ℕ)) → ((text : List ℕ) → Contains xs text → Contains ys text) → ((text : List ℕ) → Contains ys text → Contains xs text) → (text : List ℕ) → among text xs ≡ among text ys
among_same xs ys to from text = both_ways (among text xs) (among text ys) (λ h. among_from ys text (to text (among_gives xs text h))) (λ h. among_from xs text (from text (among_gives ys text h)))

-- what a sort and `dedup` leave of references to texts
abbrev pub shown : List (Bor (List ℕ)) → List (List ℕ)
shown refs = map (λ (r : Bor (List ℕ)). r.now) refs

abbrev one_text : Bor (List ℕ) → Bor (List ℕ) → Bool
one_text a b = pointwise nat_eq a.now b.now

rises-shown : (refs : List (Bor (List ℕ))) → IsStrictlySortedBy (λ (a b : Bor (List ℕ)). by_bytes a.now b.now) refs → IsStrictlySortedBy by_bytes (shown refs)
unfolding IsStrictlySortedBy
rises-shown [] h = tt
rises-shown (r ∷ rs) h = (all_shown r rs h.0, rises-shown rs h.1)
  where
    all_shown : (r : Bor (List ℕ)) (rs : List (Bor (List ℕ))) → AllByRecursion (λ (b : Bor (List ℕ)). by_bytes r.now b.now ≡ Less) rs → AllByRecursion (λ b. by_bytes r.now b ≡ Less) (shown rs)
    all_shown r [] h = tt
    all_shown r (b ∷ bs) h = (h.0, all_shown r bs h.1)

dedup-shown : (refs : List (Bor (List ℕ))) → shown (dedup one_text refs) ≡ dedup (pointwise nat_eq) (shown refs)
dedup-shown [] = refl
dedup-shown (r ∷ rs) = from_one r rs
  where
    from_one : (r : Bor (List ℕ)) (rs : List (Bor (List ℕ))) → shown (dedup_from one_text r rs) ≡ dedup_from (pointwise nat_eq) r.now (shown rs)
    from_one r [] = refl
    from_one r (b ∷ bs) =
        elim (pointwise nat_eq b.now r.now) as (λ e. shown (cond e (dedup_from one_text r bs) (r ∷ dedup_from one_text b bs)) ≡ cond e (dedup_from (pointwise nat_eq) r.now (shown bs)) (r.now ∷ dedup_from (pointwise nat_eq) b.now (shown bs))) [
          | true ↦ from_one r bs
          | false ↦ ap (λ (rest : List (List ℕ)). r.now ∷ rest) (from_one b bs)
        ]

dedup_has : (xs : List (List ℕ)) (text : List ℕ) → among text (dedup (pointwise nat_eq) xs) ≡ among text xs
dedup_has xs = among_same (dedup (pointwise nat_eq) xs) xs (Contains-from_dedup (pointwise nat_eq) xs) (Contains-dedup nat_list_eq_equiv (λ a b h. same_text a b (sym h)) xs)

pub sorts : (given sorted : List (Bor (List ℕ))) → IsPermutation given sorted → IsStrictlySortedBy (λ (a b : Bor (List ℕ)). by_bytes a.now b.now) (dedup one_text sorted)
    → shown (dedup one_text sorted) ≡ ascending (shown given)
sorts given sorted moved rises =
    sym (ascends-is (shown (dedup one_text sorted)) (rises-shown (dedup one_text sorted) rises))
    ∙ same_ascending (shown (dedup one_text sorted)) (shown given)
    (λ text. ap (among text) (dedup-shown sorted) ∙ dedup_has (shown sorted) text ∙ sym (list_any-IsPermutation (eq_by_cmp by_bytes text) (shown given) (shown sorted) (IsPermutation-map (λ (r : Bor (List ℕ)). r.now) given sorted moved)))
