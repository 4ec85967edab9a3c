-- Elements that changed places, and what is found among them; a sorted list without ties rises strictly.
use Rattle.std.proofs.Common.{◌≡◌, inl, inr, ℕ, List, [], ◌∷◌, map, filter, find, Bool, true, false, ◌&&◌, Some, None, Option, is_some, refl, sym, ap, subst, ◌∙◌, Ordering}
use Rattle.std.specs.List.{AllByRecursion, IsDistinct, dedup, dedup_from, list_any, swap}
use Rattle.std.specs.List.Sorted.{IsPermutation, IsSorted, IsStrictlySortedBy, SwapsInRange, apply_swaps}
use Rattle.std.specs.Cmp.{IsTotalOrder}
use Rattle.std.specs.Ordering.{eq_by_cmp}
use Rattle.std.proofs.Math.ListN.{get_or, set, length-map, get_or-map}
use Rattle.std.proofs.Math.Seq.{map-set}
use Rattle.std.proofs.lemmas.Bool.{cases_Bool, true≢false}
use Rattle.std.proofs.lemmas.Cmp.{eq_by_cmp_equiv}
use Rattle.std.proofs.lemmas.List.Kept.{IsStrictlySortedBy-dedup}
use Rattle.std.proofs.lemmas.List.Sorted.{Contains-permutation, IsPermutation-sym, list_any-IsPermutation}
use Rattle.sqlite_rules.specs.Lists.{Has}
use Rattle.sqlite_rules.proofs.ListLemmas.{has_found, has_contained, contains_had}

module _ {X Y : Type 0} (f : X → Y) where
  map-swap : (xs : List X) (i j : ℕ) → map f (swap xs i j) ≡ swap (map f xs) i j
  map-swap [] i j = refl
  map-swap (d ∷ xs) i j = map-set f (set (d ∷ xs) i (get_or (d ∷ xs) j d)) j (get_or (d ∷ xs) i d)
      ∙ (λ k. set ((map-set f (d ∷ xs) i (get_or (d ∷ xs) j d) ∙ ap (set (map f (d ∷ xs)) i) (sym (get_or-map f (d ∷ xs) j d))) k) j (sym (get_or-map f (d ∷ xs) i d) k))

  map_swaps : (xs : List X) (moves : List (ℕ × ℕ)) → map f (apply_swaps xs moves) ≡ apply_swaps (map f xs) moves
  map_swaps xs [] = refl
  map_swaps xs (m ∷ moves) = map-swap (apply_swaps xs moves) m.0 m.1 ∙ ap (λ l. swap l m.0 m.1) (map_swaps xs moves)

  -- images that changed places are the images of elements that did
  pub moved_back : (xs : List X) (ys : List Y) → IsPermutation (map f xs) ys → (moved : List X) × IsPermutation xs moved × (ys ≡ map f moved)
  moved_back xs ys p = (apply_swaps xs p.moves, record { moves = p.moves; below = subst (λ n. SwapsInRange n p.moves) (length-map xs f) p.below; is = refl }, p.is ∙ sym (map_swaps xs p.moves))

module _ {X : Type 0} (p : X → Bool) where
  pub any_found : (xs : List X) → list_any p xs ≡ is_some (find p xs)
  any_found [] = refl
  any_found (x ∷ xs) = elim (cases_Bool (p x)) [ inl is ↦ rw is refl | inr other ↦ rw other (any_found xs) ]

  -- where no two elements pass, the same one is found
  pub find_moved : (xs ys : List X) → IsPermutation xs ys → ((a b : X) → Has xs a → Has xs b → p a ≡ true → p b ≡ true → a ≡ b) → find p ys ≡ find p xs
  find_moved xs ys moved once = go (find p ys) (find p xs) refl refl
    where
      same : is_some (find p ys) ≡ is_some (find p xs)
      same = sym (any_found ys) ∙ sym (list_any-IsPermutation p xs ys moved) ∙ any_found xs

      back : (x : X) → Has ys x → Has xs x
      back x h = has_contained xs x (Contains-permutation ys xs x (IsPermutation-sym xs ys moved) (contains_had ys x h))

      go : (a b : Option X) → find p ys ≡ a → find p xs ≡ b → a ≡ b
      go None None e f = refl
      go (Some y) (Some x) e f = let h = has_found p ys y e in let k = has_found p xs x f in ap Some (once y x (back y h.0) k.0 h.1 k.1)
      go (Some y) None e f = absurd (true≢false (sym (ap is_some e) ∙ same ∙ ap is_some f))
      go None (Some x) e f = absurd (true≢false (sym (ap is_some f) ∙ sym same ∙ ap is_some e))

  -- what is found among those that pass a test, passes both
  pub find_both : (test both : X → Bool) → ((x : X) → both x ≡ (test x && p x)) → (xs : List X) → find p (filter test xs) ≡ find both xs
  find_both test both same [] = refl
  find_both test both same (x ∷ xs) = elim (cases_Bool (test x)) [
    | inl kept ↦ elim (cases_Bool (p x)) [
      | inl is ↦ rw (same x, kept, is) refl
      | inr other ↦ rw (same x, kept, other) (find_both test both same xs)
    ]
    | inr gone ↦ rw (same x, gone) (find_both test both same xs)
  ]

module _ {X : Type 0} {R : X → X → Ordering} (total : IsTotalOrder R) where
  all_kept : (k : X) (xs : List X) → AllByRecursion (λ y. eq_by_cmp R k y ≡ false) xs → IsDistinct (eq_by_cmp R) xs → dedup_from (eq_by_cmp R) k xs ≡ k ∷ xs
  unfolding IsDistinct
  all_kept k [] apart rest = refl
  all_kept k (x ∷ xs) apart rest = rw ((eq_by_cmp_equiv total).symm x k ∙ apart.0) (ap (λ ys. k ∷ ys) (all_kept x xs rest.0 rest.1))

  distinct_kept : (xs : List X) → IsDistinct (eq_by_cmp R) xs → dedup (eq_by_cmp R) xs ≡ xs
  unfolding IsDistinct
  distinct_kept [] apart = refl
  distinct_kept (x ∷ xs) apart = all_kept x xs apart.0 apart.1

  pub strictly : (xs : List X) → IsSorted R xs → IsDistinct (eq_by_cmp R) xs → IsStrictlySortedBy R xs
  strictly xs up apart = subst (IsStrictlySortedBy R) (distinct_kept xs apart) (IsStrictlySortedBy-dedup total (λ x y. refl) xs up)
