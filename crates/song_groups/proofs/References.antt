-- Facts on references, carried over to what they refer to.
use Rattle.std.proofs.Common.{◌≡◌, ◌∙◌, ℕ, ◌+◌, ◌-◌, ◌≤◌, Bool, true, false, cond, List, [], ◌∷◌, map, length, get_or, drop, refl, sym, ap, subst, arith, Bor}
use Rattle.std.specs.Prelude.{not, ◌&&◌}
use Rattle.std.specs.List.{filter, AllWithin}
use Rattle.std.specs.List.Sorted.{IsSortedBy, IsPartitionedBy}
use Rattle.std.proofs.Math.ListN.{get_or-map}
use Rattle.std.proofs.lemmas.List.{length-map, get_or-drop, length-drop}
use Rattle.std.specs.Ordering.{is_lt, is_eq, ordering_reverse}
use Rattle.std.specs.declared.cmp.Ordering.{Ordering}
use Rattle.std.specs.declared.cmp.Ordering.TheVariants.{Less, Equal, Greater}

module _ {X : Type 0} where
  -- what a reference refers to
  abbrev pub behind : List (Bor X) → List X
  behind refs = map (λ r. r.now) refs

  -- a reference to a value, anywhere
  abbrev to_it : X → Bor X
  to_it x = record { ref_ptr = (0, 0); now = x }

  pub filter-behind : (p : X → Bool) (refs : List (Bor X)) → filter p (behind refs) ≡ behind (filter (λ r. p r.now) refs)
  filter-behind p [] = refl
  filter-behind p (r ∷ rs) = elim (p r.now) as (λ b. cond b (r.now ∷ filter p (behind rs)) (filter p (behind rs)) ≡ behind (cond b (r ∷ filter (λ s. p s.now) rs) (filter (λ s. p s.now) rs))) [
    | true ↦ ap (λ (rest : List X). r.now ∷ rest) (filter-behind p rs)
    | false ↦ filter-behind p rs
  ]

  pub filter_alike : (p q : X → Bool) → ((x : X) → p x ≡ q x) → (xs : List X) → filter p xs ≡ filter q xs
  filter_alike p q h [] = refl
  filter_alike p q h (x ∷ xs) = ap (λ (b : Bool). cond b (x ∷ filter p xs) (filter p xs)) (h x) ∙ ap (λ (rest : List X). cond (q x) (x ∷ rest) rest) (filter_alike p q h xs)

  pub sorted-behind : (lt : X → X → Bool) (refs : List (Bor X)) → IsSortedBy (λ a b. lt a.now b.now) refs → IsSortedBy lt (behind refs)
  sorted-behind lt refs up k d low high =
      let long : length (behind refs) ≡ length refs = length-map refs (λ (r : Bor X). r.now) in
      let second : get_or (behind refs) (k + 1) d ≡ (get_or refs (k + 1) (to_it d)).now = get_or-map (λ (r : Bor X). r.now) refs (k + 1) (to_it d) in
      let first : get_or (behind refs) k d ≡ (get_or refs k (to_it d)).now = get_or-map (λ (r : Bor X). r.now) refs k (to_it d) in
      ap (λ x. lt x (get_or (behind refs) k d)) second ∙ ap (λ x. lt (get_or refs (k + 1) (to_it d)).now x) first ∙ up k (to_it d) (omega arith) (omega arith)

  pub within-behind : (P : X → Type 0) (refs : List (Bor X)) (low high : ℕ) → AllWithin (λ r. P r.now) refs low high → AllWithin P (behind refs) low high
  within-behind P refs low high h k d l m = subst P (sym (get_or-map (λ (r : Bor X). r.now) refs k (to_it d))) (h k (to_it d) l m)

  pub partitioned-refs : (p : X → Bool) (refs : List (Bor X)) → IsPartitionedBy p (behind refs) → IsPartitionedBy (λ r. p r.now) refs
  partitioned-refs p refs h i j d l m e =
      let long : length (behind refs) ≡ length refs = length-map refs (λ (r : Bor X). r.now) in
      ap p (sym (get_or-map (λ (r : Bor X). r.now) refs i d)) ∙ h i j d.now l (omega arith) (ap p (get_or-map (λ (r : Bor X). r.now) refs j d) ∙ e)

  pub sorted-drop : (lt : X → X → Bool) (n : ℕ) (xs : List X) → n ≤ length xs → IsSortedBy lt xs → IsSortedBy lt (drop n xs)
  sorted-drop lt n xs l up k d low high =
      let long : length (drop n xs) ≡ length xs - n = length-drop n xs in
      let e : n + (k + 1) ≡ n + k + 1 = omega arith in
      let second : get_or (drop n xs) (k + 1) d ≡ get_or xs (n + k + 1) d = get_or-drop n xs (k + 1) d ∙ ap (λ i. get_or xs i d) e in
      ap (λ x. lt x (get_or (drop n xs) k d)) second ∙ ap (λ x. lt (get_or xs (n + k + 1) d) x) (get_or-drop n xs k d) ∙ up (n + k) d (omega arith) (omega arith)

-- two things tie where neither comes before the other
pub tied : (r s : Ordering) → s ≡ ordering_reverse r → not (is_lt r) && not (is_lt s) ≡ is_eq r
tied Less s e = refl
tied Equal s e = ap (λ (o : Ordering). not (is_lt o)) e
tied Greater s e = ap (λ (o : Ordering). not (is_lt o)) e
