-- A list whose first elements have one key, and whose others have higher ones.
use Rattle.std.proofs.Common.{◌≡◌, ◌∙◌, ℕ, zero, suc, ◌+◌, ◌-◌, ◌<◌, Bool, true, false, cond, ◌||◌, List, [], ◌∷◌, ◌++◌, map, length, get_or, take, drop, min, refl, sym, ap, arith}
use Rattle.std.specs.Bool.{Decides}
use Rattle.std.specs.List.{AllByRecursion, AllWithin}
use Rattle.std.specs.List.Sorted.{IsStrictlySortedBy, IsSortedBy, IsPartitionedBy}
use Rattle.std.specs.Ordering.{eq_by_cmp, is_lt, ordering_reverse}
use Rattle.std.specs.declared.cmp.Ordering.{Ordering}
use Rattle.std.specs.declared.cmp.Ordering.TheVariants.{Less, Equal, Greater}
use Rattle.std.specs.Cmp.{IsTotalOrder, Equal-is, tied_itself, both_ways}
use Rattle.std.specs.FinMap.{IsAntisymmetric}
use Rattle.std.proofs.lemmas.List.{map-append, get_or-drop, get_or-take, length-take, length-drop, take-append-drop}
use Rattle.std.proofs.lemmas.List.Folds.{list_any-append}
use Rattle.std.proofs.lemmas.List.MinMax.{ranks_by}
use Rattle.std.proofs.lemmas.List.Sorted.{sorted_far}
use Rattle.song_groups.proofs.Once.{once, among, same_once, once-is, once-rises, among-once}
use Rattle.song_groups.proofs.Rows.{is_false, each, from_indices, map_same, has, row, row-none, each_text, not_less, each_among}

module _ {X K : Type 0} (key : X → K) (is_one : K → K → Bool) (decides : (a b : K) → Decides (is_one a b) (a ≡ b)) {R : K → K → Ordering} (order : IsTotalOrder R) (apart : IsAntisymmetric R) where
  abbrev AllHave : K → List X → Type 0
  AllHave text xs = AllByRecursion (λ x. has key is_one decides text x ≡ true) xs

  abbrev AreAbove : K → List X → Type 0
  AreAbove text xs = AllByRecursion (λ x. R text (key x) ≡ Less) xs

  -- the row of the first text is the first elements
  own_row : (text : K) (xs ys : List X) → AllHave text xs → AreAbove text ys → row key is_one decides text (xs ++ ys) ≡ xs
  own_row text [] ys own above = row-none key is_one decides text ys (each (λ y. R text (key y) ≡ Less) (λ y. key y ≡ text → ⊥) (λ y l e. not_less key is_one decides order apart text (key y) l (sym e)) ys above)
  own_row text (x ∷ xs) ys own above =
      ap (λ (b : Bool). cond b (x ∷ row key is_one decides text (xs ++ ys)) (row key is_one decides text (xs ++ ys))) own.0 ∙ ap (λ (rest : List X). x ∷ rest) (own_row text xs ys own.1 above)

  -- the row of a higher text is that of the others
  later_row : (text later : K) (xs ys : List X) → R text later ≡ Less → AllHave text xs → row key is_one decides later (xs ++ ys) ≡ row key is_one decides later ys
  later_row text later [] ys l own = refl
  later_row text later (x ∷ xs) ys l own =
      let same : key x ≡ text = (decides (key x) text).0 own.0 in
      let not : has key is_one decides later x ≡ false = is_false (has key is_one decides later x) (λ e. not_less key is_one decides order apart text later l (sym same ∙ (decides (key x) later).0 e)) in
      ap (λ (b : Bool). cond b (x ∷ row key is_one decides later (xs ++ ys)) (row key is_one decides later (xs ++ ys))) not ∙ later_row text later xs ys l own.1

  -- the texts of elements that all have one text
  one_text : (text q : K) (x : X) (xs : List X) → AllHave text (x ∷ xs) → among R q (map key (x ∷ xs)) ≡ eq_by_cmp R q text
  one_text text q x xs own =
      both_ways (among R q (map key (x ∷ xs))) (eq_by_cmp R q text)
      (λ h. each_text key is_one decides (λ t. eq_by_cmp R q t ≡ true → eq_by_cmp R q text ≡ true) R apart (x ∷ xs) (each (λ y. has key is_one decides text y ≡ true) (λ y. eq_by_cmp R q (key y) ≡ true → eq_by_cmp R q text ≡ true) (λ y e h. ap (eq_by_cmp R q) (sym ((decides (key y) text).0 e)) ∙ h) (x ∷ xs) own) q h ((Equal-is (R q q)).1 (tied_itself order q)))
      (λ h. ap (λ (b : Bool). b || among R q (map key xs)) (ap (eq_by_cmp R q) ((decides (key x) text).0 own.0) ∙ h))

  -- all texts are the first one, and then those of the others
  alike : (text q : K) (x : X) (xs ys : List X) → AllHave text (x ∷ xs) → among R q (map key ((x ∷ xs) ++ ys)) ≡ among R q (text ∷ once R (map key ys))
  alike text q x xs ys own =
      ap (among R q) (map-append key (x ∷ xs) ys)
      ∙ list_any-append (eq_by_cmp R q) (map key (x ∷ xs)) (map key ys)
      ∙ ap (λ (b : Bool). b || among R q (map key ys)) (one_text text q x xs own)
      ∙ ap (λ (b : Bool). eq_by_cmp R q text || b) (sym (among-once order apart (map key ys) q))

  rises : (text : K) (ys : List X) → AreAbove text ys → IsStrictlySortedBy R (text ∷ once R (map key ys))
  unfolding IsStrictlySortedBy
  rises text ys above = (
    each_among key is_one decides order apart (λ t. R text t ≡ Less) (once R (map key ys)) (λ t there. each_text key is_one decides (λ u. R text u ≡ Less) R apart ys above t (sym (among-once order apart (map key ys) t) ∙ there)),
    once-rises R (map key ys),
  )

  texts_of : (text : K) (x : X) (xs ys : List X) → AllHave text (x ∷ xs) → AreAbove text ys → once R (map key ((x ∷ xs) ++ ys)) ≡ text ∷ once R (map key ys)
  texts_of text x xs ys own above =
      same_once order apart (map key ((x ∷ xs) ++ ys)) (text ∷ once R (map key ys)) (λ q. alike text q x xs ys own)
      ∙ once-is order apart (text ∷ once R (map key ys)) (rises text ys above)

  -- what is made of each text and its row: of the first, and then of the others
  first_row : {G : Type 0} (make : K → List X → G) (text : K) (x : X) (xs ys : List X) → AllHave text (x ∷ xs) → AreAbove text ys
      → map (λ t. make t (row key is_one decides t ((x ∷ xs) ++ ys))) (once R (map key ((x ∷ xs) ++ ys))) ≡ make text (x ∷ xs) ∷ map (λ t. make t (row key is_one decides t ys)) (once R (map key ys))
  first_row {G} make text x xs ys own above =
      ap (map (λ t. make t (row key is_one decides t ((x ∷ xs) ++ ys)))) (texts_of text x xs ys own above)
      ∙ ap (λ (zs : List X). make text zs ∷ map (λ t. make t (row key is_one decides t ((x ∷ xs) ++ ys))) (once R (map key ys))) (own_row text (x ∷ xs) ys own above)
      ∙ ap (λ (gs : List G). make text (x ∷ xs) ∷ gs)
      (map_same (λ t. make t (row key is_one decides t ((x ∷ xs) ++ ys))) (λ t. make t (row key is_one decides t ys)) (once R (map key ys))
      (each_among key is_one decides order apart (λ t. make t (row key is_one decides t ((x ∷ xs) ++ ys)) ≡ make t (row key is_one decides t ys)) (once R (map key ys))
      (λ t there. ap (make t) (later_row text t (x ∷ xs) ys (each_text key is_one decides (λ u. R text u ≡ Less) R apart ys above t (sym (among-once order apart (map key ys) t) ∙ there)) own))))

  -- two texts of which neither comes before the other are one
  one_if : (a b : K) → is_lt (R a b) ≡ false → is_lt (R b a) ≡ false → a ≡ b
  one_if a b h k = by_case (R a b) refl
    where
      by_case : (r : Ordering) → R a b ≡ r → a ≡ b
      by_case Less e = let p : true ≡ false = sym (ap is_lt e) ∙ h in cc
      by_case Equal e = apart a b e
      by_case Greater e = let p : true ≡ false = sym (ap is_lt (order.antisymm b a ∙ ap ordering_reverse e)) ∙ k in cc

  -- what does not come before a text, and is another one, comes after it
  above_if : (a b : K) → is_lt (R b a) ≡ false → (b ≡ a → ⊥) → R a b ≡ Less
  above_if a b h other = by_case (R a b) refl
    where
      by_case : (r : Ordering) → R a b ≡ r → R a b ≡ Less
      by_case Less e = e
      by_case Equal e = absurd (other (sym (apart a b e)))
      by_case Greater e = let p : true ≡ false = sym (ap is_lt (order.antisymm b a ∙ ap ordering_reverse e)) ∙ h in cc

  abbrev IsInOrder : List X → Type 0
  IsInOrder xs = IsSortedBy (λ a b. is_lt (R (key a) (key b))) xs

  far : (x : X) (xs : List X) (i : ℕ) (d : X) → IsInOrder (x ∷ xs) → i < length (x ∷ xs) → is_lt (R (key (get_or (x ∷ xs) i d)) (key x)) ≡ false
  far x xs i d up l = sorted_far (λ a b. is_lt (R (key a) (key b))) (ranks_by order key) (x ∷ xs) up 0 i d (omega arith) l

  -- the elements of the first text stand before all others
  pub first_apart : (x : X) (xs : List X) → IsInOrder (x ∷ xs) → IsPartitionedBy (has key is_one decides (key x)) (x ∷ xs)
  first_apart x xs up i j d l m e =
      let later : key (get_or (x ∷ xs) j d) ≡ key x = (decides (key (get_or (x ∷ xs) j d)) (key x)).0 e in
      let low : is_lt (R (key x) (key (get_or (x ∷ xs) i d))) ≡ false =
      ap (λ t. is_lt (R t (key (get_or (x ∷ xs) i d)))) (sym later) ∙ sorted_far (λ a b. is_lt (R (key a) (key b))) (ranks_by order key) (x ∷ xs) up i j d l m in
      (decides (key (get_or (x ∷ xs) i d)) (key x)).1 (one_if (key (get_or (x ∷ xs) i d)) (key x) (far x xs i d up (omega arith)) low)

  own_front : (text : K) (xs : List X) (end : ℕ) → AllWithin (λ x. has key is_one decides text x ≡ true) xs 0 end → AllHave text (take end xs)
  own_front text xs end h = from_indices (λ x. has key is_one decides text x ≡ true) (take end xs) (λ k d l.
      let short : length (take end xs) ≡ min end (length xs) = length-take end xs in
      ap (has key is_one decides text) (get_or-take end xs k d (omega arith)) ∙ h k d (omega arith) (omega arith))

  above_back : (x : X) (xs : List X) (end : ℕ) → IsInOrder (x ∷ xs) → AllWithin (λ y. has key is_one decides (key x) y ≡ false) (x ∷ xs) end (length (x ∷ xs)) → AreAbove (key x) (drop end (x ∷ xs))
  above_back x xs end up h = from_indices (λ y. R (key x) (key y) ≡ Less) (drop end (x ∷ xs)) (λ k d l.
      let short : length (drop end (x ∷ xs)) ≡ length (x ∷ xs) - end = length-drop end (x ∷ xs) in
      let within : end + k < length (x ∷ xs) = omega arith in
      let other : has key is_one decides (key x) (get_or (x ∷ xs) (end + k) d) ≡ false = h (end + k) d (omega arith) within in
      ap (λ y. R (key x) (key y)) (get_or-drop end (x ∷ xs) k d)
      ∙ above_if (key x) (key (get_or (x ∷ xs) (end + k) d)) (far x xs (end + k) d up within) (λ e. let q : has key is_one decides (key x) (get_or (x ∷ xs) (end + k) d) ≡ true = (decides (key (get_or (x ∷ xs) (end + k) d)) (key x)).1 e in cc))

  -- what is made of each text and its row, where the first row ends
  pub first_run : {G : Type 0} (make : K → List X → G) (x : X) (xs : List X) (end : ℕ) → IsInOrder (x ∷ xs)
      → AllWithin (λ y. has key is_one decides (key x) y ≡ true) (x ∷ xs) 0 end → AllWithin (λ y. has key is_one decides (key x) y ≡ false) (x ∷ xs) end (length (x ∷ xs))
      → map (λ t. make t (row key is_one decides t (x ∷ xs))) (once R (map key (x ∷ xs))) ≡ make (key x) (take end (x ∷ xs)) ∷ map (λ t. make t (row key is_one decides t (drop end (x ∷ xs)))) (once R (map key (drop end (x ∷ xs))))
  first_run make x xs zero up own others =
      let q : has key is_one decides (key x) x ≡ true = (decides (key x) (key x)).1 refl in
      let p : has key is_one decides (key x) x ≡ false = others 0 x (omega arith) (omega arith) in cc
  first_run {G} make x xs (suc n) up own others =
      ap (λ (zs : List X). map (λ t. make t (row key is_one decides t zs)) (once R (map key zs))) (sym (take-append-drop (suc n) (x ∷ xs)))
      ∙ first_row make (key x) x (take n xs) (drop (suc n) (x ∷ xs)) (own_front (key x) (x ∷ xs) (suc n) own) (above_back x xs (suc n) up others)
