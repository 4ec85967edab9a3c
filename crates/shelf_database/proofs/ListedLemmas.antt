-- What is listed by rising keys: each key once, with what the table has at it.
use Rattle.std.proofs.Common.{◌≡◌, ℕ, ◌+◌, List, [], ◌∷◌, map, filter, find, Bool, true, false, ◌&&◌, ◌||◌, Some, option_map, is_some, bytes_eq, refl, sym, ap, ap₂, subst, ◌∙◌, inl, inr, arith, Ordering, nat_cmp}
use Rattle.std.specs.List.{AllByRecursion, IsDistinct, list_any}
use Rattle.std.specs.List.Sorted.{IsPermutation, IsSorted, IsStrictlySortedBy}
use Rattle.std.specs.Map.{lookup}
use Rattle.std.specs.Ordering.{eq_by_cmp}
use Rattle.std.specs.Cmp.Lexicographic.{slice_cmp}
use Rattle.std.proofs.lemmas.Bool.{cases_Bool, and_from}
use Rattle.std.proofs.lemmas.Cmp.{eq_by_cmp_equiv, nat_list_cmp_total, tied_itself}
use Rattle.std.proofs.lemmas.List.{get_or-map}
use Rattle.std.proofs.lemmas.List.Sorted.{Contains-permutation}
use Rattle.std.proofs.lemmas.Map.Keys.{IsDistinct-IsPermutation}
use Rattle.std.proofs.lemmas.Simd.{map-map}
use Rattle.std.proofs.Math.ListN.{length-map}
use Rattle.sqlite.specs.declared.types.Value.{Value}
use Rattle.sqlite.specs.declared.types.Value.TheVariants.{Text}
use Rattle.sqlite.specs.Order.{Row, column, bytes, value_cmp}
use Rattle.sqlite.specs.Tree.{IsTable, rowid}
use Rattle.sqlite_value.proofs.OrderLemmas.{value_cmp_total, value_cmp-Text}
use Rattle.sqlite_rules.specs.Lists.{Has}
use Rattle.sqlite_rules.proofs.ListLemmas.{all_has, all_from, has_filtered, has_kept, has_contained, contains_had}
use Rattle.shelf_database.specs.Tables.{has_text}
use Rattle.shelf_database.proofs.MovedLemmas.{strictly, any_found, find_moved, find_both}
use Rattle.shelf_database.proofs.OnceLemmas.{Once}
use Rattle.shelf_database.proofs.TextLemmas.{same_bytes, bytes_flip}

tie_flips : (a b : Value) → eq_by_cmp value_cmp a b ≡ eq_by_cmp value_cmp b a
tie_flips a b = (eq_by_cmp_equiv value_cmp_total).symm a b

text_cmp : (λ (a b : List ℕ). value_cmp (Text a) (Text b)) ≡ slice_cmp nat_cmp
text_cmp = λ i. λ a b. value_cmp-Text a b i

-- ---- lists of images

module _ {X Y : Type 0} (f : X → Y) where
  pub distinct_images : (e : Y → Y → Bool) (xs : List X) → IsDistinct (λ a b. e (f a) (f b)) xs → IsDistinct e (map f xs)
  unfolding IsDistinct
  distinct_images e [] apart = tt
  distinct_images e (x ∷ xs) apart = (all_images (λ y. e (f x) y ≡ false) xs apart.0, distinct_images e xs apart.1)
    where
      all_images : (P : Y → Type 0) (zs : List X) → AllByRecursion (λ z. P (f z)) zs → AllByRecursion P (map f zs)
      all_images P [] all = tt
      all_images P (z ∷ zs) all = (all.0, all_images P zs all.1)

  pub images_distinct : (e : Y → Y → Bool) (xs : List X) → IsDistinct e (map f xs) → IsDistinct (λ a b. e (f a) (f b)) xs
  unfolding IsDistinct
  images_distinct e [] apart = tt
  images_distinct e (x ∷ xs) apart = (of_images (λ y. e (f x) y ≡ false) xs apart.0, images_distinct e xs apart.1)
    where
      of_images : (P : Y → Type 0) (zs : List X) → AllByRecursion P (map f zs) → AllByRecursion (λ z. P (f z)) zs
      of_images P [] all = tt
      of_images P (z ∷ zs) all = (all.0, of_images P zs all.1)

  pub sorted_images : (R : Y → Y → Ordering) (d : X) (xs : List X) → IsSorted (λ a b. R (f a) (f b)) xs → IsSorted R (map f xs)
  sorted_images R d xs up k e low high =
      let long = length-map xs f in
      let later = get_or-map f xs (k + 1) d e (omega arith) in
      let here = get_or-map f xs k d e (omega arith) in
      rw (later, here) (up k d low (omega arith))

  pub images_sorted : (R : Y → Y → Ordering) (xs : List X) → IsSorted R (map f xs) → IsSorted (λ a b. R (f a) (f b)) xs
  images_sorted R xs up k d low high =
      let long = length-map xs f in
      let later = get_or-map f xs (k + 1) d (f d) (omega arith) in
      let here = get_or-map f xs k d (f d) (omega arith) in
      rw (later, here) at (up k (f d) low (omega arith))

-- ---- the rows that pass a test, each with a text of its own in one column

module _ (at : ℕ) (test : Row → Bool) (both : List ℕ → Row → Bool) (same : (key : List ℕ) (r : Row) → both key r ≡ (test r && has_text at key r))
    (rows : List Row) (up : IsTable rows) (once : (key : List ℕ) → Once (both key) rows) where
  abbrev tie : Row → Row → Bool
  tie a b = eq_by_cmp value_cmp (column a at) (column b at)

  abbrev IsText : Row → Type 0
  IsText r = (text : List ℕ) × (column r at ≡ Text text)

  alone : (a b : Row) → Has rows a → Has rows b → test a ≡ true → test b ≡ true → IsText a → tie a b ≡ true → a ≡ b
  alone a b h k p q text tied =
      let here : has_text at text.0 a ≡ true = ap (λ v. eq_by_cmp value_cmp (column a at) v) (sym text.1) ∙ (eq_by_cmp_equiv value_cmp_total).refl (column a at) in
      let there : has_text at text.0 b ≡ true = ap (λ v. eq_by_cmp value_cmp (column b at) v) (sym text.1) ∙ tie_flips (column b at) (column a at) ∙ tied in
      once text.0 a b h k (same text.0 a ∙ and_from _ _ p here) (same text.0 b ∙ and_from _ _ q there)

  distinct : (left : List Row) → IsTable left → ((r : Row) → Has left r → Has rows r) → ((r : Row) → Has left r → test r ≡ true → IsText r) → IsDistinct tie (filter test left)
  unfolding IsDistinct
  distinct [] rise among texts = tt
  distinct (r ∷ left) rise among texts =
      let rest = distinct left rise.1 (λ y h. among y (inr h)) (λ y h. texts y (inr h)) in
      elim (cases_Bool (test r)) [
        | inl kept ↦ subst (IsDistinct tie) (sym (with_it kept)) (all_from (λ y. tie r y ≡ false) (filter test left) (apart kept), rest)
        | inr gone ↦ subst (IsDistinct tie) (sym (without gone)) rest
      ]
    where
      with_it : test r ≡ true → filter test (r ∷ left) ≡ r ∷ filter test left
      with_it kept = rw kept refl

      without : test r ≡ false → filter test (r ∷ left) ≡ filter test left
      without gone = rw gone refl

      apart : test r ≡ true → (y : Row) → Has (filter test left) y → tie r y ≡ false
      apart kept y h = elim (cases_Bool (tie r y)) [
        | inr other ↦ other
        | inl tied ↦ absurd (
            let behind = has_filtered test left y h in
            let one : r ≡ y = alone r y (among r (inl refl)) (among y (inr behind.0)) kept behind.1 (texts r (inl refl) kept) tied in
            let below = all_has _ left y rise.0 behind.0 in
            let itself = tied_itself value_cmp_total (rowid y) in
            let e = rw one at below in cc)
      ]

  module _ (moved : List Row) (perm : IsPermutation (filter test rows) moved) (keys : List (List ℕ)) (shown : map (λ r. column r at) moved ≡ map Text keys) where
    text_in : (rs : List Row) (ks : List (List ℕ)) → map (λ r. column r at) rs ≡ map Text ks → (r : Row) → Has rs r → IsText r
    text_in [] ks e r h = absurd h
    text_in (x ∷ rs) [] e r h = absurd (cc)
    text_in (x ∷ rs) (k ∷ ks) e r (inl is) = let first : column x at ≡ Text k = cc in (k, ap (λ y. column y at) is ∙ first)
    text_in (x ∷ rs) (k ∷ ks) e r (inr h) = let rest : map (λ r. column r at) rs ≡ map Text ks = cc in text_in rs ks rest r h

    texts : (r : Row) → Has rows r → test r ≡ true → IsText r
    texts r h p = text_in moved keys shown r (has_contained moved r (Contains-permutation (filter test rows) moved r perm (contains_had (filter test rows) r (has_kept test rows r h p))))

    keys_distinct : IsDistinct (eq_by_cmp (slice_cmp nat_cmp)) keys
    keys_distinct =
        let rows_apart = IsDistinct-IsPermutation tie (λ a b. tie_flips (column a at) (column b at)) (filter test rows) moved perm (distinct rows up (λ r h. h) texts) in
        let columns_apart = distinct_images (λ r. column r at) (eq_by_cmp value_cmp) moved rows_apart in
        let texts_apart = images_distinct Text (eq_by_cmp value_cmp) keys (subst (IsDistinct (eq_by_cmp value_cmp)) shown columns_apart) in
        subst (λ (R : List ℕ → List ℕ → Ordering). IsDistinct (eq_by_cmp R) keys) text_cmp texts_apart

    pub keys_rise : IsSorted (λ a b. value_cmp (column a at) (column b at)) moved → IsStrictlySortedBy (slice_cmp nat_cmp) keys
    keys_rise sorted =
        let columns_rise = sorted_images (λ r. column r at) value_cmp [] moved sorted in
        let texts_rise = images_sorted Text value_cmp keys (subst (IsSorted value_cmp) shown columns_rise) in
        strictly nat_list_cmp_total keys (subst (λ (R : List ℕ → List ℕ → Ordering). IsSorted R keys) text_cmp texts_rise) keys_distinct

    key_found : (key : List ℕ) → find (has_text at key) moved ≡ find (both key) rows
    key_found key = find_moved (has_text at key) (filter test rows) moved perm (λ a b h k p q.
        let ha = has_filtered test rows a h in
        let hb = has_filtered test rows b k in
        once key a b ha.0 hb.0 (same key a ∙ and_from _ _ ha.1 p) (same key b ∙ and_from _ _ hb.1 q))
        ∙ find_both (has_text at key) test (both key) (same key) rows

    any_key : (key : List ℕ) (rs : List Row) (ks : List (List ℕ)) → map (λ r. column r at) rs ≡ map Text ks → list_any (bytes_eq key) ks ≡ list_any (has_text at key) rs
    any_key key [] [] e = refl
    any_key key [] (k ∷ ks) e = absurd (cc)
    any_key key (x ∷ rs) [] e = absurd (cc)
    any_key key (x ∷ rs) (k ∷ ks) e =
        let first : column x at ≡ Text k = cc in
        let rest : map (λ r. column r at) rs ≡ map Text ks = cc in
        ap₂ (λ a b. a || b) (bytes_flip key k ∙ sym (same_bytes k key) ∙ ap (λ v. eq_by_cmp value_cmp v (Text key)) (sym first)) (any_key key rs ks rest)

    pub key_listed : (key : List ℕ) → list_any (bytes_eq key) keys ≡ is_some (find (both key) rows)
    key_listed key = any_key key moved keys shown ∙ any_found (has_text at key) moved ∙ ap is_some (key_found key)

  module _ (moved : List Row) (perm : IsPermutation (filter test rows) moved) (entries : List (List ℕ × List ℕ)) (value : ℕ)
      (keys : map (λ r. column r at) moved ≡ map (λ e. Text e.0) entries) (values : map (λ r. column r value) moved ≡ map (λ e. Text e.1) entries) where
    abbrev only_keys : map (λ r. column r at) moved ≡ map Text (map (λ e. e.0) entries)
    only_keys = keys ∙ sym (map-map Text (λ e. e.0) entries)

    looked_up : (key : List ℕ) (rs : List Row) (es : List (List ℕ × List ℕ)) → map (λ r. column r at) rs ≡ map (λ e. Text e.0) es → map (λ r. column r value) rs ≡ map (λ e. Text e.1) es
        → lookup (bytes_eq key) es ≡ option_map (λ r. bytes (column r value)) (find (has_text at key) rs)
    looked_up key [] [] ks vs = refl
    looked_up key [] (e ∷ es) ks vs = absurd (cc)
    looked_up key (x ∷ rs) [] ks vs = absurd (cc)
    looked_up key (x ∷ rs) (e ∷ es) ks vs =
        let first : column x at ≡ Text e.0 = cc in
        let other_keys : map (λ r. column r at) rs ≡ map (λ e. Text e.0) es = cc in
        let text : column x value ≡ Text e.1 = cc in
        let other_values : map (λ r. column r value) rs ≡ map (λ e. Text e.1) es = cc in
        let test_is : bytes_eq key e.0 ≡ has_text at key x = bytes_flip key e.0 ∙ sym (same_bytes e.0 key) ∙ ap (λ v. eq_by_cmp value_cmp v (Text key)) (sym first) in
        let rest = looked_up key rs es other_keys other_values in
        elim (cases_Bool (has_text at key x)) [
          | inl is ↦ rw (test_is, is) (ap Some (sym (ap bytes text)))
          | inr other ↦ rw (test_is, other) rest
        ]

    pub entries_rise : IsSorted (λ a b. value_cmp (column a at) (column b at)) moved → IsStrictlySortedBy (slice_cmp nat_cmp) (map (λ e. e.0) entries)
    entries_rise = keys_rise moved perm (map (λ e. e.0) entries) only_keys

    pub entry_found : (key : List ℕ) → lookup (bytes_eq key) entries ≡ option_map (λ r. bytes (column r value)) (find (both key) rows)
    entry_found key = looked_up key moved entries keys values ∙ ap (option_map (λ r. bytes (column r value))) (key_found moved perm (map (λ e. e.0) entries) only_keys key)
