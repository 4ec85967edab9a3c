-- Lists in rows: the elements of one key in the order that they have, then those of the next key.
use Rattle.std.proofs.Common.{◌≡◌, ◌∙◌, ℕ, suc, ◌+◌, ◌<◌, Bool, true, false, cond, ◌||◌, List, [], ◌∷◌, ◌++◌, map, reverse, length, get_or, refl, sym, ap, subst, inl, inr, arith}
use Rattle.std.specs.Bool.{Decides}
use Rattle.std.specs.List.{filter, flat_map, list_any, sum_by, AllByRecursion}
use Rattle.std.specs.List.Sorted.{IsStrictlySortedBy, IsSortedBy}
use Rattle.std.specs.Ordering.{eq_by_cmp, is_lt, flip_args, ordering_reverse}
use Rattle.std.specs.declared.cmp.Ordering.{Ordering}
use Rattle.std.specs.declared.cmp.Ordering.TheVariants.{Less, Equal, Greater}
use Rattle.std.specs.Cmp.{IsTotalOrder, Equal-is, tied_itself, alike_right}
use Rattle.std.specs.FinMap.{IsAntisymmetric}
use Rattle.std.proofs.lemmas.Bool.{cases_Bool}
use Rattle.std.proofs.lemmas.Grind.{reverse_onto}
use Rattle.std.proofs.lemmas.List.MinMax.{ranks_by}
use Rattle.std.proofs.lemmas.List.Sums.{sum_by-cons}
use Rattle.std.proofs.lemmas.List.Sorted.{sorted_far}

pub is_false : (b : Bool) → (b ≡ true → ⊥) → b ≡ false
is_false true h = absurd (h refl)
is_false false h = refl

-- ---- what holds of each element

pub each : {A : Type 0} (P Q : A → Type 0) → ((a : A) → P a → Q a) → (xs : List A) → AllByRecursion P xs → AllByRecursion Q xs
each P Q f [] h = tt
each P Q f (x ∷ xs) h = (f x h.0, each P Q f xs h.1)

pub each-behind : {A B : Type 0} (P : B → Type 0) (f : A → B) (xs : List A) → AllByRecursion P (map f xs) → AllByRecursion (λ x. P (f x)) xs
each-behind P f [] h = tt
each-behind P f (x ∷ xs) h = (h.0, each-behind P f xs h.1)

pub each_one : {A : Type 0} (P : A → Type 0) → ((a : A) → P a) → (xs : List A) → AllByRecursion P xs
each_one P f [] = tt
each_one P f (x ∷ xs) = (f x, each_one P f xs)

pub from_indices : {A : Type 0} (P : A → Type 0) (xs : List A) → ((k : ℕ) (d : A) → k < length xs → P (get_or xs k d)) → AllByRecursion P xs
from_indices P [] h = tt
from_indices P (x ∷ xs) h = (h 0 x (omega arith), from_indices P xs (λ k d l. h (suc k) d (omega arith)))

each-push : {A : Type 0} (P : A → Type 0) (xs : List A) (y : A) → AllByRecursion P xs → P y → AllByRecursion P (xs ++ y ∷ [])
each-push P [] y h one = (one, tt)
each-push P (x ∷ xs) y h one = (h.0, each-push P xs y h.1 one)

each-reverse : {A : Type 0} (P : A → Type 0) (xs : List A) → AllByRecursion P xs → AllByRecursion P (reverse xs)
each-reverse P [] h = tt
each-reverse P (x ∷ xs) h = subst (AllByRecursion P) (sym (reverse_onto xs x [])) (each-push P (reverse xs) x (each-reverse P xs h.1) h.0)

pub map_same : {A B : Type 0} (f g : A → B) (xs : List A) → AllByRecursion (λ x. f x ≡ g x) xs → map f xs ≡ map g xs
map_same f g [] h = refl
map_same {A} {B} f g (x ∷ xs) h = ap (λ (y : B). y ∷ map f xs) h.0 ∙ ap (λ (ys : List B). g x ∷ ys) (map_same f g xs h.1)

-- ---- a list that rises strictly falls the other way round

push_higher : {K : Type 0} (S : K → K → Ordering) (xs : List K) (y : K) → IsStrictlySortedBy S xs → AllByRecursion (λ x. S x y ≡ Less) xs → IsStrictlySortedBy S (xs ++ y ∷ [])
unfolding IsStrictlySortedBy
push_higher S [] y h low = (tt, tt)
push_higher S (x ∷ xs) y h low = (each-push (λ z. S x z ≡ Less) xs y h.0 low.0, push_higher S xs y h.1 low.1)

pub reversed : {K : Type 0} (R : K → K → Ordering) (xs : List K) → IsStrictlySortedBy R xs → IsStrictlySortedBy (flip_args R) (reverse xs)
unfolding IsStrictlySortedBy
reversed R [] h = tt
reversed R (x ∷ xs) h =
    subst (IsStrictlySortedBy (flip_args R)) (sym (reverse_onto xs x []))
    (push_higher (flip_args R) (reverse xs) x (reversed R xs h.1) (each-reverse (λ y. R x y ≡ Less) xs h.0))

-- ---- rows

module _ {X K : Type 0} (key : X → K) (is_one : K → K → Bool) (decides : (a b : K) → Decides (is_one a b) (a ≡ b)) where
  abbrev pub has : K → X → Bool
  has text x = is_one (key x) text

  abbrev pub row : K → List X → List X
  row text xs = filter (has text) xs

  abbrev pub rows : List K → List X → List X
  rows texts xs = flat_map (λ text. row text xs) texts

  lacks : (x : X) (text : K) → (key x ≡ text → ⊥) → has text x ≡ false
  lacks x text h = is_false (has text x) (λ e. h ((decides (key x) text).0 e))

  -- an element stands in no row of another text
  skip : (y : X) (texts : List K) (ys : List X) → AllByRecursion (λ text. key y ≡ text → ⊥) texts → rows texts (y ∷ ys) ≡ rows texts ys
  skip y [] ys h = refl
  skip y (t ∷ ts) ys h =
      ap (λ (b : Bool). cond b (y ∷ row t ys) (row t ys) ++ rows ts (y ∷ ys)) (lacks y t h.0)
      ∙ ap (λ (rest : List X). row t ys ++ rest) (skip y ts ys h.1)

  pub row-none : (text : K) (ys : List X) → AllByRecursion (λ y. key y ≡ text → ⊥) ys → row text ys ≡ []
  row-none t [] h = refl
  row-none t (y ∷ ys) h = ap (λ (b : Bool). cond b (y ∷ row t ys) (row t ys)) (lacks y t h.0) ∙ row-none t ys h.1

  -- rows of equal lists by their texts
  pub rows_same : (texts : List K) (xs ys : List X) → AllByRecursion (λ text. row text xs ≡ row text ys) texts → rows texts xs ≡ rows texts ys
  rows_same [] xs ys h = refl
  rows_same (t ∷ ts) xs ys h = ap (λ (front : List X). front ++ rows ts xs) h.0 ∙ ap (λ (rest : List X). row t ys ++ rest) (rows_same ts xs ys h.1)

  rows-none : (texts : List K) → rows texts [] ≡ []
  rows-none [] = refl
  rows-none (t ∷ ts) = rows-none ts

  -- what is true of each text of an element is true of each text of the list
  pub each_text : (P : K → Type 0) (R : K → K → Ordering) → IsAntisymmetric R → (xs : List X) → AllByRecursion (λ x. P (key x)) xs → (text : K) → list_any (eq_by_cmp R text) (map key xs) ≡ true → P text
  each_text P R apart [] h text there = cc
  each_text P R apart (x ∷ xs) h text there = elim (cases_Bool (eq_by_cmp R text (key x))) [
    | inl e ↦ subst P (sym (apart text (key x) ((Equal-is (R text (key x))).0 e))) h.0
    | inr e ↦ each_text P R apart xs h.1 text (ap (λ (b : Bool). b || list_any (eq_by_cmp R text) (map key xs)) (sym e) ∙ there)
  ]

  module _ {R : K → K → Ordering} (order : IsTotalOrder R) (apart : IsAntisymmetric R) where
    pub not_less : (a b : K) → R a b ≡ Less → a ≡ b → ⊥
    not_less a b l e = let q : R a b ≡ Equal = ap (R a) (sym e) ∙ tied_itself order a in cc

    -- what is not before b is after all that is before b
    less_on : (a b x : K) → R a b ≡ Less → is_lt (R x b) ≡ false → R a x ≡ Less
    less_on a b x l h = by_case (R b x) refl
      where
        by_case : (r : Ordering) → R b x ≡ r → R a x ≡ Less
        by_case Less e = order.trans a b x l e
        by_case Equal e = sym (alike_right order b x a e) ∙ l
        by_case Greater e =
            let q : R x b ≡ Less = order.antisymm x b ∙ ap ordering_reverse e in
            let p : true ≡ false = sym (ap is_lt q) ∙ h in cc

    other : (a b : K) → is_one a b ≡ false → eq_by_cmp R a b ≡ false
    other a b e = is_false (eq_by_cmp R a b) (λ h. let q : is_one a b ≡ true = (decides a b).1 (apart a b ((Equal-is (R a b)).0 h)) in cc)

    at_one : (P : K → Type 0) (text : K) (texts : List K) → list_any (eq_by_cmp R text) texts ≡ true → AllByRecursion P texts → P text
    at_one P text [] there h = cc
    at_one P text (t ∷ ts) there h = elim (cases_Bool (eq_by_cmp R text t)) [
      | inl e ↦ subst P (sym (apart text t ((Equal-is (R text t)).0 e))) h.0
      | inr e ↦ at_one P text ts (ap (λ (b : Bool). b || list_any (eq_by_cmp R text) ts) (sym e) ∙ there) h.1
    ]

    -- what holds of each text of a list by the test
    pub each_among : (P : K → Type 0) (texts : List K) → ((text : K) → list_any (eq_by_cmp R text) texts ≡ true → P text) → AllByRecursion P texts
    each_among P [] h = tt
    each_among P (t ∷ ts) h = (
      h t (ap (λ (b : Bool). b || list_any (eq_by_cmp R t) ts) ((Equal-is (R t t)).1 (tied_itself order t))),
      each_among P ts (λ text there. h text (or_later (eq_by_cmp R text t) (list_any (eq_by_cmp R text) ts) there)),
    )
      where
        or_later : (a b : Bool) → b ≡ true → a || b ≡ true
        or_later true b e = refl
        or_later false b e = e

    -- an element that none of the others comes before stands before all rows of the others
    stands_first : (texts : List K) (y : X) (ys : List X) → IsStrictlySortedBy R texts → list_any (eq_by_cmp R (key y)) texts ≡ true → AllByRecursion (λ x. is_lt (R (key x) (key y)) ≡ false) ys → rows texts (y ∷ ys) ≡ y ∷ rows texts ys
    unfolding IsStrictlySortedBy
    stands_first [] y ys up there above = cc
    stands_first (t ∷ ts) y ys up there above = elim (cases_Bool (has t y)) [
      | inl e ↦
          let same : key y ≡ t = (decides (key y) t).0 e in
          ap (λ (b : Bool). cond b (y ∷ row t ys) (row t ys) ++ rows ts (y ∷ ys)) e
          ∙ ap (λ (rest : List X). (y ∷ row t ys) ++ rest) (skip y ts ys (each (λ u. R t u ≡ Less) (λ u. key y ≡ u → ⊥) (λ u l k. not_less t u l (sym same ∙ k)) ts up.0))
      | inr e ↦
          let later : list_any (eq_by_cmp R (key y)) ts ≡ true = ap (λ (b : Bool). b || list_any (eq_by_cmp R (key y)) ts) (sym (other (key y) t e)) ∙ there in
          let low : R t (key y) ≡ Less = at_one (λ u. R t u ≡ Less) (key y) ts later up.0 in
          let empty : row t ys ≡ [] = row-none t ys (each (λ x. is_lt (R (key x) (key y)) ≡ false) (λ x. key x ≡ t → ⊥) (λ x h k. not_less t (key x) (less_on t (key y) (key x) low h) (sym k)) ys above) in
          ap (λ (b : Bool). cond b (y ∷ row t ys) (row t ys) ++ rows ts (y ∷ ys)) e
          ∙ ap (λ (front : List X). front ++ rows ts (y ∷ ys)) empty
          ∙ stands_first ts y ys up.1 later above
          ∙ ap (λ (front : List X). y ∷ (front ++ rows ts ys)) (sym empty)
    ]

    -- each element counts in one row
    abbrev long : List X → K → ℕ
    long ys text = length (row text ys)

    counts_skip : (y : X) (texts : List K) (ys : List X) → AllByRecursion (λ text. key y ≡ text → ⊥) texts → sum_by (long (y ∷ ys)) texts ≡ sum_by (long ys) texts
    counts_skip y [] ys h = refl
    counts_skip y (t ∷ ts) ys h =
        sum_by-cons (long (y ∷ ys)) t ts
        ∙ ap (λ (b : Bool). length (cond b (y ∷ row t ys) (row t ys)) + sum_by (long (y ∷ ys)) ts) (lacks y t h.0)
        ∙ ap (λ n. length (row t ys) + n) (counts_skip y ts ys h.1)
        ∙ sym (sum_by-cons (long ys) t ts)

    counts_one : (texts : List K) (y : X) (ys : List X) → IsStrictlySortedBy R texts → list_any (eq_by_cmp R (key y)) texts ≡ true → sum_by (long (y ∷ ys)) texts ≡ suc (sum_by (long ys) texts)
    unfolding IsStrictlySortedBy
    counts_one [] y ys up there = cc
    counts_one (t ∷ ts) y ys up there =
        let more : sum_by (long (y ∷ ys)) (t ∷ ts) ≡ length (row t (y ∷ ys)) + sum_by (long (y ∷ ys)) ts = sum_by-cons (long (y ∷ ys)) t ts in
        let less : sum_by (long ys) (t ∷ ts) ≡ length (row t ys) + sum_by (long ys) ts = sum_by-cons (long ys) t ts in
        elim (cases_Bool (has t y)) [
          | inl e ↦
              let same : key y ≡ t = (decides (key y) t).0 e in
              let front : length (row t (y ∷ ys)) ≡ suc (length (row t ys)) = ap (λ (b : Bool). length (cond b (y ∷ row t ys) (row t ys))) e in
              let back : sum_by (long (y ∷ ys)) ts ≡ sum_by (long ys) ts = counts_skip y ts ys (each (λ u. R t u ≡ Less) (λ u. key y ≡ u → ⊥) (λ u l k. not_less t u l (sym same ∙ k)) ts up.0) in
              omega arith
          | inr e ↦
              let later : list_any (eq_by_cmp R (key y)) ts ≡ true = ap (λ (b : Bool). b || list_any (eq_by_cmp R (key y)) ts) (sym (other (key y) t e)) ∙ there in
              let front : length (row t (y ∷ ys)) ≡ length (row t ys) = ap (λ (b : Bool). length (cond b (y ∷ row t ys) (row t ys))) e in
              let back : sum_by (long (y ∷ ys)) ts ≡ suc (sum_by (long ys) ts) = counts_one ts y ys up.1 later in
              omega arith
        ]

    counts_none : (texts : List K) → sum_by (long []) texts ≡ 0
    counts_none [] = refl
    counts_none (t ∷ ts) =
        let more : sum_by (long []) (t ∷ ts) ≡ 0 + sum_by (long []) ts = sum_by-cons (long []) t ts in
        let rest : sum_by (long []) ts ≡ 0 = counts_none ts in
        omega arith

    pub counts_all : (texts : List K) (ys : List X) → IsStrictlySortedBy R texts → AllByRecursion (λ y. list_any (eq_by_cmp R (key y)) texts ≡ true) ys → sum_by (λ t. length (row t ys)) texts ≡ length ys
    counts_all ts [] up there = counts_none ts
    counts_all ts (y ∷ ys) up there = counts_one ts y ys up there.0 ∙ ap suc (counts_all ts ys up there.1)

    -- no element comes before an earlier one
    abbrev pub Rises : List X → Type 0
    Rises [] = Unit {0}
    Rises (y ∷ ys) = AllByRecursion (λ x. is_lt (R (key x) (key y)) ≡ false) ys × Rises ys

    pub rises_from : (xs : List X) → IsSortedBy (λ a b. is_lt (R (key a) (key b))) xs → Rises xs
    rises_from [] up = tt
    rises_from (y ∷ ys) up = (
      from_indices (λ x. is_lt (R (key x) (key y)) ≡ false) ys (λ k d l. sorted_far (λ a b. is_lt (R (key a) (key b))) (ranks_by order key) (y ∷ ys) up 0 (suc k) d (omega arith) (omega arith)),
      rises_from ys (λ k d low high.
          let e : suc k + 1 ≡ suc (k + 1) = omega arith in
          subst (λ n. is_lt (R (key (get_or (y ∷ ys) n d)) (key (get_or ys k d))) ≡ false) e (up (suc k) d (omega arith) (omega arith))),
    )

    -- a list that rises is its rows, in the order of all its texts
    pub in_rows : (texts : List K) (ys : List X) → IsStrictlySortedBy R texts → AllByRecursion (λ y. list_any (eq_by_cmp R (key y)) texts ≡ true) ys → Rises ys → rows texts ys ≡ ys
    in_rows ts [] up there rises = rows-none ts
    in_rows ts (y ∷ ys) up there rises = stands_first ts y ys up there.0 rises.0 ∙ ap (λ (rest : List X). y ∷ rest) (in_rows ts ys up there.1 rises.1)
