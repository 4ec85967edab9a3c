-- Songs that share a URI, and the list in byte order.
use Rattle.std.proofs.Common.{◌≡◌, ◌||◌, ℕ, suc, ◌+◌, ◌≤◌, Bool, true, false, cond, List, [], ◌∷◌, get_or, refl, ap, sym, subst, ◌∙◌, inl, inr, arith}
use Rattle.std.specs.Prelude.{All, Contains, IsPermutation, sum_by}
use Rattle.std.specs.List.{list_any}
use Rattle.std.specs.Bool.{OnFalse}
use Rattle.std.specs.List.Sorted.{IsSortedBy}
use Rattle.std.specs.Ordering.{is_lt, is_eq}
use Rattle.std.specs.declared.cmp.Ordering.{Ordering}
use Rattle.std.specs.declared.cmp.Ordering.TheVariants.{Less, Equal, Greater}
use Rattle.std.proofs.lemmas.Bool.{cond-true, cond-false, cases_Bool, or_parts}
use Rattle.std.proofs.lemmas.List.Elements.{All-contains_itself}
use Rattle.std.proofs.lemmas.List.Sorted.{All-permutation, sum_by-IsPermutation, IsPermutation-sym}
use Rattle.std.proofs.lemmas.List.Sums.{sum_by-cons}
use Rattle.mpd_text.specs.Songs.Song.{SongData}
use Rattle.song_db.specs.Library.{by_uri, same_uri, is_twice_named, are_twins_beside, InByteOrder, with_song, in_byte_order}
use Rattle.song_db.proofs.Order.{order, same-is, differ, one_way, before_from, tail, head, cons, All-cons, All-tail, same_songs}

abbrev one_if : Bool → ℕ
one_if true = 1
one_if false = 0

-- how many songs have the URI of one
abbrev named : SongData → List SongData → ℕ
named a xs = sum_by (λ (s : SongData). one_if (same_uri a.uri s.uri)) xs

named-cons : (a x : SongData) (xs : List SongData) → named a (x ∷ xs) ≡ one_if (same_uri a.uri x.uri) + named a xs
named-cons a x xs = sum_by-cons (λ (s : SongData). one_if (same_uri a.uri s.uri)) x xs

none_named : (a : SongData) (xs : List SongData) → list_any (λ (s : SongData). same_uri a.uri s.uri) xs ≡ false → named a xs ≡ 0
none_named a [] h = refl
none_named a (x ∷ xs) h =
    let both = or_parts (same_uri a.uri x.uri) (list_any (λ (s : SongData). same_uri a.uri s.uri) xs) h in
    let rest : named a xs ≡ 0 = none_named a xs both.1 in
    let here : one_if (same_uri a.uri x.uri) ≡ 0 = ap one_if both.0 in
    let step = named-cons a x xs in
    omega arith

some_named : (a : SongData) (xs : List SongData) → list_any (λ (s : SongData). same_uri a.uri s.uri) xs ≡ true → 1 ≤ named a xs
some_named a [] h = cc
some_named a (x ∷ xs) h =
    let step = named-cons a x xs in
    elim (cases_Bool (same_uri a.uri x.uri)) [
      | inl t ↦ let here : one_if (same_uri a.uri x.uri) ≡ 1 = ap one_if t in omega arith
      | inr f ↦
          let rest : list_any (λ (s : SongData). same_uri a.uri s.uri) xs ≡ true = sym (ap (λ b. b || list_any (λ (s : SongData). same_uri a.uri s.uri) xs) f) ∙ h in
          let more : 1 ≤ named a xs = some_named a xs rest in
          omega arith
    ]

-- where a URI comes twice, some song's name comes twice
pub twice : (xs : List SongData) → is_twice_named xs ≡ true → (a : SongData) × (2 ≤ named a xs)
twice [] h = cc
twice (x ∷ xs) h = elim (cases_Bool (list_any (λ (s : SongData). same_uri x.uri s.uri) xs)) [
  | inl t ↦
      let own : one_if (same_uri x.uri x.uri) ≡ 1 = ap one_if (same-self x) in
      let step = named-cons x x xs in
      let more : 1 ≤ named x xs = some_named x xs t in
      (x, omega arith)
  | inr f ↦
      let rest : is_twice_named xs ≡ true = sym (ap (λ b. b || is_twice_named xs) f) ∙ h in
      let found = twice xs rest in
      let more : 2 ≤ named found.0 xs = found.1 in
      let step = named-cons found.0 x xs in
      (found.0, omega arith)
]
  where
    same-self : (x : SongData) → same_uri x.uri x.uri ≡ true
    same-self x = elim (cases_Bool (same_uri x.uri x.uri)) [
      | inl t ↦ t
      | inr f ↦ elim (cases_Bool (is_lt (by_uri x x))) [
        | inl l ↦ absurd (let less : by_uri x x ≡ Less = is-less (by_uri x x) l in one_way x x less less)
        | inr g ↦ absurd (let less : by_uri x x ≡ Less = before_from x x g f in one_way x x less less)
      ]
    ]
      where
        is-less : (o : Ordering) → is_lt o ≡ true → o ≡ Less
        is-less Less l = refl
        is-less Equal l = cc
        is-less Greater l = cc

-- where none does, each comes at most once
pub once : (xs : List SongData) (a : SongData) → is_twice_named xs ≡ false → named a xs ≤ 1
once [] a h = omega arith
once (x ∷ xs) a h =
    let both = or_parts (list_any (λ (s : SongData). same_uri x.uri s.uri) xs) (is_twice_named xs) h in
    let rest : named a xs ≤ 1 = once xs a both.1 in
    let step = named-cons a x xs in
    elim (cases_Bool (same_uri a.uri x.uri)) [
      | inr f ↦ let here : one_if (same_uri a.uri x.uri) ≡ 0 = ap one_if f in omega arith
      | inl t ↦
          let here : one_if (same_uri a.uri x.uri) ≡ 1 = ap one_if t in
          let others : named a xs ≡ 0 = none_named a xs (as_any xs (λ s. same_as a x s t) ∙ both.0) in
          omega arith
    ]
  where
    is-equal : (o : Ordering) → is_eq o ≡ true → o ≡ Equal
    is-equal Less e = cc
    is-equal Equal e = refl
    is-equal Greater e = cc

    same_as : (a x s : SongData) → same_uri a.uri x.uri ≡ true → same_uri a.uri s.uri ≡ same_uri x.uri s.uri
    same_as a x s t = same-is a s ∙ ap is_eq (order.congr a x s (is-equal (by_uri a x) (sym (same-is a x) ∙ t))) ∙ sym (same-is x s)

    as_any : {p q : SongData → Bool} (ys : List SongData) → ((s : SongData) → p s ≡ q s) → list_any p ys ≡ list_any q ys
    as_any [] e = refl
    as_any (y ∷ ys) e = λ i. e y i || as_any ys e i

-- songs of one URI are so in any order
pub twice-permutation : (xs ys : List SongData) → IsPermutation xs ys → is_twice_named xs ≡ is_twice_named ys
twice-permutation xs ys perm = elim (cases_Bool (is_twice_named xs)) [
  | inl t ↦ elim (cases_Bool (is_twice_named ys)) [
    | inl u ↦ t ∙ sym u
    | inr g ↦ let found = twice xs t in absurd (let many : 2 ≤ named found.0 xs = found.1 in let few : named found.0 ys ≤ 1 = once ys found.0 g in let count : named found.0 ys ≡ named found.0 xs = sum_by-IsPermutation _ xs ys perm in omega arith)
  ]
  | inr f ↦ elim (cases_Bool (is_twice_named ys)) [
    | inr g ↦ f ∙ sym g
    | inl u ↦ let found = twice ys u in absurd (let many : 2 ≤ named found.0 ys = found.1 in let few : named found.0 xs ≤ 1 = once xs found.0 f in let count : named found.0 ys ≡ named found.0 xs = sum_by-IsPermutation _ xs ys perm in omega arith)
  ]
]

-- neighbours of one URI are two songs of one URI
pub twice-beside : (xs : List SongData) → are_twins_beside xs ≡ true → is_twice_named xs ≡ true
twice-beside [] h = cc
twice-beside (a ∷ []) h = cc
twice-beside (a ∷ b ∷ xs) h = elim (cases_Bool (same_uri a.uri b.uri)) [
  | inl t ↦ ap (λ x. x || list_any (λ (s : SongData). same_uri a.uri s.uri) xs || is_twice_named (b ∷ xs)) t
  | inr f ↦
      let rest : is_twice_named (b ∷ xs) ≡ true = twice-beside (b ∷ xs) (sym (ap (λ x. x || are_twins_beside (b ∷ xs)) f) ∙ h) in
      either (list_any (λ (s : SongData). same_uri a.uri s.uri) (b ∷ xs)) (is_twice_named (b ∷ xs)) rest
]
  where
    either : (p q : Bool) → q ≡ true → p || q ≡ true
    either true q e = refl
    either false q e = e

-- a sorted list without such neighbours is in byte order
pub in_order : (xs : List SongData) → IsSortedBy (λ a b. is_lt (by_uri a b)) xs → are_twins_beside xs ≡ false → InByteOrder xs
in_order [] sorted h = λ i j d below within. absurd (omega arith)
in_order (a ∷ []) sorted h = λ i j d below within. absurd (omega arith)
in_order (a ∷ b ∷ xs) sorted h =
    let both = or_parts (same_uri a.uri b.uri) (are_twins_beside (b ∷ xs)) h in
    let rest : InByteOrder (b ∷ xs) = in_order (b ∷ xs) (λ k d low high.
    let at : suc k + 1 ≡ suc (k + 1) = omega arith in
    subst (λ n. is_lt (by_uri (get_or (a ∷ b ∷ xs) n d) (get_or (b ∷ xs) k d)) ≡ false) at (sorted (suc k) d (omega arith) (omega arith))) both.1 in
    let first : by_uri a b ≡ Less = before_from a b (sorted 0 a (omega arith) (omega arith)) both.0 in
    cons a (b ∷ xs) (All-cons (λ y. by_uri a y ≡ Less) b xs first (λ k d l. order.trans a b (get_or xs k d) first (head b xs rest k d l))) rest

-- in byte order no URI comes twice
pub distinct : (xs : List SongData) → InByteOrder xs → is_twice_named xs ≡ false
distinct [] h = refl
distinct (x ∷ xs) h = (λ i. none xs (head x xs h) i || distinct xs (tail x xs h) i)
  where
    none : (ys : List SongData) → All (λ y. by_uri x y ≡ Less) ys → list_any (λ (s : SongData). same_uri x.uri s.uri) ys ≡ false
    none [] all = refl
    none (y ∷ ys) all = (λ i. differ x y (all 0 y (omega arith)) i || none ys (All-tail (λ z. by_uri x z ≡ Less) y ys all) i)

-- one more song among others
module _ (P : SongData → Type 0) where
  pub All-with_song : (s : SongData) (xs : List SongData) → P s → All P xs → All P (with_song s xs)
  All-with_song s [] here all = All-cons P s [] here all
  All-with_song s (x ∷ xs) here all = elim (is_lt (by_uri x s)) as (λ b. All P (cond b (x ∷ with_song s xs) (s ∷ x ∷ xs))) [
    | true ↦ All-cons P x (with_song s xs) (all 0 x (omega arith)) (All-with_song s xs here (All-tail P x xs all))
    | false ↦ All-cons P s (x ∷ xs) here all
  ]

  pub All-in_byte_order : (xs : List SongData) → All P xs → All P (in_byte_order xs)
  All-in_byte_order [] all = all
  All-in_byte_order (x ∷ xs) all = All-with_song x (in_byte_order xs) (all 0 x (omega arith)) (All-in_byte_order xs (All-tail P x xs all))

  pub All-without_song : (s : SongData) (xs : List SongData) → All P (with_song s xs) → P s × All P xs
  All-without_song s [] = λ all. (all 0 s (omega arith), λ k d l. absurd (omega arith))
  All-without_song s (x ∷ xs) = elim (is_lt (by_uri x s)) as (λ b. All P (cond b (x ∷ with_song s xs) (s ∷ x ∷ xs)) → P s × All P (x ∷ xs)) [
    | true ↦ λ all. let rest = All-without_song s xs (All-tail P x (with_song s xs) all) in (rest.0, All-cons P x xs (all 0 x (omega arith)) rest.1)
    | false ↦ λ all. (all 0 s (omega arith), All-tail P s (x ∷ xs) all)
  ]

  pub All-from_byte_order : (xs : List SongData) → All P (in_byte_order xs) → All P xs
  All-from_byte_order [] all = all
  All-from_byte_order (x ∷ xs) all = let rest = All-without_song x (in_byte_order xs) all in All-cons P x xs rest.0 (All-from_byte_order xs rest.1)

with_song-order : (s : SongData) (xs : List SongData) → All (λ y. same_uri s.uri y.uri ≡ false) xs → InByteOrder xs → InByteOrder (with_song s xs)
with_song-order s [] other h = λ i j d below within. absurd (omega arith)
with_song-order s (x ∷ xs) other h = elim (cases_Bool (is_lt (by_uri x s))) [
  | inl t ↦
      let less : by_uri x s ≡ Less = is-less (by_uri x s) t in
      let is : with_song s (x ∷ xs) ≡ x ∷ with_song s xs = cond-true _ _ _ t in
      subst InByteOrder (sym is) (cons x (with_song s xs) (All-with_song (λ y. by_uri x y ≡ Less) s xs less (head x xs h))
      (with_song-order s xs (All-tail (λ (y : SongData). same_uri s.uri y.uri ≡ false) x xs other) (tail x xs h)))
  | inr f ↦
      let first : by_uri s x ≡ Less = before_from s x f (other 0 x (omega arith)) in
      let is : with_song s (x ∷ xs) ≡ s ∷ x ∷ xs = cond-false _ _ _ f in
      subst InByteOrder (sym is) (cons s (x ∷ xs) (All-cons (λ y. by_uri s y ≡ Less) x xs first (λ k d l. order.trans s x (get_or xs k d) first (head x xs h k d l))) h)
]
  where
    is-less : (o : Ordering) → is_lt o ≡ true → o ≡ Less
    is-less Less l = refl
    is-less Equal l = cc
    is-less Greater l = cc

-- songs of distinct URIs, put in byte order, are in byte order
pub in_byte_order-order : (xs : List SongData) → is_twice_named xs ≡ false → InByteOrder (in_byte_order xs)
in_byte_order-order [] h = λ i j d below within. absurd (omega arith)
in_byte_order-order (x ∷ xs) h =
    let both = or_parts (list_any (λ (s : SongData). same_uri x.uri s.uri) xs) (is_twice_named xs) h in
    with_song-order x (in_byte_order xs) (All-in_byte_order (λ (y : SongData). same_uri x.uri y.uri ≡ false) xs (none xs both.0)) (in_byte_order-order xs both.1)
  where
    none : (ys : List SongData) → list_any (λ (s : SongData). same_uri x.uri s.uri) ys ≡ false → All (λ (y : SongData). same_uri x.uri y.uri ≡ false) ys
    none [] e = λ k d l. absurd (omega arith)
    none (y ∷ ys) e = let parts = or_parts (same_uri x.uri y.uri) (list_any (λ (s : SongData). same_uri x.uri s.uri) ys) e in All-cons (λ (z : SongData). same_uri x.uri z.uri ≡ false) y ys parts.0 (none ys parts.1)

-- what a sort leaves, where no neighbours have one URI
pub sorted-is : (xs ys : List SongData) → IsPermutation xs ys → IsSortedBy (λ a b. is_lt (by_uri a b)) ys → are_twins_beside ys ≡ false → ys ≡ in_byte_order xs
sorted-is xs ys perm sorted h =
    let rises : InByteOrder ys = in_order ys sorted h in
    let names : is_twice_named xs ≡ false = twice-permutation xs ys perm ∙ distinct ys rises in
    same_songs ys (in_byte_order xs) rises (in_byte_order-order xs names)
    (All-permutation (Contains (in_byte_order xs)) xs ys perm (All-from_byte_order (Contains (in_byte_order xs)) xs (All-contains_itself (in_byte_order xs))))
    (All-in_byte_order (Contains ys) xs (All-permutation (Contains ys) ys xs (IsPermutation-sym xs ys perm) (All-contains_itself ys)))

-- whether the songs that a sort leaves have twins side by side
pub twins-is : (xs ys : List SongData) → IsPermutation xs ys → IsSortedBy (λ a b. is_lt (by_uri a b)) ys → are_twins_beside ys ≡ is_twice_named xs
twins-is xs ys perm sorted = elim (cases_Bool (are_twins_beside ys)) [
  | inl t ↦ t ∙ sym (twice-permutation xs ys perm ∙ twice-beside ys t)
  | inr f ↦ f ∙ sym (twice-permutation xs ys perm ∙ distinct ys (in_order ys sorted f))
]

-- what a sort leaves, by the answer whether it has twins
module _ (xs ys : List SongData) (perm : IsPermutation xs ys) (sorted : IsSortedBy (λ a b. is_lt (by_uri a b)) ys) where
  pub order-by : (r : Bool) → r ≡ are_twins_beside ys → OnFalse r (ys ≡ in_byte_order xs)
  order-by true is = tt
  order-by false is = sorted-is xs ys perm sorted (sym is)

  pub rises-by : (r : Bool) → r ≡ are_twins_beside ys → OnFalse r (InByteOrder ys)
  rises-by true is = tt
  rises-by false is = in_order ys sorted (sym is)
