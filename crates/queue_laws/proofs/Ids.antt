-- Elements by a number that each has, as its id.
use Rattle.std.proofs.Common.{◌≡◌, ◌≢◌, ℕ, zero, suc, ◌<◌, Bool, true, false, not, ◌==◌, cond, List, [], ◌∷◌, ◌++◌, length, take, drop, get_or, Some, refl, ap, sym, ◌∙◌, arith}
use Rattle.std.specs.Prelude.{AllPairs, slice_get}
use Rattle.std.specs.List.{filter}
use Rattle.std.proofs.lemmas.List.Elements.{filter-append}
use Rattle.std.proofs.lemmas.Option.{get_or_from_slice_get, slice_get_within}

kept-first : {X : Type 0} (b : Bool) (x : X) (xs ys : List X) → b ≡ true → xs ≡ ys → cond b (x ∷ xs) xs ≡ x ∷ ys
kept-first {X} true x xs ys b same = ap (λ (l : List X). x ∷ l) same
kept-first false x xs ys b same = cc

left-first : {X : Type 0} (b : Bool) (x : X) (xs ys : List X) → b ≡ false → xs ≡ ys → cond b (x ∷ xs) xs ≡ ys
left-first true x xs ys b same = cc
left-first false x xs ys b same = same

-- a filter that all pass, and one that none does
pub filter-all : {X : Type 0} (p : X → Bool) (xs : List X) → ((k : ℕ) (d : X) → k < length xs → p (get_or xs k d) ≡ true) → filter p xs ≡ xs
filter-all p [] all = refl
filter-all p (x ∷ xs) all = kept-first (p x) x (filter p xs) xs (all 0 x (omega arith)) (filter-all p xs (λ k d l. all (suc k) d (omega arith)))

pub filter-none : {X : Type 0} (p : X → Bool) (xs : List X) → ((k : ℕ) (d : X) → k < length xs → p (get_or xs k d) ≡ false) → filter p xs ≡ []
filter-none p [] none = refl
filter-none p (x ∷ xs) none = left-first (p x) x (filter p xs) [] (none 0 x (omega arith)) (filter-none p xs (λ k d l. none (suc k) d (omega arith)))

module _ {X : Type 0} (id : X → ℕ) where
  abbrev pub Apart : List X → Type 0
  Apart xs = AllPairs (λ x y. id x ≢ id y) xs

  apart-tail : (x : X) (xs : List X) → Apart (x ∷ xs) → Apart xs
  apart-tail x xs apart i j d below within = apart (suc i) (suc j) d (omega arith) (omega arith)

  -- the elements but those with a number
  abbrev pub without : ℕ → List X → List X
  without n xs = filter (λ x. not (id x == n)) xs

  -- one that has the number leaves, and no other has it
  pub taken-out : (xs : List X) (at n : ℕ) (x : X) → Apart xs → slice_get xs at ≡ Some x → id x ≡ n → take at xs ++ drop (suc at) xs ≡ without n xs
  taken-out [] at n x apart here is = cc
  taken-out (y ∷ ys) zero n x apart here is =
      let same : y ≡ x = cc in
      let own : id y ≡ n = ap id same ∙ is in
      let passes : not (id y == n) ≡ false = grind arith in
      sym (left-first (not (id y == n)) y (without n ys) ys passes (filter-all (λ z. not (id z == n)) ys
      (λ k d l. let other : id y ≢ id (get_or ys k d) = apart 0 (suc k) d (omega arith) (omega arith) in grind arith)))
  taken-out (y ∷ ys) (suc at) n x apart here is =
      let l : at < length ys = slice_get_within ys at x here in
      let there : get_or ys at y ≡ x = get_or_from_slice_get ys at x y here in
      let other : id y ≢ id (get_or ys at y) = apart 0 (suc at) y (omega arith) (omega arith) in
      let has : id (get_or ys at y) ≡ n = ap id there ∙ is in
      let passes : not (id y == n) ≡ true = grind arith in
      sym (kept-first (not (id y == n)) y (without n ys) (take at ys ++ drop (suc at) ys) passes (sym (taken-out ys at n x (apart-tail y ys apart) here is)))

  -- where one element between others leaves or comes, those with other numbers stay
  pub without-one : (a b : List X) (x : X) (n : ℕ) → id x ≡ n → without n (a ++ (x ∷ b)) ≡ without n (a ++ b)
  without-one a b x n is =
      let passes : not (id x == n) ≡ false = grind arith in
      filter-append (λ z. not (id z == n)) a (x ∷ b) ∙ ap (λ l. without n a ++ l) (left-first (not (id x == n)) x (without n b) (without n b) passes refl)
      ∙ sym (filter-append (λ z. not (id z == n)) a b)

  -- two positions of one number are one position
  pub one-position : (xs : List X) (i j : ℕ) (x y : X) → Apart xs → slice_get xs i ≡ Some x → slice_get xs j ≡ Some y → id x ≡ id y → i ≡ j
  one-position xs i j x y apart at_i at_j same =
      let li : i < length xs = slice_get_within xs i x at_i in
      let lj : j < length xs = slice_get_within xs j y at_j in
      let gi : get_or xs i x ≡ x = get_or_from_slice_get xs i x x at_i in
      let gj : get_or xs j x ≡ y = get_or_from_slice_get xs j y x at_j in
      let equal : id (get_or xs i x) ≡ id (get_or xs j x) = ap id gi ∙ same ∙ ap id (sym gj) in
      let not_before : i < j → ⊥ = λ l. apart i j x l lj equal in
      let not_behind : j < i → ⊥ = λ l. apart j i x l li (sym equal) in
      grind arith
