-- The elements of a list at some of its positions, and what edits of the list leave of them.
use Rattle.std.proofs.Common.{◌≡◌, ◌⊎◌, inl, inr, ℕ, zero, suc, ◌+◌, ◌-◌, ◌<◌, ◌≤◌, Bool, true, false, not, cond, List, [], ◌∷◌, ◌++◌, length, map, take, drop, Some, refl, ap, sym, ◌∙◌, subst, arith}
use Rattle.std.specs.Prelude.{Contains, slice_get}
use Rattle.std.specs.List.{enumerate_from, filter, slice_range}
use Rattle.std.proofs.lemmas.List.{append-nil, length-take-le, take-append-drop}
use Rattle.std.proofs.lemmas.List.Edits.{length-between, split_between}
use Rattle.std.proofs.lemmas.Option.{get_or_from_slice_get, slice_get_within}
use Rattle.queue_laws.specs.Positions.{at_positions, is_between}

-- the same, of positions counted from n on
abbrev pub picked : {X : Type 0} → (ℕ → Bool) → ℕ → List X → List X
picked {X} p n xs = map (λ (row : ℕ × X). row.1) (filter (λ (row : ℕ × X). p row.0) (enumerate_from n xs))

first : {X : Type 0} → Bool → X → List X → List X
first b x xs = cond b (x ∷ xs) xs

first-append : {X : Type 0} (b : Bool) (x : X) (xs ys : List X) → first b x (xs ++ ys) ≡ first b x xs ++ ys
unfolding first
first-append true x xs ys = refl
first-append false x xs ys = refl

picked-cons : {X : Type 0} (p : ℕ → Bool) (n : ℕ) (x : X) (xs : List X) → picked p n (x ∷ xs) ≡ first (p n) x (picked p (n + 1) xs)
unfolding first
picked-cons {X} p n x xs =
    let rest : List (ℕ × X) = filter (λ (row : ℕ × X). p row.0) (enumerate_from (n + 1) xs) in
    elim (p n) as (λ b. map (λ (row : ℕ × X). row.1) (cond b ((n, x) ∷ rest) rest) ≡ cond b (x ∷ map (λ (row : ℕ × X). row.1) rest) (map (λ (row : ℕ × X). row.1) rest))
    [ true ↦ refl | false ↦ refl ]

pub picked-append : {X : Type 0} (p : ℕ → Bool) (n : ℕ) (xs ys : List X) → picked p n (xs ++ ys) ≡ picked p n xs ++ picked p (n + length xs) ys
picked-append p n [] ys = let e : n ≡ n + 0 = omega arith in ap (λ m. picked p m ys) e
picked-append p n (x ∷ xs) ys =
    let e : n + 1 + length xs ≡ n + suc (length xs) = omega arith in
    picked-cons p n x (xs ++ ys)
    ∙ ap (first (p n) x) (picked-append p (n + 1) xs ys ∙ ap (λ m. picked p (n + 1) xs ++ picked p m ys) e)
    ∙ first-append (p n) x (picked p (n + 1) xs) (picked p (n + suc (length xs)) ys)
    ∙ ap (λ l. l ++ picked p (n + suc (length xs)) ys) (sym (picked-cons p n x xs))

pub picked-same : {X : Type 0} (p q : ℕ → Bool) (n : ℕ) (xs : List X) → ((k : ℕ) → k < length xs → p (n + k) ≡ q (n + k)) → picked p n xs ≡ picked q n xs
picked-same p q n [] same = refl
picked-same p q n (x ∷ xs) same =
    let e : n ≡ n + 0 = omega arith in
    let here : p n ≡ q n = ap p e ∙ same 0 (omega arith) ∙ ap q (sym e) in
    picked-cons p n x xs ∙ (λ i. first (here i) x (picked-same p q (n + 1) xs (λ k l. ap p (omega arith) ∙ same (suc k) (omega arith) ∙ ap q (omega arith)) i)) ∙ sym (picked-cons q n x xs)

pub picked-all : {X : Type 0} (p : ℕ → Bool) (n : ℕ) (xs : List X) → ((k : ℕ) → k < length xs → p (n + k) ≡ true) → picked p n xs ≡ xs
unfolding first
picked-all p n [] all = refl
picked-all p n (x ∷ xs) all =
    let e : n ≡ n + 0 = omega arith in
    let here : p n ≡ true = ap p e ∙ all 0 (omega arith) in
    picked-cons p n x xs ∙ (λ i. first (here i) x (picked-all p (n + 1) xs (λ k l. ap p (omega arith) ∙ all (suc k) (omega arith)) i))

pub picked-none : {X : Type 0} (p : ℕ → Bool) (n : ℕ) (xs : List X) → ((k : ℕ) → k < length xs → p (n + k) ≡ false) → picked p n xs ≡ []
unfolding first
picked-none p n [] none = refl
picked-none p n (x ∷ xs) none =
    let e : n ≡ n + 0 = omega arith in
    let here : p n ≡ false = ap p e ∙ none 0 (omega arith) in
    picked-cons p n x xs ∙ (λ i. first (here i) x (picked-none p (n + 1) xs (λ k l. ap p (omega arith) ∙ none (suc k) (omega arith)) i))

-- whether a position is between two others
inside : (start end k : ℕ) → start ≤ k → k < end → is_between start end k ≡ true
inside start end k low high = grind arith

below : (start end k : ℕ) → k < start → is_between start end k ≡ false
below start end k low = grind arith

behind : (start end k : ℕ) → end ≤ k → is_between start end k ≡ false
behind start end k high = grind arith

nowhere : (at k : ℕ) → is_between at (at + 0) k ≡ false
nowhere at k = grind arith

-- of three parts of a list the one in the middle, and the two others
module _ {X : Type 0} (a b c : List X) (start end : ℕ) (size : length a ≡ start) (sum : start + length b ≡ end) where
  pub middle : at_positions (is_between start end) (a ++ (b ++ c)) ≡ b
  middle =
      let p : ℕ → Bool = is_between start end in
      picked-append p 0 a (b ++ c)
      ∙ (λ i. picked-none p 0 a (λ k l. below start end (0 + k) (omega arith)) i ++ picked-append p (0 + length a) b c i)
      ∙ (λ i. picked-all p (0 + length a) b (λ k l. inside start end (0 + length a + k) (omega arith) (omega arith)) i
      ++ picked-none p (0 + length a + length b) c (λ k l. behind start end (0 + length a + length b + k) (omega arith)) i)
      ∙ append-nil b

  pub around : at_positions (λ position. not (is_between start end position)) (a ++ (b ++ c)) ≡ a ++ c
  around =
      let p : ℕ → Bool = λ position. not (is_between start end position) in
      picked-append p 0 a (b ++ c)
      ∙ (λ i. picked-all p 0 a (λ k l. ap not (below start end (0 + k) (omega arith))) i ++ picked-append p (0 + length a) b c i)
      ∙ (λ i. a ++ (picked-none p (0 + length a) b (λ k l. ap not (inside start end (0 + length a + k) (omega arith) (omega arith))) i
      ++ picked-all p (0 + length a + length b) c (λ k l. ap not (behind start end (0 + length a + length b + k) (omega arith))) i))

module _ {X : Type 0} (xs : List X) (start end : ℕ) (order : start ≤ end) (within : end ≤ length xs) where
  pub between-are : at_positions (is_between start end) xs ≡ slice_range xs start end
  between-are =
      let one : length (take start xs) ≡ start = length-take-le start xs (omega arith) in
      let two : length (slice_range xs start end) ≡ end - start = length-between xs start end within in
      ap (at_positions (is_between start end)) (split_between xs start end order)
      ∙ middle (take start xs) (slice_range xs start end) (drop end xs) start end one (omega arith)

  pub others-are : at_positions (λ position. not (is_between start end position)) xs ≡ take start xs ++ drop end xs
  others-are =
      let one : length (take start xs) ≡ start = length-take-le start xs (omega arith) in
      let two : length (slice_range xs start end) ≡ end - start = length-between xs start end within in
      ap (at_positions (λ position. not (is_between start end position))) (split_between xs start end order)
      ∙ around (take start xs) (slice_range xs start end) (drop end xs) start end one (omega arith)

-- a part that is put into a list, so that its first element is at a position of it; no part may be put anywhere
module _ {X : Type 0} (rest part : List X) (to : ℕ) (fits : (part ≡ []) ⊎ (to ≤ length rest)) where
  abbrev pub with_part : List X
  with_part = take to rest ++ (part ++ drop to rest)

  pub put-there : at_positions (is_between to (to + length part)) with_part ≡ part
  put-there = elim fits [
    | inl none ↦ subst (λ (b : List X). at_positions (is_between to (to + length b)) (take to rest ++ (b ++ drop to rest)) ≡ b) (sym none)
        (picked-none (is_between to (to + 0)) 0 (take to rest ++ drop to rest) (λ k l. nowhere to (0 + k)))
    | inr room ↦ middle (take to rest) part (drop to rest) to (to + length part) (length-take-le to rest room) refl
  ]

  pub put-around : at_positions (λ position. not (is_between to (to + length part) position)) with_part ≡ rest
  put-around = elim fits [
    | inl none ↦ subst (λ (b : List X). at_positions (λ position. not (is_between to (to + length b) position)) (take to rest ++ (b ++ drop to rest)) ≡ rest) (sym none)
        (picked-all (λ position. not (is_between to (to + 0) position)) 0 (take to rest ++ drop to rest) (λ k l. ap not (nowhere to (0 + k))) ∙ take-append-drop to rest)
    | inr room ↦ around (take to rest) part (drop to rest) to (to + length part) (length-take-le to rest room) refl ∙ take-append-drop to rest
  ]

-- an element at a position, and what is before it and behind it
pub split-at : {X : Type 0} (xs : List X) (at : ℕ) (x : X) → slice_get xs at ≡ Some x → xs ≡ take at xs ++ (x ∷ drop (suc at) xs)
split-at [] at x here = cc
split-at (y ∷ ys) zero x here = let same : y ≡ x = cc in ap (λ z. z ∷ ys) same
split-at (y ∷ ys) (suc at) x here = ap (λ l. y ∷ l) (split-at ys at x here)

drop-at : {X : Type 0} (xs : List X) (at : ℕ) (x : X) → slice_get xs at ≡ Some x → drop at xs ≡ x ∷ drop (suc at) xs
drop-at [] at x here = cc
drop-at (y ∷ ys) zero x here = let same : y ≡ x = cc in ap (λ z. z ∷ ys) same
drop-at (y ∷ ys) (suc at) x here = drop-at ys at x here

pub one-at : {X : Type 0} (xs : List X) (at : ℕ) (x : X) → slice_get xs at ≡ Some x → slice_range xs at (at + 1) ≡ x ∷ []
one-at {X} xs at x here = let one : at + 1 - at ≡ 1 = omega arith in ap (λ n. take n (drop at xs)) one ∙ ap (λ (l : List X). take 1 l) (drop-at xs at x here)

pub slice_get-at : {X : Type 0} (a : List X) (x : X) (b : List X) (n : ℕ) → length a ≡ n → slice_get (a ++ (x ∷ b)) n ≡ Some x
slice_get-at [] x b zero size = refl
slice_get-at [] x b (suc n) size = absurd (omega arith)
slice_get-at (y ∷ a) x b zero size = absurd (omega arith)
slice_get-at (y ∷ a) x b (suc n) size = slice_get-at a x b n (omega arith)

pub contains-at : {X : Type 0} (xs : List X) (at : ℕ) (x : X) → slice_get xs at ≡ Some x → Contains xs x
contains-at xs at x here = (at, slice_get_within xs at x here, get_or_from_slice_get xs at x x here)
