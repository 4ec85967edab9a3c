-- Lists that are gone through, cut and joined.
use Rattle.std.proofs.Common.{◌≡◌, ℕ, zero, suc, ◌+◌, ◌-◌, ◌<◌, ◌≤◌, Bool, true, false, List, [], ◌∷◌, ◌++◌, length, filter, map, fold, take, drop, slice_get, Some, None, refl, ap, sym, ◌∙◌, arith, cond, length-drop}
use Rattle.std.specs.List.{slice_range}
use Rattle.std.proofs.lemmas.List.{drop-drop, drop-take, take-append-drop, take-take}

-- one more element is gone through
pub take-suc-get : {X : Type 0} (xs : List X) (k : ℕ) (x : X) → slice_get xs k ≡ Some x → take (suc k) xs ≡ take k xs ++ x ∷ []
take-suc-get [] k x h = cc
take-suc-get (y ∷ ys) zero x h = let e : y ≡ x = cc in rw e refl
take-suc-get (y ∷ ys) (suc k) x h = ap (λ r. y ∷ r) (take-suc-get ys k x h)

pub slice_get-drop : {X : Type 0} (xs : List X) (a i : ℕ) → slice_get (drop a xs) i ≡ slice_get xs (i + a)
slice_get-drop [] zero i = refl
slice_get-drop [] (suc a) i = refl
slice_get-drop (x ∷ xs) zero i = let e : i + 0 ≡ i = omega arith in ap (slice_get (x ∷ xs)) (sym e)
slice_get-drop (x ∷ xs) (suc a) i = let e : i + suc a ≡ suc (i + a) = omega arith in slice_get-drop xs a i ∙ ap (slice_get (x ∷ xs)) (sym e)

pub slice_range-more : {X : Type 0} (xs : List X) (a b : ℕ) (x : X) → a ≤ b → slice_get xs b ≡ Some x → slice_range xs a (b + 1) ≡ slice_range xs a b ++ x ∷ []
slice_range-more xs a b x h e =
    let more : b + 1 - a ≡ suc (b - a) = omega arith in
    let here : b - a + a ≡ b = omega arith in
    ap (λ (n : ℕ). take n (drop a xs)) more ∙ take-suc-get (drop a xs) (b - a) x (slice_get-drop xs a (b - a) ∙ ap (slice_get xs) here ∙ e)

pub slice_range-front : {X : Type 0} (xs : List X) (n : ℕ) → slice_range xs 0 n ≡ take n xs
slice_range-front xs n = let e : n - 0 ≡ n = omega arith in ap (λ (k : ℕ). take k xs) e

pub take-all : {X : Type 0} (xs : List X) (n : ℕ) → length xs ≤ n → take n xs ≡ xs
take-all [] zero h = refl
take-all [] (suc n) h = refl
take-all (x ∷ xs) zero h = absurd (omega arith)
take-all (x ∷ xs) (suc n) h = ap (λ r. x ∷ r) (take-all xs n (omega arith))

pub slice_range-rest : {X : Type 0} (xs : List X) (a : ℕ) → slice_range xs a (length xs) ≡ drop a xs
slice_range-rest xs a = take-all (drop a xs) (length xs - a) (omega (arith, length-drop a xs))

pub get-within : {X : Type 0} (xs : List X) (position : ℕ) → position < length xs → slice_get xs position ≡ None → ⊥
get-within [] position h e = omega arith
get-within (x ∷ xs) zero h e = cc
get-within (x ∷ xs) (suc k) h e = get-within xs k (omega arith) e

pub fold-append : {A B : Type 0} (f : B → A → B) (b : B) (xs ys : List A) → fold f b (xs ++ ys) ≡ fold f (fold f b xs) ys
fold-append f b [] ys = refl
fold-append f b (x ∷ xs) ys = fold-append f (f b x) xs ys

pub map-append : {X Y : Type 0} (f : X → Y) (xs ys : List X) → map f (xs ++ ys) ≡ map f xs ++ map f ys
map-append f [] ys = refl
map-append f (x ∷ xs) ys = ap (λ r. f x ∷ r) (map-append f xs ys)

pub append-nil : {X : Type 0} (xs : List X) → xs ++ [] ≡ xs
append-nil [] = refl
append-nil (x ∷ xs) = ap (λ r. x ∷ r) (append-nil xs)

-- a filter that drops nothing
pub filter-all : {X : Type 0} (xs : List X) → filter (λ x. true) xs ≡ xs
filter-all [] = refl
filter-all (x ∷ xs) = ap (λ r. x ∷ r) (filter-all xs)

-- two filters, one after the other, in either order
pub filter-swap : {X : Type 0} (p q : X → Bool) (xs : List X) → filter p (filter q xs) ≡ filter q (filter p xs)
filter-swap p q [] = refl
filter-swap p q (x ∷ xs) =
    elim (p x) as (λ v. p x ≡ v → filter p (cond (q x) (x ∷ filter q xs) (filter q xs)) ≡ filter q (cond v (x ∷ filter p xs) (filter p xs))) [
      | true ↦ λ e. elim (q x) as (λ w. q x ≡ w → filter p (cond w (x ∷ filter q xs) (filter q xs)) ≡ filter q (x ∷ filter p xs)) [
        | true ↦ λ g. rw (e, g) (ap (λ r. x ∷ r) (filter-swap p q xs))
        | false ↦ λ g. rw g (filter-swap p q xs)
      ] refl
      | false ↦ λ e. elim (q x) as (λ w. q x ≡ w → filter p (cond w (x ∷ filter q xs) (filter q xs)) ≡ filter q (filter p xs)) [
        | true ↦ λ g. rw e (filter-swap p q xs)
        | false ↦ λ g. filter-swap p q xs
      ] refl
    ] refl

-- a part and the one behind it
pub slice_range-join : {X : Type 0} (xs : List X) (from at count : ℕ) → from ≤ at → slice_range xs from (at + count) ≡ slice_range xs from at ++ slice_range xs at (at + count)
slice_range-join xs from at count h =
    let long : at + count - from ≡ (at - from) + count = omega arith in
    let here : from + (at - from) ≡ at = omega arith in
    let size : at + count - at ≡ count = omega arith in
    let all : List _ = take ((at - from) + count) (drop from xs) in
    let front : take (at - from) all ≡ slice_range xs from at = take-take (at - from) ((at - from) + count) (drop from xs) (omega arith) in
    let behind : drop (at - from) all ≡ slice_range xs at (at + count) =
    drop-take (at - from) count (drop from xs) ∙ ap (take count) (drop-drop (at - from) from xs ∙ ap (λ (n : ℕ). drop n xs) here) ∙ ap (λ (n : ℕ). take n (drop at xs)) (sym size) in
    ap (λ (n : ℕ). take n (drop from xs)) long ∙ sym (take-append-drop (at - from) all) ∙ (λ t. front t ++ behind t)
