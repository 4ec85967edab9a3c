-- One step of a walk over a list.
use Rattle.std.proofs.Common.{◌≡◌, ℕ, ◌+◌, ◌-◌, ◌<◌, zero, suc, List, [], ◌∷◌, ◌++◌, ◌≤◌, length, take, drop, map, Option, Some, None, refl, sym, ap, ◌∙◌, arith, append_assoc, sub-one}
use Rattle.std.specs.List.{slice_get, slice_range, filter_map, cons_option}
use Rattle.std.proofs.lemmas.List.{drop-take, map-append, take-append-drop, take-take}
use Rattle.std.specs.Option.{option_to_list}

take_first : {X : Type 0} (left : ℕ) (x : X) (more : List X) → 0 < left → take left (x ∷ more) ≡ x ∷ take (left - 1) more
take_first zero x more some = absurd (omega (arith, some))
take_first (suc left) x more some = rw sub-one refl

pub first_more : {X : Type 0} (list lines more : List X) (x : X) (left : ℕ) → lines ≡ x ∷ more → 0 < left → (list ++ x ∷ []) ++ take (left - 1) more ≡ list ++ take left lines
first_more list lines more x left is some = rw (is, take_first left x more some) (append_assoc list (x ∷ []) (take (left - 1) more))

cons_is : {Y : Type 0} (o : Option Y) (ys : List Y) → cons_option o ys ≡ option_to_list o ++ ys
cons_is None ys = refl
cons_is (Some y) ys = refl

pub song_more : {X Y : Type 0} (h : X → Option Y) (songs : List Y) (lines more : List X) (x : X) (left : ℕ) → lines ≡ x ∷ more → 0 < left
    → (songs ++ option_to_list (h x)) ++ filter_map h (take (left - 1) more) ≡ songs ++ filter_map h (take left lines)
song_more h songs lines more x left is some =
    rw (is, take_first left x more some) (append_assoc songs (option_to_list (h x)) (filter_map h (take (left - 1) more)) ∙ ap (λ end. songs ++ end) (sym (cons_is (h x) (filter_map h (take (left - 1) more)))))

pub mapped_more : {X Y : Type 0} (f : X → Y) (xs : List X) (index : ℕ) (x : X) → slice_get xs index ≡ Some x → map f (take (suc index) xs) ≡ map f (take index xs) ++ f x ∷ []
mapped_more f [] index x known = absurd (cc)
mapped_more f (y ∷ xs) zero x known = let same : y ≡ x = cc in ap (λ z. f z ∷ []) same
mapped_more f (y ∷ xs) (suc index) x known = ap (λ more. f y ∷ more) (mapped_more f xs index x known)

pub none_past : {X : Type 0} (xs : List X) (index : ℕ) → slice_get xs index ≡ None → length xs ≤ index
none_past [] index none = omega arith
none_past (x ∷ xs) zero none = absurd (cc)
none_past (x ∷ xs) (suc index) none = omega (arith, none_past xs index none)

pub one_more : {X : Type 0} (xs : List X) (index : ℕ) → drop 1 (drop index xs) ≡ drop (suc index) xs
one_more xs zero = refl
one_more [] (suc index) = refl
one_more (x ∷ xs) (suc index) = one_more xs index

-- some more elements
pub mapped_part : {X Y : Type 0} (f : X → Y) (xs : List X) (at count : ℕ) → map f (take (at + count) xs) ≡ map f (take at xs) ++ map f (slice_range xs at (at + count))
mapped_part f xs at count =
    let size : at + count - at ≡ count = omega arith in
    let front : take at (take (at + count) xs) ≡ take at xs = take-take at (at + count) xs (omega arith) in
    let behind : drop at (take (at + count) xs) ≡ slice_range xs at (at + count) = drop-take at count xs ∙ ap (λ (n : ℕ). take n (drop at xs)) (sym size) in
    ap (map f) (sym (take-append-drop at (take (at + count) xs)) ∙ (λ t. front t ++ behind t)) ∙ map-append f (take at xs) (slice_range xs at (at + count))
