-- Windows over songs.
use Rattle.std.proofs.Common.{◌≡◌, ℕ, zero, suc, List, [], ◌∷◌, map, take, drop, refl, sym, ap, ◌∙◌}
use Rattle.std.proofs.lemmas.List.{drop-map}

take-map : {A B : Type 0} (f : A → B) (n : ℕ) (xs : List A) → map f (take n xs) ≡ take n (map f xs)
take-map f zero xs = refl
take-map f (suc n) [] = refl
take-map f (suc n) (x ∷ xs) = ap (λ ys. f x ∷ ys) (take-map f n xs)

-- what a window shows of songs is what it shows of what they are
pub shown : {A B : Type 0} (f : A → B) (start count : ℕ) (xs : List A) → map f (take count (drop start xs)) ≡ take count (drop start (map f xs))
shown f start count xs = take-map f count (drop start xs) ∙ ap (take count) (sym (drop-map f start xs))
