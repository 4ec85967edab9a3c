-- An option at the end of words.
use Rattle.std.proofs.Common.{◌≡◌, ℕ, ◌+◌, ◌-◌, ◌≤◌, Bool, true, List, [], ◌∷◌, ◌++◌, length, take, drop, get_or, cond, refl, ap, ◌∙◌, arith}
use Rattle.std.specs.Str.{bytes_eq}
use Rattle.std.proofs.lemmas.Bool.{le-leb, and_from}
use Rattle.std.proofs.lemmas.List.{length-append, get_or_at, take_at, drop_at}
use Rattle.std.proofs.lemmas.Slice.Eq.{bytes_eq-Decides}
use Rattle.selections.specs.Options.{ends_in, front_length, before, option_words}

long : (front : List (List ℕ)) (name argument : List ℕ) → length (front ++ name ∷ argument ∷ []) ≡ length front + 2
long front name argument = length-append front (name ∷ argument ∷ [])

ends : (name : List ℕ) (least : ℕ) (front : List (List ℕ)) (argument : List ℕ) → least ≤ length front → ends_in name least (front ++ name ∷ argument ∷ []) ≡ true
ends name least front argument enough =
    let whole = long front name argument in
    let is_name : get_or (front ++ name ∷ argument ∷ []) (length (front ++ name ∷ argument ∷ []) - 2) [] ≡ name = get_or_at front name (argument ∷ []) [] _ (omega (arith, whole)) in
    and_from _ _ (le-leb (least + 2) (length (front ++ name ∷ argument ∷ [])) (omega (arith, whole))) (ap (λ (found : List ℕ). bytes_eq found name) is_name ∙ (bytes_eq-Decides name name).1 refl)

front_is : (name : List ℕ) (least : ℕ) (front : List (List ℕ)) (argument : List ℕ) → least ≤ length front → front_length name least (front ++ name ∷ argument ∷ []) ≡ length front
front_is name least front argument enough =
    ap (λ (b : Bool). cond b (length (front ++ name ∷ argument ∷ []) - 2) (length (front ++ name ∷ argument ∷ []))) (ends name least front argument enough)
    ∙ omega (arith, long front name argument)

pub before-option : (name : List ℕ) (least : ℕ) (front : List (List ℕ)) (argument : List ℕ) → least ≤ length front → before name least (front ++ name ∷ argument ∷ []) ≡ front
before-option name least front argument enough =
    ap (λ (n : ℕ). take n (front ++ name ∷ argument ∷ [])) (front_is name least front argument enough) ∙ take_at front (name ∷ argument ∷ []) (length front) refl

pub option_words-option : (name : List ℕ) (least : ℕ) (front : List (List ℕ)) (argument : List ℕ) → least ≤ length front → option_words name least (front ++ name ∷ argument ∷ []) ≡ name ∷ argument ∷ []
option_words-option name least front argument enough =
    ap (λ (n : ℕ). drop n (front ++ name ∷ argument ∷ [])) (front_is name least front argument enough) ∙ drop_at front (name ∷ argument ∷ []) (length front) refl
