-- The sections of a list with one more item, and lists whose items belong together.
use Rattle.std.proofs.Common.{◌≡◌, ◌∙◌, ◌&&◌, ℕ, suc, length, Bool, true, false, List, [], ◌∷◌, ◌++◌, map, refl, sym, ap}
use Rattle.kept_state.specs.Heard.{at_last}
use Rattle.std.specs.Str.{bytes_eq}
use Rattle.kept_state.specs.Partitions.{Pairwise, same_texts, sections, up_to}

-- ---- sections

up_begin_at : {A : Type 0} (b : A → Bool) (x : A) (xs : List A) (y : A) (v : Bool) → b x ≡ v → up_to b (xs ++ y ∷ []) ≡ up_to b xs
    → up_to b ((x ∷ xs) ++ y ∷ []) ≡ up_to b (x ∷ xs)
up_begin_at b x xs y true is more = rw is refl
up_begin_at b x xs y false is more = rw is (ap (λ u. x ∷ u) more)

-- an item that begins a section ends the one before it
pub up_begin : {A : Type 0} (b : A → Bool) (xs : List A) (y : A) → b y ≡ true → up_to b (xs ++ y ∷ []) ≡ up_to b xs
up_begin b [] y is = rw is refl
up_begin b (x ∷ xs) y is = up_begin_at b x xs y (b x) refl (up_begin b xs y is)

begin_at : {A : Type 0} (b : A → Bool) (x : A) (xs : List A) (y : A) (v : Bool) → b x ≡ v → up_to b (xs ++ y ∷ []) ≡ up_to b xs
    → sections b (xs ++ y ∷ []) ≡ sections b xs ++ (y ∷ []) ∷ [] → sections b ((x ∷ xs) ++ y ∷ []) ≡ sections b (x ∷ xs) ++ (y ∷ []) ∷ []
begin_at b x xs y true is up more = rw is (ap (λ u. (x ∷ u) ∷ sections b (xs ++ y ∷ [])) up ∙ ap (λ m. (x ∷ up_to b xs) ∷ m) more)
begin_at b x xs y false is up more = rw is more

pub sections_begin : {A : Type 0} (b : A → Bool) (xs : List A) (y : A) → b y ≡ true → sections b (xs ++ y ∷ []) ≡ sections b xs ++ (y ∷ []) ∷ []
sections_begin b [] y is = rw is refl
sections_begin b (x ∷ xs) y is = begin_at b x xs y (b x) refl (up_begin b xs y is) (sections_begin b xs y is)

up_in_at : {A : Type 0} (b : A → Bool) (x : A) (xs : List A) (y : A) (v : Bool) → b x ≡ v
    → (v ≡ false → up_to b (xs ++ y ∷ []) ≡ up_to b xs) → up_to b ((x ∷ xs) ++ y ∷ []) ≡ up_to b (x ∷ xs)
up_in_at b x xs y true is more = rw is refl
up_in_at b x xs y false is more = rw is (ap (λ u. x ∷ u) (more refl))

sections_skip : {A : Type 0} (b : A → Bool) (x : A) (xs : List A) → b x ≡ false → sections b (x ∷ xs) ≡ sections b xs
sections_skip b x xs is = rw is refl

sections_take : {A : Type 0} (b : A → Bool) (x : A) (xs : List A) → b x ≡ true → sections b (x ∷ xs) ≡ (x ∷ up_to b xs) ∷ sections b xs
sections_take b x xs is = rw is refl

-- where a section has begun, what is before it is as it was
pub up_in : {A : Type 0} (b : A → Bool) (xs : List A) (y : A) (s : List A) (ss : List (List A)) → sections b xs ≡ s ∷ ss
    → up_to b (xs ++ y ∷ []) ≡ up_to b xs
up_in b [] y s ss is = cc
up_in b (x ∷ xs) y s ss is =
    up_in_at b x xs y (b x) refl (λ (other : b x ≡ false). up_in b xs y s ss (sym (sections_skip b x xs other) ∙ is))

up_out_at : {A : Type 0} (b : A → Bool) (x : A) (xs : List A) (y : A) (v : Bool) → b x ≡ v → sections b (x ∷ xs) ≡ []
    → (v ≡ false → up_to b (xs ++ y ∷ []) ≡ up_to b xs ++ y ∷ []) → up_to b ((x ∷ xs) ++ y ∷ []) ≡ up_to b (x ∷ xs) ++ y ∷ []
up_out_at b x xs y true is none more = let e : (x ∷ up_to b xs) ∷ sections b xs ≡ [] = sym (sections_take b x xs is) ∙ none in cc
up_out_at b x xs y false is none more = rw is (ap (λ u. x ∷ u) (more refl))

-- before the first section is one more item
pub up_out : {A : Type 0} (b : A → Bool) (xs : List A) (y : A) → b y ≡ false → sections b xs ≡ [] → up_to b (xs ++ y ∷ []) ≡ up_to b xs ++ y ∷ []
up_out b [] y not none = rw not refl
up_out b (x ∷ xs) y not none =
    up_out_at b x xs y (b x) refl none (λ (other : b x ≡ false). up_out b xs y not (sym (sections_skip b x xs other) ∙ none))

abbrev with_end : {A : Type 0} → A → List A → List A
with_end y s = s ++ y ∷ []

first_section : {A : Type 0} (b : A → Bool) (x : A) (xs : List A) (y : A) (all : List (List A)) → b y ≡ false → sections b xs ≡ all
    → sections b (xs ++ y ∷ []) ≡ at_last (with_end y) all
    → (x ∷ up_to b (xs ++ y ∷ [])) ∷ sections b (xs ++ y ∷ []) ≡ at_last (with_end y) ((x ∷ up_to b xs) ∷ all)
first_section b x xs y [] not is more =
    ap (λ u. (x ∷ u) ∷ sections b (xs ++ y ∷ [])) (up_out b xs y not is) ∙ ap (λ m. (x ∷ (up_to b xs ++ y ∷ [])) ∷ m) more
first_section b x xs y (s ∷ ss) not is more =
    ap (λ u. (x ∷ u) ∷ sections b (xs ++ y ∷ [])) (up_in b xs y s ss is) ∙ ap (λ m. (x ∷ up_to b xs) ∷ m) more

more_at : {A : Type 0} (b : A → Bool) (x : A) (xs : List A) (y : A) (v : Bool) → b x ≡ v → b y ≡ false
    → sections b (xs ++ y ∷ []) ≡ at_last (with_end y) (sections b xs)
    → sections b ((x ∷ xs) ++ y ∷ []) ≡ at_last (with_end y) (sections b (x ∷ xs))
more_at b x xs y true is not more = rw is (first_section b x xs y (sections b xs) not refl more)
more_at b x xs y false is not more = rw is more

-- another item is one of the last section, where there is one
pub sections_more : {A : Type 0} (b : A → Bool) (xs : List A) (y : A) → b y ≡ false → sections b (xs ++ y ∷ []) ≡ at_last (λ s. s ++ y ∷ []) (sections b xs)
sections_more b [] y not = rw not refl
sections_more b (x ∷ xs) y not = more_at b x xs y (b x) refl not (sections_more b xs y not)

pub at_last_end : {A : Type 0} (f : A → A) (xs : List A) (x : A) → at_last f (xs ++ x ∷ []) ≡ xs ++ f x ∷ []
at_last_end f [] x = refl
at_last_end f (y ∷ []) x = refl
at_last_end f (y ∷ z ∷ more) x = ap (λ ys. y ∷ ys) (at_last_end f (z ∷ more) x)

-- ---- lists whose items belong together

pub pairs_more : {A B : Type 0} (R : A → B → Type 0) (xs : List A) (ys : List B) (x : A) (y : B) → Pairwise R xs ys → R x y
    → Pairwise R (xs ++ x ∷ []) (ys ++ y ∷ [])
pairs_more R [] [] x y pairs more = (more, tt)
pairs_more R [] (b ∷ bs) x y pairs more = absurd pairs
pairs_more R (a ∷ rest) [] x y pairs more = absurd pairs
pairs_more R (a ∷ rest) (b ∷ bs) x y pairs more = (pairs.0, pairs_more R rest bs x y pairs.1 more)

pub pairs_none : {A B : Type 0} (R : A → B → Type 0) (xs : List A) (ys : List B) → ys ≡ [] → Pairwise R xs ys → xs ≡ []
pairs_none R [] ys is pairs = refl
pairs_none R (a ∷ rest) [] is pairs = absurd pairs
pairs_none R (a ∷ rest) (b ∷ bs) is pairs = cc

-- the last two belong together, and those before them
pub pairs_last : {A B : Type 0} (R : A → B → Type 0) (xs : List A) (ys : List B) (y : B) → Pairwise R xs (ys ++ y ∷ [])
    → (firsts : List A) × (a : A) × (xs ≡ firsts ++ a ∷ []) × Pairwise R firsts ys × R a y
pairs_last R [] [] y pairs = absurd pairs
pairs_last R (a ∷ []) [] y pairs = ([], a, refl, tt, pairs.0)
pairs_last R (a ∷ c ∷ rest) [] y pairs = absurd pairs.1
pairs_last R [] (b ∷ bs) y pairs = absurd pairs
pairs_last R (a ∷ rest) (b ∷ bs) y pairs =
    let (firsts, last, is, before, at) = pairs_last R rest bs y pairs.1 in
    (a ∷ firsts, last, ap (λ xs. a ∷ xs) is, (pairs.0, before), at)

pub pairs_then : {A B C : Type 0} (R : A → B → Type 0) (S : B → C → Type 0) (T : A → C → Type 0) (xs : List A) (ys : List B) (zs : List C)
    → ((a : A) (b : B) (c : C) → R a b → S b c → T a c) → Pairwise R xs ys → Pairwise S ys zs → Pairwise T xs zs
pairs_then R S T [] [] [] both first second = tt
pairs_then R S T [] [] (c ∷ cs) both first second = absurd second
pairs_then R S T [] (b ∷ bs) zs both first second = absurd first
pairs_then R S T (a ∷ rest) [] zs both first second = absurd first
pairs_then R S T (a ∷ rest) (b ∷ bs) [] both first second = absurd second
pairs_then R S T (a ∷ rest) (b ∷ bs) (c ∷ cs) both first second =
    (both a b c first.0 second.0, pairs_then R S T rest bs cs both first.1 second.1)

pub pairs_same : {A B C : Type 0} (R : A → B → Type 0) (f : A → C) (g : B → C) (xs : List A) (ys : List B)
    → ((a : A) (b : B) → R a b → g b ≡ f a) → Pairwise R xs ys → map g ys ≡ map f xs
pairs_same R f g [] [] same pairs = refl
pairs_same R f g [] (b ∷ bs) same pairs = absurd pairs
pairs_same R f g (a ∷ rest) [] same pairs = absurd pairs
pairs_same R f g (a ∷ rest) (b ∷ bs) same pairs = ap (λ c. c ∷ map g bs) (same a b pairs.0) ∙ ap (λ cs. f a ∷ cs) (pairs_same R f g rest bs same pairs.1)

-- a list that ends so is the other one
pub same_end : {A : Type 0} (xs ys : List A) (x y : A) → xs ++ x ∷ [] ≡ ys ++ y ∷ [] → (xs ≡ ys) × (x ≡ y)
same_end [] [] x y is = let e : x ≡ y = cc in (refl, e)
same_end [] (b ∷ []) x y is = cc
same_end [] (b ∷ c ∷ bs) x y is = cc
same_end (a ∷ []) [] x y is = cc
same_end (a ∷ c ∷ rest) [] x y is = cc
same_end (a ∷ rest) (b ∷ bs) x y is =
    let head : a ≡ b = cc in
    let tail : rest ++ x ∷ [] ≡ bs ++ y ∷ [] = cc in
    let more = same_end rest bs x y tail in
    let lists : a ∷ rest ≡ b ∷ bs = ap (λ h. h ∷ rest) head ∙ ap (λ t. b ∷ t) more.0 in
    (lists, more.1)

pub no_end : {A : Type 0} (xs : List A) (x : A) → xs ++ x ∷ [] ≡ [] → ⊥
no_end [] x is = cc
no_end (a ∷ rest) x is = cc

-- ---- lists of texts

and_false : (b : Bool) → (b && false) ≡ false
and_false true = refl
and_false false = refl

pub other_length : (xs ys : List (List ℕ)) → (length xs ≡ length ys → ⊥) → same_texts xs ys ≡ false
other_length [] [] other = absurd (other refl)
other_length [] (b ∷ bs) other = refl
other_length (a ∷ more) [] other = refl
other_length (a ∷ more) (b ∷ bs) other =
    let rest : same_texts more bs ≡ false = other_length more bs (λ (is : length more ≡ length bs). other (ap (λ n. suc n) is)) in
    ap (λ r. bytes_eq a b && r) rest ∙ and_false (bytes_eq a b)
