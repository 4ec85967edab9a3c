-- Steps of relations between two lists.
use Rattle.std.proofs.Common.{◌≡◌, ℕ, zero, suc, ◌+◌, ◌<◌, List, [], ◌∷◌, ◌++◌, length, map, take, drop, get_or, set, sym, ap, subst, refl, arith}
use Rattle.output_ring.specs.declared.feeder.Feeder.{Feeder}
use Rattle.output_ring.specs.declared.feeder.FeederEnd.{FeederEnd}
use Rattle.output_ring.specs.Rings.{SameFeeder, EndsFeeder}
use Rattle.output_ring.proofs.Same.{ends_later, same_feeder, same_feeder_trans}
use Rattle.crew_steps.specs.Each.{Each, EachAt}

pub each_push : {A B : Type 0} (R : A → B → Type 0) (xs : List A) (ys : List B) (x : A) (y : B) → Each R xs ys → R x y → Each R (xs ++ x ∷ []) (ys ++ y ∷ [])
each_push R [] [] x y e r = (r, tt)
each_push R [] (b ∷ ys) x y e r = absurd e
each_push R (a ∷ xs) [] x y e r = absurd e
each_push R (a ∷ xs) (b ∷ ys) x y e r = (e.0, each_push R xs ys x y e.1 r)

pub each_refl : {A : Type 0} (R : A → A → Type 0) (xs : List A) → ((x : A) → R x x) → Each R xs xs
each_refl R [] r = tt
each_refl R (x ∷ xs) r = (r x, each_refl R xs r)

-- one element goes a step further
pub each_set : {A : Type 0} (R : A → A → Type 0) (xs ys : List A) (i : ℕ) (d y : A) → i < length ys → ((x : A) → R x (get_or ys i d) → R x y) → Each R xs ys → Each R xs (set ys i y)
each_set R [] [] i d y low r e = e
each_set R [] (b ∷ ys) i d y low r e = absurd e
each_set R (a ∷ xs) [] i d y low r e = absurd e
each_set R (a ∷ xs) (b ∷ ys) zero d y low r e = (r a e.0, e.1)
each_set R (a ∷ xs) (b ∷ ys) (suc i) d y low r e = (e.0, each_set R xs ys i d y (omega arith) r e.1)

pub each_trans : {A B : Type 0} (Q : A → A → Type 0) (R S : A → B → Type 0) (xs ys : List A) (zs : List B) → ((x y : A) (z : B) → Q x y → R y z → S x z) → Each Q xs ys → Each R ys zs → Each S xs zs
each_trans Q R S [] [] [] t p q = tt
each_trans Q R S [] [] (z ∷ zs) t p q = absurd q
each_trans Q R S [] (y ∷ ys) zs t p q = absurd p
each_trans Q R S (x ∷ xs) [] zs t p q = absurd p
each_trans Q R S (x ∷ xs) (y ∷ ys) [] t p q = absurd q
each_trans Q R S (x ∷ xs) (y ∷ ys) (z ∷ zs) t p q = (t x y z p.0 q.0, each_trans Q R S xs ys zs t p.1 q.1)

next_suc : {A : Type 0} (xs : List A) (n : ℕ) (x : A) (rest : List A) → drop n xs ≡ x ∷ rest → (take (suc n) xs ≡ take n xs ++ x ∷ []) × (drop (suc n) xs ≡ rest)
next_suc [] zero x rest e = cc
next_suc [] (suc n) x rest e = cc
next_suc (y ∷ ys) zero x rest e = (cc, cc)
next_suc (y ∷ ys) (suc n) x rest e = let t = next_suc ys n x rest e in (ap (λ l. y ∷ l) t.0, t.1)

-- the next element of a list that is taken one by one
pub next_taken : {A : Type 0} (xs : List A) (n m : ℕ) (x : A) (rest : List A) → m ≡ n + 1 → drop n xs ≡ x ∷ rest → (take m xs ≡ take n xs ++ x ∷ []) × (drop m xs ≡ rest)
next_taken xs n m x rest is e =
    let same : suc n ≡ m = omega (arith, is) in
    subst (λ k. (take k xs ≡ take n xs ++ x ∷ []) × (drop k xs ≡ rest)) same (next_suc xs n x rest e)

-- one more pair
pub each_next : {A B : Type 0} (R : A → B → Type 0) (xs : List A) (ys zs : List B) (n m : ℕ) (x : A) (y : B) (rest : List A) → m ≡ n + 1 → drop n xs ≡ x ∷ rest → zs ≡ ys ++ y ∷ [] → Each R (take n xs) ys → R x y → Each R (take m xs) zs
each_next R xs ys zs n m x y rest is e grown each r =
    let taken = next_taken xs n m x rest is e in
    subst (λ l. Each R l zs) (sym taken.0) (subst (λ l. Each R (take n xs ++ x ∷ []) l) (sym grown) (each_push R (take n xs) ys x y each r))

each_push_at : {A B : Type 0} (R : ℕ → A → B → Type 0) (n k : ℕ) (xs : List A) (ys : List B) (x : A) (y : B) → k ≡ n + length ys → EachAt R n xs ys → R k x y → EachAt R n (xs ++ x ∷ []) (ys ++ y ∷ [])
each_push_at R n k [] [] x y is e r = (subst (λ m. R m x y) (omega (arith, is)) r, tt)
each_push_at R n k [] (b ∷ ys) x y is e r = absurd e
each_push_at R n k (a ∷ xs) [] x y is e r = absurd e
each_push_at R n k (a ∷ xs) (b ∷ ys) x y is e r = (e.0, each_push_at R (n + 1) k xs ys x y (omega (arith, is)) e.1 r)

-- one more pair, at the next index
pub each_next_at : {A B : Type 0} (R : ℕ → A → B → Type 0) (xs : List A) (ys zs : List B) (n m : ℕ) (x : A) (y : B) (rest : List A) → n ≡ length ys → m ≡ n + 1 → drop n xs ≡ x ∷ rest → zs ≡ ys ++ y ∷ []
    → EachAt R 0 (take n xs) ys → R n x y → EachAt R 0 (take m xs) zs
each_next_at R xs ys zs n m x y rest long is e grown each r =
    let taken = next_taken xs n m x rest is e in
    subst (λ l. EachAt R 0 l zs) (sym taken.0) (subst (λ l. EachAt R 0 (take n xs ++ x ∷ []) l) (sym grown) (each_push_at R 0 n (take n xs) ys x y (omega (arith, long)) each r))

pub same_refl : (f : Feeder) → SameFeeder f f
same_refl = same_feeder

pub same_trans : (f g h : Feeder) → SameFeeder f g → SameFeeder g h → SameFeeder f h
same_trans = same_feeder_trans

pub each_same : (fs gs hs : List Feeder) → Each SameFeeder fs gs → Each SameFeeder gs hs → Each SameFeeder fs hs
each_same fs gs hs = each_trans SameFeeder SameFeeder SameFeeder fs gs hs same_trans

pub each_unchanged : (fs : List Feeder) → Each SameFeeder fs fs
each_unchanged fs = each_refl SameFeeder fs same_refl

pub each_length : {A B : Type 0} (R : A → B → Type 0) (xs : List A) (ys : List B) → Each R xs ys → length ys ≡ length xs
each_length R [] [] e = refl
each_length R [] (y ∷ ys) e = absurd e
each_length R (x ∷ xs) [] e = absurd e
each_length R (x ∷ xs) (y ∷ ys) e = ap suc (each_length R xs ys e.1)

pub same_set : (fs gs : List Feeder) (i : ℕ) (old h : Feeder) → i < length gs → old ≡ get_or gs i old → SameFeeder old h → Each SameFeeder fs gs → Each SameFeeder fs (set gs i h)
same_set fs gs i old h low is s e =
    each_set SameFeeder fs gs i old h low (λ x r. same_trans x old h (subst (λ z. SameFeeder x z) (sym is) r) s) e

-- the first pair, and the rest
pub each_rest : {A B C : Type 0} (R : C → B → Type 0) (f : A → C) (xs rest : List A) (ys others : List B) (x : A) (y : B) → xs ≡ x ∷ rest → ys ≡ y ∷ others → Each R (map f xs) ys → R (f x) y × Each R (map f rest) others
each_rest R f xs rest ys others x y p q e =
    subst (λ l. Each R (map f l) (y ∷ others)) p (subst (λ l. Each R (map f xs) l) q e)

pub each_ends : (fs gs : List Feeder) (es : List FeederEnd) → Each SameFeeder fs gs → Each EndsFeeder gs es → Each EndsFeeder fs es
each_ends fs gs es = each_trans SameFeeder EndsFeeder EndsFeeder fs gs es ends_later
