-- Which of some partitions is the default one, and which are the others.
use Rattle.std.proofs.Common.{◌≡◌, ℕ, ◌+◌, Bool, true, false, not, cond, ◌||◌, List, [], ◌∷◌, ◌++◌, length, codes, refl, ap, sym, ◌∙◌, arith, if◌then◌else◌}
use Rattle.std.specs.Prelude.{filter}
use Rattle.std.specs.List.{flat_map}
use Rattle.std.specs.Str.{bytes_eq}
use Rattle.std.proofs.lemmas.List.{append-nil}
use Rattle.std.proofs.lemmas.List.Folds.{list_any-append}
use Rattle.kept_state.specs.PlayerReading.{AreNew, PlayerStep, default_steps, is_named, other_steps, own_steps, partition_steps, player_steps}
use Rattle.kept_state.specs.Players.{is_default}
use Rattle.kept_state.specs.declared.partitions.KeptPartition.{KeptPartition}
use Rattle.state_laws.specs.Partitions.{Each, others}
use Rattle.state_laws.proofs.Numbers.{neither}

-- ---- which lines there are

defaults_are : (qs : List KeptPartition) → flat_map default_steps qs ≡ flat_map own_steps (filter is_default qs)
defaults_are [] = refl
defaults_are (q ∷ qs) =
    elim (is_default q) as (λ b. (if b then own_steps q else []) ++ flat_map default_steps qs ≡ flat_map own_steps (cond b (q ∷ filter is_default qs) (filter is_default qs)))
    [ true ↦ ap (λ (s : List PlayerStep). own_steps q ++ s) (defaults_are qs) | false ↦ defaults_are qs ]

others_are : (qs : List KeptPartition) → flat_map other_steps qs ≡ flat_map partition_steps (others qs)
others_are [] = refl
others_are (q ∷ qs) =
    elim (is_default q) as (λ b. (if b then [] else partition_steps q) ++ flat_map other_steps qs ≡ flat_map partition_steps (cond (not b) (q ∷ others qs) (others qs)))
    [ true ↦ others_are qs | false ↦ ap (λ (s : List PlayerStep). partition_steps q ++ s) (others_are qs) ]

pub steps_are : (qs : List KeptPartition) (first : KeptPartition) → filter is_default qs ≡ first ∷ []
    → player_steps qs ≡ own_steps first ++ flat_map partition_steps (others qs)
steps_are qs first is =
    ap (λ (s : List PlayerStep). s ++ flat_map other_steps qs) (defaults_are qs ∙ ap (flat_map own_steps) is ∙ append-nil (own_steps first))
    ∙ ap (λ (s : List PlayerStep). own_steps first ++ s) (others_are qs)

-- ---- names that are new

pub new_default : (x : List ℕ) (a b : List (List ℕ)) → is_named x (a ++ b) ≡ false → (is_named x a ≡ false) × (is_named x b ≡ false)
new_default x a b new = neither (is_named x a) (is_named x b) (sym (list_any-append (λ other. bytes_eq x other) a b) ∙ new)

-- whatever is new to the first names, and is not the default, is new to the others
abbrev pub NewToo : List (List ℕ) → List (List ℕ) → Type 0
NewToo before rest = (x : List ℕ) → bytes_eq x (codes "default") ≡ false → is_named x before ≡ false → is_named x rest ≡ false

pub others_new : (qs : List KeptPartition) (before rest : List (List ℕ)) → NewToo before rest → AreNew before qs → AreNew rest (others qs)
others_new [] before rest too new = tt
others_new (q ∷ qs) before rest too new =
    let cases : (b : Bool) → is_default q ≡ b → AreNew rest (cond (not b) (q ∷ others qs) (others qs)) =
    λ b. elim b as (λ b. is_default q ≡ b → AreNew rest (cond (not b) (q ∷ others qs) (others qs))) [
      | true ↦ λ e. others_new qs (before ++ q.name ∷ []) rest (λ x other fresh. too x other (new_default x before (q.name ∷ []) fresh).0) new.1
      | false ↦ λ e. (
        too q.name e new.0,
        others_new qs (before ++ q.name ∷ []) (rest ++ q.name ∷ [])
            (λ x other fresh.
            let both = new_default x before (q.name ∷ []) fresh in
            list_any-append (λ other. bytes_eq x other) rest (q.name ∷ [])
            ∙ ap (λ (b : Bool). b || is_named x (q.name ∷ [])) (too x other both.0) ∙ both.1) new.1,
      )
    ] in
    cases (is_default q) refl

-- ---- parts of a list

pub heads : {A : Type 0} (x y : A) (xs ys : List A) → ◌≡◌ {A = List A} (x ∷ xs) (y ∷ ys) → x ≡ y
heads x y xs ys e = cc

pub each_of : {A : Type 0} (P : A → Type 0) (test : A → Bool) (xs : List A) → Each P xs → Each P (filter test xs)
each_of P test [] all = tt
each_of P test (x ∷ xs) all =
    elim (test x) as (λ b. Each P (cond b (x ∷ filter test xs) (filter test xs))) [ true ↦ (all.0, each_of P test xs all.1) | false ↦ each_of P test xs all.1 ]

pub each_both : {A : Type 0} (P : A → Type 0) (test : A → Bool) (xs : List A) → Each P (filter test xs) → Each P (filter (λ x. not (test x)) xs) → Each P xs
each_both P test [] a b = tt
each_both P test (x ∷ xs) a b =
    let cases : (c : Bool) → Each P (cond c (x ∷ filter test xs) (filter test xs)) → Each P (cond (not c) (x ∷ filter (λ x. not (test x)) xs) (filter (λ x. not (test x)) xs)) → P x × Each P xs =
    λ c. elim c as (λ c. Each P (cond c (x ∷ filter test xs) (filter test xs)) → Each P (cond (not c) (x ∷ filter (λ x. not (test x)) xs) (filter (λ x. not (test x)) xs)) → P x × Each P xs)
    [ true ↦ λ f g. (f.0, each_both P test xs f.1 g) | false ↦ λ f g. (g.0, each_both P test xs f g.1) ] in
    cases (test x) a b

pub length_both : (test : KeptPartition → Bool) (qs : List KeptPartition) → length (filter test qs) + length (filter (λ (q : KeptPartition). not (test q)) qs) ≡ length qs
length_both test [] = refl
length_both test (q ∷ qs) =
    let more = length_both test qs in
    elim (test q) as (λ b. length (cond b (q ∷ filter test qs) (filter test qs)) + length (cond (not b) (q ∷ filter (λ (q : KeptPartition). not (test q)) qs) (filter (λ (q : KeptPartition). not (test q)) qs)) ≡ length (q ∷ qs))
    [ true ↦ omega (arith, more) | false ↦ omega (arith, more) ]

-- a filter lets through what passes
pub passes_first : (qs : List KeptPartition) (first : KeptPartition) → filter is_default qs ≡ first ∷ [] → is_default first ≡ true
passes_first [] first is = cc
passes_first (q ∷ qs) first is =
    let cases : (b : Bool) → is_default q ≡ b → cond b (q ∷ filter is_default qs) (filter is_default qs) ≡ first ∷ [] → is_default first ≡ true =
    λ b. elim b as (λ b. is_default q ≡ b → cond b (q ∷ filter is_default qs) (filter is_default qs) ≡ first ∷ [] → is_default first ≡ true) [
      | true ↦ λ e h. ap is_default (sym (heads q first (filter is_default qs) [] h)) ∙ e
      | false ↦ λ e h. passes_first qs first h
    ] in
    cases (is_default q) refl is

pub both_each : {A : Type 0} (P Q : A → Type 0) (xs : List A) → Each P xs → Each Q xs → Each (λ x. P x × Q x) xs
both_each P Q [] a b = tt
both_each P Q (x ∷ xs) a b = ((a.0, b.0), both_each P Q xs a.1 b.1)
