-- Partitions that have the numbers from 0 on, each with a name of its own.
use Rattle.std.proofs.Common.{◌≡◌, ℕ, zero, suc, ◌+◌, ◌<◌, ◌≤◌, ◌==◌, Bool, true, false, not, cond, ◌||◌, List, [], ◌∷◌, ◌++◌, length, map, Option, Some, None, is_some, option_map, refl, ap, sym, ◌∙◌, arith, inl, inr, if◌then◌else◌}
use Rattle.std.specs.List.{find, range_with_len}
use Rattle.std.specs.Str.{bytes_eq}
use Rattle.std.proofs.lemmas.Bool.{cases_lt, eqb-false, ne_eqb}
use Rattle.std.proofs.lemmas.Slice.Eq.{bytes_eq-Decides}
use Rattle.kept_state.specs.PlayerReading.{is_named}
use Rattle.partition_table.specs.Parts.{free_index, has_index, known, named, part_at}
use Rattle.partition_table.proofs.Looks.{at_known}
use Rattle.player_state.specs.declared.state.Part.{Part}

-- ---- texts

pub same_text : (a b : List ℕ) → bytes_eq a b ≡ true → a ≡ b
same_text a b = (bytes_eq-Decides a b).0

pub text_same : (a b : List ℕ) → a ≡ b → bytes_eq a b ≡ true
text_same a b = (bytes_eq-Decides a b).1

other_way : (a b : List ℕ) (x y : Bool) → bytes_eq a b ≡ x → bytes_eq b a ≡ y → x ≡ y
other_way a b true y e f = sym (text_same b a (sym (same_text a b e))) ∙ f
other_way a b false true e f = sym e ∙ text_same a b (sym (same_text b a f))
other_way a b false false e f = refl

pub either_way : (a b : List ℕ) → bytes_eq a b ≡ bytes_eq b a
either_way a b = other_way a b (bytes_eq a b) (bytes_eq b a) refl refl

pub neither : (a b : Bool) → (a || b) ≡ false → (a ≡ false) × (b ≡ false)
neither true b e = cc
neither false b e = (refl, e)

-- ---- numbers

abbrev pub AreNumbered : ℕ → List Part → Type 0
AreNumbered n [] = Unit {0}
AreNumbered n (p ∷ ps) = (p.index ≡ n) × AreNumbered (suc n) ps

pub numbered_with : (n : ℕ) (ps : List Part) (new : Part) → AreNumbered n ps → new.index ≡ n + length ps → AreNumbered n (ps ++ new ∷ [])
numbered_with n [] new are is = (omega (arith, is), tt)
numbered_with n (p ∷ ps) new are is = (are.0, numbered_with (suc n) ps new are.1 (omega (arith, is)))

pub none_at : (index n : ℕ) (ps : List Part) → AreNumbered n ps → n + length ps ≤ index → part_at index ps ≡ None
none_at index n [] are far = refl
none_at index n (p ∷ ps) are far =
    let other : (p.index == index) ≡ false = ne_eqb p.index index (λ e. omega (arith, e, are.0, far)) in
    ap (λ (b : Bool). if b then Some p else part_at index ps) other ∙ none_at index (suc n) ps are.1 (omega (arith, far))

next_one : (index n : ℕ) (p : Part) → p.index ≡ n → n ≤ index → (p.index == index) ≡ false → suc n ≤ index
next_one index n p is low e = elim (cases_lt n index) [ inl less ↦ omega (arith, less) | inr past ↦ absurd (eqb-false p.index index e (omega (arith, is, low, past))) ]

pub some_at : (index n : ℕ) (ps : List Part) → AreNumbered n ps → n ≤ index → index < n + length ps → is_some (part_at index ps) ≡ true
some_at index n [] are low high = absurd (omega (arith, low, high))
some_at index n (p ∷ ps) are low high =
    let cases : (b : Bool) → (p.index == index) ≡ b → is_some (if b then Some p else part_at index ps) ≡ true =
    λ b. elim b as (λ b. (p.index == index) ≡ b → is_some (if b then Some p else part_at index ps) ≡ true) [
      | true ↦ λ e. refl
      | false ↦ λ e. some_at index (suc n) ps are.1 (next_one index n p are.0 low e) (omega (arith, high))
    ] in
    cases (p.index == index) refl

found_free : (test : ℕ → Bool) (n a k : ℕ) → a ≤ k → k < a + n → ((j : ℕ) → a ≤ j → j < k → test j ≡ false) → test k ≡ true
    → find test (range_with_len a n) ≡ Some k
found_free test zero a k low high before is = absurd (omega (arith, low, high))
found_free test (suc n) a k low high before is = elim (cases_lt a k) [
  | inl less ↦
      ap (λ (b : Bool). cond b (Some a) (find test (range_with_len (a + 1) n))) (before a (omega arith) less)
      ∙ found_free test n (a + 1) k (omega (arith, less)) (omega (arith, high)) (λ j l h. before j (omega (arith, l)) h) is
  | inr past ↦
      let same : a ≡ k = omega (arith, low, past) in
      ap (λ (b : Bool). cond b (Some a) (find test (range_with_len (a + 1) n))) (ap test same ∙ is) ∙ ap (λ (n : ℕ). Some n) same
]

known_some : (p : Option Part) → is_some (option_map known p) ≡ is_some p
known_some None = refl
known_some (Some p) = refl

pub has_number : (index : ℕ) (ps : List Part) → has_index index (map known ps) ≡ is_some (part_at index ps)
has_number index ps = ap is_some (at_known index ps) ∙ known_some (part_at index ps)

-- the least free number is the next one
pub free_number : (ps : List Part) → AreNumbered 0 ps → length ps < 16 → free_index (map known ps) ≡ Some (length ps)
free_number ps are few = found_free (λ (index : ℕ). not (has_index index (map known ps))) 16 0 (length ps) (omega arith) few
    (λ j low high. ap not (has_number j ps ∙ some_at j 0 ps are low (omega (arith, high))))
    (ap not (has_number (length ps) ps ∙ ap is_some (none_at (length ps) 0 ps are (omega arith))))

-- ---- names

abbrev pub names_of : List Part → List (List ℕ)
names_of ps = map (λ (p : Part). p.name) ps

pub no_one_named : (name : List ℕ) (ps : List Part) → is_named name (names_of ps) ≡ false → named name (map known ps) ≡ None
no_one_named name [] new = refl
no_one_named name (p ∷ ps) new =
    let both = neither (bytes_eq name p.name) (is_named name (names_of ps)) new in
    ap (λ (b : Bool). if b then Some p.index else named name (map known ps)) (either_way p.name name ∙ both.0) ∙ no_one_named name ps both.1

pub last_named : (name : List ℕ) (ps : List Part) (new : Part) → is_named name (names_of ps) ≡ false → new.name ≡ name
    → named name (map known (ps ++ new ∷ [])) ≡ Some new.index
last_named name [] new none is = ap (λ (b : Bool). if b then Some new.index else None) (text_same new.name name is)
last_named name (p ∷ ps) new none is =
    let both = neither (bytes_eq name p.name) (is_named name (names_of ps)) none in
    ap (λ (b : Bool). if b then Some p.index else named name (map known (ps ++ new ∷ []))) (either_way p.name name ∙ both.0) ∙ last_named name ps new both.1 is
