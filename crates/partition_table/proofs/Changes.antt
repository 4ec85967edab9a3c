-- The first part of a number changes, by its index.
use Rattle.std.proofs.Common.{◌≡◌, ℕ, suc, ◌+◌, ◌<◌, ◌≤◌, ◌==◌, Bool, true, false, cond, not, List, [], ◌∷◌, length, get_or, set, Some, None, refl, ap, sym, ◌∙◌, subst, arith, if◌then◌else◌}
use Rattle.std.specs.List.{position_or_len}
use Rattle.player_state.specs.Effects.{part_after}
use Rattle.player_state.specs.declared.effect.Effect.{Effect}
use Rattle.player_state.specs.declared.state.Part.{Part}
use Rattle.partition_table.specs.Parts.{changed, part_at}

abbrev pub position_in : ℕ → List Part → ℕ
position_in index parts = position_or_len (λ (p : Part). p.index == index) parts

one : (n : ℕ) → suc n ≡ 1 + n
one n = omega arith

module _ (index : ℕ) where
  changes : (rate : ℕ) (effect : Effect) (ps : List Part) (p d : Part) → position_in index ps < length ps
      → p ≡ part_after rate (get_or ps (position_in index ps) d) effect → set ps (position_in index ps) p ≡ changed rate index effect ps
  changes rate effect [] p d h e = refl
  changes rate effect (x ∷ xs) p d h e =
      let goes : (b : Bool) → cond (not b) (1 + position_in index xs) 0 < suc (length xs)
      → p ≡ part_after rate (get_or (x ∷ xs) (cond (not b) (1 + position_in index xs) 0) d) effect
      → set (x ∷ xs) (cond (not b) (1 + position_in index xs) 0) p ≡ cond b (part_after rate x effect ∷ xs) (x ∷ changed rate index effect xs)
      = λ b. elim b as (λ b. cond (not b) (1 + position_in index xs) 0 < suc (length xs)
      → p ≡ part_after rate (get_or (x ∷ xs) (cond (not b) (1 + position_in index xs) 0) d) effect
      → set (x ∷ xs) (cond (not b) (1 + position_in index xs) 0) p ≡ cond b (part_after rate x effect ∷ xs) (x ∷ changed rate index effect xs)) [
        | true ↦ λ k g. ap (λ (y : Part). y ∷ xs) g
        | false ↦ (
            let P : ℕ → Type 0 =
            λ j. j < suc (length xs) → p ≡ part_after rate (get_or (x ∷ xs) j d) effect → set (x ∷ xs) j p ≡ x ∷ changed rate index effect xs in
            subst P (one (position_in index xs)) (λ k g. ap (λ (rest : List Part). x ∷ rest) (changes rate effect xs p d (omega arith) g))
            )
      ] in
      goes (x.index == index) h e

  stays : (rate : ℕ) (effect : Effect) (ps : List Part) → length ps ≤ position_in index ps → ps ≡ changed rate index effect ps
  stays rate effect [] h = refl
  stays rate effect (x ∷ xs) h =
      let goes : (b : Bool) → suc (length xs) ≤ cond (not b) (1 + position_in index xs) 0
      → x ∷ xs ≡ cond b (part_after rate x effect ∷ xs) (x ∷ changed rate index effect xs)
      = λ b. elim b as (λ b. suc (length xs) ≤ cond (not b) (1 + position_in index xs) 0
      → x ∷ xs ≡ cond b (part_after rate x effect ∷ xs) (x ∷ changed rate index effect xs))
      [ true ↦ λ k. absurd (omega arith) | false ↦ λ k. ap (λ (rest : List Part). x ∷ rest) (stays rate effect xs (omega arith)) ] in
      goes (x.index == index) h

  -- the part by its index
  found : (ps : List Part) (d : Part) → position_in index ps < length ps → part_at index ps ≡ Some (get_or ps (position_in index ps) d)
  found [] d h = absurd (omega arith)
  found (x ∷ xs) d h =
      let goes : (b : Bool) → cond (not b) (1 + position_in index xs) 0 < suc (length xs)
      → (if b then Some x else part_at index xs) ≡ Some (get_or (x ∷ xs) (cond (not b) (1 + position_in index xs) 0) d)
      = λ b. elim b as (λ b. cond (not b) (1 + position_in index xs) 0 < suc (length xs)
      → (if b then Some x else part_at index xs) ≡ Some (get_or (x ∷ xs) (cond (not b) (1 + position_in index xs) 0) d)) [
        | true ↦ λ k. refl
        | false ↦ (
            let P : ℕ → Type 0 = λ j. j < suc (length xs) → part_at index xs ≡ Some (get_or (x ∷ xs) j d) in
            subst P (one (position_in index xs)) (λ k. found xs d (omega arith))
            )
      ] in
      goes (x.index == index) h

  missing : (ps : List Part) → length ps ≤ position_in index ps → part_at index ps ≡ None
  missing [] h = refl
  missing (x ∷ xs) h =
      let goes : (b : Bool) → suc (length xs) ≤ cond (not b) (1 + position_in index xs) 0 → (if b then Some x else part_at index xs) ≡ None
      = λ b. elim b as (λ b. suc (length xs) ≤ cond (not b) (1 + position_in index xs) 0 → (if b then Some x else part_at index xs) ≡ None)
      [ true ↦ λ k. absurd (omega arith) | false ↦ λ k. missing xs (omega arith) ] in
      goes (x.index == index) h

  -- what a lookup of an index found, in a list that is one with another
  module _ (ps now seen : List Part) (n : ℕ) (is : ps ≡ now) (sees : seen ≡ ps) (e : n ≡ position_in index seen) where
    there : n ≡ position_in index ps
    there = e ∙ ap (position_in index) sees

    pub changes_at : (rate : ℕ) (effect : Effect) (p q : Part) → n < length ps → q ≡ get_or ps n q → p ≡ part_after rate q effect → set ps n p ≡ changed rate index effect now
    changes_at rate effect p q h found_is g =
        let P : ℕ → Type 0 = λ k. k < length ps → p ≡ part_after rate (get_or ps k q) effect → set ps k p ≡ changed rate index effect ps in
        subst P (sym there) (changes rate effect ps p q) h (g ∙ ap (λ (x : Part). part_after rate x effect) found_is) ∙ ap (changed rate index effect) is

    pub stays_at : (rate : ℕ) (effect : Effect) → length ps ≤ n → now ≡ changed rate index effect now
    stays_at rate effect h =
        let P : ℕ → Type 0 = λ k. length ps ≤ k → ps ≡ changed rate index effect ps in
        subst (λ (xs : List Part). xs ≡ changed rate index effect xs) is (subst P (sym there) (stays rate effect ps) h)

    pub found_at : (q : Part) → n < length ps → q ≡ get_or ps n q → part_at index now ≡ Some q
    found_at q h found_is =
        let P : ℕ → Type 0 = λ k. k < length ps → part_at index ps ≡ Some (get_or ps k q) in
        ap (part_at index) (sym is) ∙ subst P (sym there) (found ps q) h ∙ ap (λ (x : Part). Some x) (sym found_is)

    pub missing_at : length ps ≤ n → part_at index now ≡ None
    missing_at h = let P : ℕ → Type 0 = λ k. length ps ≤ k → part_at index ps ≡ None in ap (part_at index) (sym is) ∙ subst P (sym there) (missing ps) h
