-- Outputs that are switched on and off as is said.
use Rattle.std.proofs.Common.{◌≡◌, ◌≢◌, ◌⊎◌, inl, inr, ℕ, ◌==◌, ◌<◌, Bool, true, false, List, [], ◌∷◌, ◌++◌, length, Option, Some, None, refl, ap, sym, ◌∙◌, subst, arith, if◌then◌else◌}
use Rattle.std.specs.Prelude.{slice_index_or, slice_set}
use Rattle.std.proofs.lemmas.Bool.{cases_lt, eqb-true, eqb-false}
use Rattle.std.proofs.lemmas.List.{get_or_past, get_or-set_same, get_or-set_other, length-set}
use Rattle.player_state.specs.Outputs.{OutputsData, has_failed, is_enabled, is_output, switched}
use Rattle.kept_state.specs.declared.kept.KeptOutput.{KeptOutput}
use Rattle.state_laws.specs.Having.{AreSwitched, later, said_of}

later_later : (a b c : Option Bool) → later a (later b c) ≡ later (later a b) c
later_later a b None = refl
later_later a b (Some on) = refl

-- what is said last
said_last : (number : ℕ) (said : List KeptOutput) (output : KeptOutput)
    → said_of number (said ++ output ∷ []) ≡ later (said_of number said) (if output.number == number then Some output.is_on else None)
said_last number [] output = elim (output.number == number) as (λ b. later (if b then Some output.is_on else None) None ≡ later None (if b then Some output.is_on else None)) [ true ↦ refl | false ↦ refl ]
said_last number (o ∷ said) output =
    let this : Option Bool = if output.number == number then Some output.is_on else None in
    let first : Option Bool = if o.number == number then Some o.is_on else None in
    ap (later first) (said_last number said output) ∙ later_later first (said_of number said) this

-- a flag that is on is one of those that there are
within : (flags : List Bool) (number : ℕ) → slice_index_or flags number false ≡ true → number < length flags
within flags number is = elim (cases_lt number (length flags)) [
  | inl less ↦ less
  | inr past ↦ let off : slice_index_or flags number false ≡ false = get_or_past flags number false past in cc
]

on_is : (a b : Bool) → ◌≡◌ {A = Option Bool} (Some a) (Some b) → a ≡ b
on_is a b e = cc

module _ (outputs : OutputsData) (number : ℕ) (on : Bool) where
  abbrev one : KeptOutput
  one = record { number = number; is_on = on }

  module _ (said : List KeptOutput) (h : AreSwitched outputs said) where
    pub is_switched : AreSwitched (switched outputs number on) (said ++ one ∷ [])
    is_switched =
        let size : length (slice_set outputs.enabled number on) ≡ length outputs.here = length-set outputs.enabled number on ∙ h.known in
        let last : (n : ℕ) (b c : Bool) → (number == n) ≡ c → later (said_of n said) (if c then Some on else None) ≡ Some b
        → is_output outputs n ≡ true → has_failed outputs n ≡ false → slice_index_or (slice_set outputs.enabled number on) n false ≡ b =
        λ n b c. elim c as (λ c. (number == n) ≡ c → later (said_of n said) (if c then Some on else None) ≡ Some b
        → is_output outputs n ≡ true → has_failed outputs n ≡ false → slice_index_or (slice_set outputs.enabled number on) n false ≡ b) [
          | true ↦ λ same e here fine.
              let is : number ≡ n = eqb-true number n same in
              let less : n < length outputs.here = within outputs.here n here in
              let enough : number < length outputs.enabled = omega (arith, h.known) in
              subst (λ (m : ℕ). slice_index_or (slice_set outputs.enabled number on) m false ≡ b) is (get_or-set_same outputs.enabled number on false enough ∙ on_is on b e)
          | false ↦ λ apart e here fine.
              let other : n ≢ number = λ k. eqb-false number n apart (sym k) in
              get_or-set_other outputs.enabled number n on false other ∙ h.as_said n b e here fine
        ] in
        record { known = size; as_said = λ n b e here fine. last n b (number == n) refl (sym (said_last n said one) ∙ e) here fine }

    -- one that is not in the partition, or has failed, may be said to be so or so
    pub is_unswitched : ((is_output outputs number ≡ false) ⊎ (has_failed outputs number ≡ true)) → AreSwitched outputs (said ++ one ∷ [])
    is_unswitched why =
        let last : (n : ℕ) (b c : Bool) → (number == n) ≡ c → later (said_of n said) (if c then Some on else None) ≡ Some b
        → is_output outputs n ≡ true → has_failed outputs n ≡ false → is_enabled outputs n ≡ b =
        λ n b c. elim c as (λ c. (number == n) ≡ c → later (said_of n said) (if c then Some on else None) ≡ Some b
        → is_output outputs n ≡ true → has_failed outputs n ≡ false → is_enabled outputs n ≡ b) [
          | true ↦ λ same e here fine.
              let is : number ≡ n = eqb-true number n same in
              elim why [
                | inl away ↦ let off : is_output outputs n ≡ false = ap (is_output outputs) (sym is) ∙ away in cc
                | inr broken ↦ let bad : has_failed outputs n ≡ true = ap (has_failed outputs) (sym is) ∙ broken in cc
              ]
          | false ↦ λ apart e here fine. h.as_said n b e here fine
        ] in
        record { known = h.known; as_said = λ n b e here fine. last n b (number == n) refl (sym (said_last n said one) ∙ e) here fine }
