-- Where outputs are after an event, and how often each was moved.
use Rattle.std.proofs.Common.{◌≡◌, ◌≢◌, ◌⊎◌, inl, inr, ℕ, zero, suc, ◌+◌, ◌<◌, ◌==◌, Bool, true, false, not, ◌||◌, List, [], ◌∷◌, ◌++◌, length, map, Option, Some, None, is_some, refl, ap, sym, ◌∙◌, subst, arith, if◌then◌else◌}
use Rattle.std.specs.Prelude.{filter, nat_lt, option_map, slice_index_or, slice_set}
use Rattle.std.specs.List.{list_any}
use Rattle.std.proofs.lemmas.Bool.{eq-eqb, eqb-true}
use Rattle.std.proofs.lemmas.Bool.Decides.{nat_tests}
use Rattle.std.proofs.lemmas.List.{get_or-set_other, get_or-set_same, length-set}
use Rattle.player_state.specs.Outputs.{OutputsData, brought, carried, is_output, released}
use Rattle.player_state.specs.declared.effect.Effect.{Effect}
use Rattle.player_state.specs.declared.effect.Effect.TheVariants.{ByCommand}
use Rattle.player_state.specs.declared.effect.CommandEffect.TheVariants.{Rests}
use Rattle.player_state.specs.declared.outputs.Carried.{Carried}
use Rattle.partition_table.specs.Parts.{Known, carried_from, carried_in, has_index, holding, holds_any_in, known, known_at, once_more, outputs_moved, shown_outputs}
use Rattle.partition_table.specs.declared.crossing.Crossing.{Crossing}
use Rattle.partition_table.specs.declared.crossing.Crossing.TheVariants.{Stays, Opens, Closes, Brings}
use Rattle.partition_table.proofs.Moves.{here_known, moves_known}
use Rattle.partition_table.proofs.Looks.{known_moved, knowns_changed, knowns_moved, outputs_known}
use Rattle.partition_laws.specs.Moves.{AreApart, HasEight, Moved, Spot, spot}

-- a change that leaves where the outputs are, and how often each was moved
abbrev Alike : Known → Known → Type 0
Alike f g = (g.index ≡ f.index) × (g.outputs.here ≡ f.outputs.here) × (g.outputs.moves ≡ f.outputs.moves)

abbrev AllAlike : List Known → List Known → Type 0
AllAlike [] [] = Unit {0}
AllAlike [] (g ∷ gs) = ⊥
AllAlike (f ∷ fs) [] = ⊥
AllAlike (f ∷ fs) (g ∷ gs) = Alike f g × AllAlike fs gs

-- where an output is
abbrev pub spot_of : ℕ → List Known → Option Spot
spot_of output fs = option_map (spot output) (holding output fs)

none_first : (n : ℕ) (f : Known) (fs : List Known) → known_at n (f ∷ fs) ≡ None → ((f.index == n) ≡ false) × (known_at n fs ≡ None)
none_first n f fs h =
    let cases : (b : Bool) → (f.index == n) ≡ b → (if b then Some f else known_at n fs) ≡ None → ((f.index == n) ≡ false) × (known_at n fs ≡ None) =
    λ b. elim b as (λ b. (f.index == n) ≡ b → (if b then Some f else known_at n fs) ≡ None → ((f.index == n) ≡ false) × (known_at n fs ≡ None))
    [ true ↦ λ e g. cc | false ↦ λ e g. (e, g) ] in
    cases (f.index == n) refl h

not_held : (output : ℕ) (f : Known) (fs : List Known) → holding output (f ∷ fs) ≡ None → (is_output f.outputs output ≡ false) × (holding output fs ≡ None)
not_held output f fs h =
    let cases : (b : Bool) → is_output f.outputs output ≡ b → (if b then Some f else holding output fs) ≡ None → (is_output f.outputs output ≡ false) × (holding output fs ≡ None) =
    λ b. elim b as (λ b. is_output f.outputs output ≡ b → (if b then Some f else holding output fs) ≡ None → (is_output f.outputs output ≡ false) × (holding output fs ≡ None))
    [ true ↦ λ e g. cc | false ↦ λ e g. (e, g) ] in
    cases (is_output f.outputs output) refl h

known_alike : (n : ℕ) (fs gs : List Known) → AllAlike fs gs → known_at n fs ≡ None → known_at n gs ≡ None
known_alike n [] [] all h = refl
known_alike n [] (g ∷ gs) all h = absurd all
known_alike n (f ∷ fs) [] all h = absurd all
known_alike n (f ∷ fs) (g ∷ gs) all h =
    let own = none_first n f fs h in
    ap (λ x. if x == n then Some g else known_at n gs) all.0.0 ∙ ap (λ b. if b then Some g else known_at n gs) own.0 ∙ known_alike n fs gs all.1 own.1

holding_alike : (output : ℕ) (fs gs : List Known) → AllAlike fs gs → holding output fs ≡ None → holding output gs ≡ None
holding_alike output [] [] all h = refl
holding_alike output [] (g ∷ gs) all h = absurd all
holding_alike output (f ∷ fs) [] all h = absurd all
holding_alike output (f ∷ fs) (g ∷ gs) all h =
    let own = not_held output f fs h in
    ap (λ here. if slice_index_or here output false then Some g else holding output gs) all.0.1 ∙ ap (λ b. if b then Some g else holding output gs) own.0 ∙ holding_alike output fs gs all.1 own.1

spot_alike : (output : ℕ) (fs gs : List Known) → AllAlike fs gs → spot_of output gs ≡ spot_of output fs
spot_alike output [] [] all = refl
spot_alike output [] (g ∷ gs) all = absurd all
spot_alike output (f ∷ fs) [] all = absurd all
spot_alike output (f ∷ fs) (g ∷ gs) all =
    ap (λ here. option_map (spot output) (if slice_index_or here output false then Some g else holding output gs)) all.0.1
    ∙ elim (is_output f.outputs output) as (λ b. option_map (spot output) (if b then Some g else holding output gs) ≡ option_map (spot output) (if b then Some f else holding output fs)) [
      | true ↦ λ i. Some (record { index = all.0.0 i; moves = slice_index_or (all.0.2 i) output 0 })
      | false ↦ spot_alike output fs gs all.1
    ]

apart_alike : (fs gs : List Known) → AllAlike fs gs → AreApart fs → AreApart gs
apart_alike [] [] all a = tt
apart_alike [] (g ∷ gs) all a = absurd all
apart_alike (f ∷ fs) [] all a = absurd all
apart_alike (f ∷ fs) (g ∷ gs) all a = (
  subst (λ n. known_at n gs ≡ None) (sym all.0.0) (known_alike f.index fs gs all.1 a.0),
  record { here = ap length all.0.1 ∙ a.1.here; moves = ap length all.0.2 ∙ a.1.moves },
  λ output is. holding_alike output fs gs all.1 (a.2 output (sym (ap (λ here. slice_index_or here output false) all.0.1) ∙ is)),
  apart_alike fs gs all.1 a.3,
)

alike_self : (fs : List Known) → AllAlike fs fs
alike_self [] = tt
alike_self (f ∷ fs) = ((refl, refl, refl), alike_self fs)

changed_alike : (at : ℕ) (effect : Effect) (fs : List Known) → AllAlike fs (knowns_changed at effect fs)
changed_alike at effect [] = tt
changed_alike at effect (f ∷ fs) =
    let g : Known = record f { outputs = outputs_known f.outputs effect } in
    elim (f.index == at) as (λ b. AllAlike (f ∷ fs) (if b then g ∷ fs else f ∷ knowns_changed at effect fs))
    [ true ↦ ((refl, here_known f.outputs effect, moves_known f.outputs effect), alike_self fs) | false ↦ ((refl, refl, refl), changed_alike at effect fs) ]

resting : (at : ℕ) (fs : List Known) → knowns_changed at (ByCommand Rests) fs ≡ fs
resting at [] = refl
resting at (f ∷ fs) =
    elim (f.index == at) as (λ b. (if b then record f { outputs = outputs_known f.outputs (ByCommand Rests) } ∷ fs else f ∷ knowns_changed at (ByCommand Rests) fs) ≡ f ∷ fs)
    [ true ↦ refl | false ↦ ap (λ (gs : List Known). f ∷ gs) (resting at fs) ]

-- a partition comes, with no output
known_added : (n : ℕ) (new : Known) (fs : List Known) → (new.index == n) ≡ false → known_at n (fs ++ new ∷ []) ≡ known_at n fs
known_added n new [] e = ap (λ b. if b then Some new else None) e
known_added n new (f ∷ fs) e =
    elim (f.index == n) as (λ b. (if b then Some f else known_at n (fs ++ new ∷ [])) ≡ (if b then Some f else known_at n fs)) [ true ↦ refl | false ↦ known_added n new fs e ]

holding_added : (output : ℕ) (new : Known) (fs : List Known) → is_output new.outputs output ≡ false → holding output (fs ++ new ∷ []) ≡ holding output fs
holding_added output new [] e = ap (λ b. if b then Some new else None) e
holding_added output new (f ∷ fs) e =
    elim (is_output f.outputs output) as (λ b. (if b then Some f else holding output (fs ++ new ∷ [])) ≡ (if b then Some f else holding output fs)) [ true ↦ refl | false ↦ holding_added output new fs e ]

apart_added : (new : Known) (fs : List Known) → AreApart fs → known_at new.index fs ≡ None → HasEight new.outputs → ((output : ℕ) → is_output new.outputs output ≡ false) → AreApart (fs ++ new ∷ [])
apart_added new [] a free eight none = (refl, eight, λ output is. refl, tt)
apart_added new (f ∷ fs) a free eight none =
    let own = none_first new.index f fs free in
    let other : (new.index == f.index) ≡ false = (let e : (f.index == new.index) ≡ false = own.0 in grind (arith, nat_tests)) in (
      known_added f.index new fs other ∙ a.0,
      a.1,
      λ output is. holding_added output new fs (none output) ∙ a.2 output is,
      apart_added new fs a.3 own.1 eight none,
    )

-- a partition goes
known_filtered : (p : Known → Bool) (n : ℕ) (fs : List Known) → known_at n fs ≡ None → known_at n (filter p fs) ≡ None
known_filtered p n [] h = refl
known_filtered p n (f ∷ fs) h =
    let own = none_first n f fs h in
    elim (p f) as (λ b. known_at n (if b then f ∷ filter p fs else filter p fs) ≡ None)
    [ true ↦ ap (λ b. if b then Some f else known_at n (filter p fs)) own.0 ∙ known_filtered p n fs own.1 | false ↦ known_filtered p n fs own.1 ]

holding_filtered : (p : Known → Bool) (output : ℕ) (fs : List Known) → holding output fs ≡ None → holding output (filter p fs) ≡ None
holding_filtered p output [] h = refl
holding_filtered p output (f ∷ fs) h =
    let own = not_held output f fs h in
    elim (p f) as (λ b. holding output (if b then f ∷ filter p fs else filter p fs) ≡ None)
    [ true ↦ ap (λ b. if b then Some f else holding output (filter p fs)) own.0 ∙ holding_filtered p output fs own.1 | false ↦ holding_filtered p output fs own.1 ]

apart_filtered : (p : Known → Bool) (fs : List Known) → AreApart fs → AreApart (filter p fs)
apart_filtered p [] a = tt
apart_filtered p (f ∷ fs) a =
    elim (p f) as (λ b. AreApart (if b then f ∷ filter p fs else filter p fs)) [
      | true ↦ (known_filtered p f.index fs a.0, a.1, λ output is. holding_filtered p output fs (a.2 output is), apart_filtered p fs a.3)
      | false ↦ apart_filtered p fs a.3
    ]

holding_closed : (output gone : ℕ) (fs : List Known) → AreApart fs → ((f : Known) → known_at gone fs ≡ Some f → is_output f.outputs output ≡ false)
    → holding output (filter (λ (f : Known). not (f.index == gone)) fs) ≡ holding output fs
holding_closed output gone [] a none = refl
holding_closed output gone (f ∷ fs) a none =
    let rest : List Known = filter (λ (f : Known). not (f.index == gone)) fs in
    let cases : (b : Bool) → (f.index == gone) ≡ b → ((g : Known) → (if b then Some f else known_at gone fs) ≡ Some g → is_output g.outputs output ≡ false)
    → holding output (if not b then f ∷ rest else rest) ≡ (if is_output f.outputs output then Some f else holding output fs) =
    λ b. elim b as (λ b. (f.index == gone) ≡ b → ((g : Known) → (if b then Some f else known_at gone fs) ≡ Some g → is_output g.outputs output ≡ false)
    → holding output (if not b then f ∷ rest else rest) ≡ (if is_output f.outputs output then Some f else holding output fs)) [
      | true ↦ λ e own.
          let nobody : known_at gone fs ≡ None = subst (λ n. known_at n fs ≡ None) (eqb-true f.index gone e) a.0 in
          holding_closed output gone fs a.3 (λ g h. (let clash : None ≡ Some g = sym nobody ∙ h in cc)) ∙ sym (ap (λ b. if b then Some f else holding output fs) (own f refl))
      | false ↦ λ e own.
          elim (is_output f.outputs output) as (λ b. (if b then Some f else holding output rest) ≡ (if b then Some f else holding output fs))
          [ true ↦ refl | false ↦ holding_closed output gone fs a.3 own ]
    ] in
    cases (f.index == gone) refl none

-- an output goes from one partition to another
pub set_false : (xs : List Bool) (i : ℕ) → slice_index_or (slice_set xs i false) i false ≡ false
set_false [] i = refl
set_false (x ∷ xs) zero = refl
set_false (x ∷ xs) (suc i) = set_false xs i

module _ (output to : ℕ) (c : Carried) where
  abbrev after : Known → Known
  after f = known_moved output to (Some c) f

  module _ (outputs : OutputsData) where
    abbrev left : Bool → OutputsData
    left comes = outputs_moved output comes c outputs

    other_is : (comes : Bool) (other : ℕ) → other ≢ output → is_output (left comes) other ≡ is_output outputs other
    other_is true other e =
        elim (is_output outputs output) as (λ b. is_output (if b then outputs else brought outputs output (once_more c)) other ≡ is_output outputs other)
        [ true ↦ refl | false ↦ get_or-set_other outputs.here output other true false e ]
    other_is false other e =
        elim (is_output outputs output) as (λ b. is_output (if b then released outputs output else outputs) other ≡ is_output outputs other)
        [ true ↦ get_or-set_other outputs.here output other false false e | false ↦ refl ]

    other_moves : (comes : Bool) (other : ℕ) → other ≢ output → slice_index_or (left comes).moves other 0 ≡ slice_index_or outputs.moves other 0
    other_moves true other e =
        elim (is_output outputs output) as (λ b. slice_index_or (if b then outputs else brought outputs output (once_more c)).moves other 0 ≡ slice_index_or outputs.moves other 0)
        [ true ↦ refl | false ↦ get_or-set_other outputs.moves output other (c.moves + 1) 0 e ]
    other_moves false other e =
        elim (is_output outputs output) as (λ b. slice_index_or (if b then released outputs output else outputs).moves other 0 ≡ slice_index_or outputs.moves other 0)
        [ true ↦ get_or-set_other outputs.moves output other 0 0 e | false ↦ refl ]

    eight_left : (comes : Bool) → HasEight outputs → HasEight (left comes)
    eight_left true eight =
        elim (is_output outputs output) as (λ b. HasEight (if b then outputs else brought outputs output (once_more c)))
        [ true ↦ eight | false ↦ record { here = length-set outputs.here output true ∙ eight.here; moves = length-set outputs.moves output (c.moves + 1) ∙ eight.moves } ]
    eight_left false eight =
        elim (is_output outputs output) as (λ b. HasEight (if b then released outputs output else outputs))
        [ true ↦ record { here = length-set outputs.here output false ∙ eight.here; moves = length-set outputs.moves output 0 ∙ eight.moves } | false ↦ eight ]

    released_is : is_output (left false) output ≡ false
    released_is =
        let cases : (b : Bool) → is_output outputs output ≡ b → is_output (if b then released outputs output else outputs) output ≡ false =
        λ b. elim b as (λ b. is_output outputs output ≡ b → is_output (if b then released outputs output else outputs) output ≡ false) [ true ↦ λ e. set_false outputs.here output | false ↦ λ e. e ] in
        cases (is_output outputs output) refl

    module _ (eight : HasEight outputs) (few : output < 8) (none : is_output outputs output ≡ false) where
      brought_is : is_output (left true) output ≡ true
      brought_is =
          ap (λ b. is_output (if b then outputs else brought outputs output (once_more c)) output) none
          ∙ get_or-set_same outputs.here output true false (subst (λ n. output < n) (sym eight.here) few)

      brought_moves : slice_index_or (left true).moves output 0 ≡ c.moves + 1
      brought_moves =
          ap (λ b. slice_index_or (if b then outputs else brought outputs output (once_more c)).moves output 0) none
          ∙ get_or-set_same outputs.moves output (c.moves + 1) 0 (subst (λ n. output < n) (sym eight.moves) few)

  known_mapped : (n : ℕ) (fs : List Known) → known_at n fs ≡ None → known_at n (map after fs) ≡ None
  known_mapped n [] h = refl
  known_mapped n (f ∷ fs) h =
      let own = none_first n f fs h in
      ap (λ b. if b then Some (after f) else known_at n (map after fs)) own.0 ∙ known_mapped n fs own.1

  other_none : (other : ℕ) → other ≢ output → (fs : List Known) → holding other fs ≡ None → holding other (map after fs) ≡ None
  other_none other e [] h = refl
  other_none other e (f ∷ fs) h =
      let own = not_held other f fs h in
      ap (λ b. if b then Some (after f) else holding other (map after fs)) (other_is f.outputs (f.index == to) other e ∙ own.0) ∙ other_none other e fs own.1

  other_spot : (other : ℕ) → other ≢ output → (fs : List Known) → spot_of other (map after fs) ≡ spot_of other fs
  other_spot other e [] = refl
  other_spot other e (f ∷ fs) =
      ap (λ b. option_map (spot other) (if b then Some (after f) else holding other (map after fs))) (other_is f.outputs (f.index == to) other e)
      ∙ elim (is_output f.outputs other) as (λ b. option_map (spot other) (if b then Some (after f) else holding other (map after fs)) ≡ option_map (spot other) (if b then Some f else holding other fs)) [
        | true ↦ λ i. Some (record { index = f.index; moves = other_moves f.outputs (f.index == to) other e i })
        | false ↦ other_spot other e fs
      ]

  gone_from : (f : Known) → (f.index == to) ≡ false → is_output (after f).outputs output ≡ false
  gone_from f e = ap (λ b. is_output (outputs_moved output b c f.outputs) output) e ∙ released_is f.outputs

  none_holds : (fs : List Known) → known_at to fs ≡ None → holding output (map after fs) ≡ None
  none_holds [] h = refl
  none_holds (f ∷ fs) h =
      let own = none_first to f fs h in
      ap (λ b. if b then Some (after f) else holding output (map after fs)) (gone_from f own.0) ∙ none_holds fs own.1

  apart_mapped : (fs : List Known) → AreApart fs → AreApart (map after fs)
  apart_mapped [] a = tt
  apart_mapped (f ∷ fs) a =
      let alone : (other : ℕ) → is_output (after f).outputs other ≡ true → holding other (map after fs) ≡ None =
      λ other is.
      let cases : (b : Bool) → (other == output) ≡ b → holding other (map after fs) ≡ None =
      λ b. elim b as (λ b. (other == output) ≡ b → holding other (map after fs) ≡ None) [
        | true ↦ λ e.
            let same : other ≡ output = eqb-true other output e in
            let here : is_output (after f).outputs output ≡ true = subst (λ n. is_output (after f).outputs n ≡ true) same is in
            let there : (b : Bool) → (f.index == to) ≡ b → holding output (map after fs) ≡ None =
            λ b. elim b as (λ b. (f.index == to) ≡ b → holding output (map after fs) ≡ None) [
              | true ↦ λ g. none_holds fs (subst (λ n. known_at n fs ≡ None) (eqb-true f.index to g) a.0)
              | false ↦ λ g. (let clash : true ≡ false = sym here ∙ gone_from f g in cc)
            ] in
            subst (λ n. holding n (map after fs) ≡ None) (sym same) (there (f.index == to) refl)
        | false ↦ λ e.
            let apart : other ≢ output = λ same. (let clash : true ≡ false = sym (eq-eqb other output same) ∙ e in cc) in
            other_none other apart fs (a.2 other (sym (other_is f.outputs (f.index == to) other apart) ∙ is))
      ] in
      cases (other == output) refl in
      let eight : HasEight (left f.outputs (f.index == to)) = eight_left f.outputs (f.index == to) a.1 in
      (known_mapped f.index fs a.0, record { here = eight.here; moves = eight.moves }, alone, apart_mapped fs a.3)

  -- it is in the other one then, and was moved once more
  comes : (fs : List Known) → AreApart fs → output < 8 → ((f : Known) → known_at to fs ≡ Some f → is_output f.outputs output ≡ false) → has_index to fs ≡ true
      → spot_of output (map after fs) ≡ Some (record { index = to; moves = c.moves + 1 })
  comes [] a few none there = cc
  comes (f ∷ fs) a few none there =
      let with : Bool → Known = λ b. record f { outputs = shown_outputs (outputs_moved output b c f.outputs) } in
      let Goal : Bool → Type 0 = λ b. option_map (spot output) (if is_output (with b).outputs output then Some (with b) else holding output (map after fs)) ≡ Some (record { index = to; moves = c.moves + 1 }) in
      let cases : (b : Bool) → (f.index == to) ≡ b → ((g : Known) → (if b then Some f else known_at to fs) ≡ Some g → is_output g.outputs output ≡ false)
      → is_some (if b then Some f else known_at to fs) ≡ true → Goal b =
      λ b. elim b as (λ b. (f.index == to) ≡ b → ((g : Known) → (if b then Some f else known_at to fs) ≡ Some g → is_output g.outputs output ≡ false)
      → is_some (if b then Some f else known_at to fs) ≡ true → Goal b) [
        | true ↦ λ e own h.
            ap (λ b. option_map (spot output) (if b then Some (with true) else holding output (map after fs))) (brought_is f.outputs a.1 few (own f refl))
            ∙ (λ i. Some (record { index = eqb-true f.index to e i; moves = brought_moves f.outputs a.1 few (own f refl) i }))
        | false ↦ λ e own h.
            ap (λ b. option_map (spot output) (if b then Some (with false) else holding output (map after fs))) (released_is f.outputs) ∙ comes fs a.3 few own h
      ] in
      cases (f.index == to) refl none there

-- where a partition has an output, it is the one that holds it
pub holder_is : (output n : ℕ) (f : Known) (fs : List Known) → AreApart fs → known_at n fs ≡ Some f → is_output f.outputs output ≡ true → holding output fs ≡ Some f
holder_is output n f [] a e is = cc
holder_is output n f (x ∷ fs) a e is =
    let cases : (b : Bool) → (if b then Some x else known_at n fs) ≡ Some f → (if is_output x.outputs output then Some x else holding output fs) ≡ Some f =
    λ b. elim b as (λ b. (if b then Some x else known_at n fs) ≡ Some f → (if is_output x.outputs output then Some x else holding output fs) ≡ Some f) [
      | true ↦ λ h.
          let same : x ≡ f = cc in
          ap (λ b. if b then Some x else holding output fs) (ap (λ (y : Known). is_output y.outputs output) same ∙ is) ∙ h
      | false ↦ λ h.
          let rest : holding output fs ≡ Some f = holder_is output n f fs a.3 h is in
          let first : (b : Bool) → is_output x.outputs output ≡ b → (if b then Some x else holding output fs) ≡ Some f =
          λ b. elim b as (λ b. is_output x.outputs output ≡ b → (if b then Some x else holding output fs) ≡ Some f)
          [ true ↦ λ g. (let clash : None ≡ Some f = sym (a.2 output g) ∙ rest in cc) | false ↦ λ g. rest ] in
          first (is_output x.outputs output) refl
    ] in
    cases (x.index == n) e

at_index : (n : ℕ) (f : Known) (fs : List Known) → known_at n fs ≡ Some f → f.index ≡ n
at_index n f [] e = cc
at_index n f (x ∷ fs) e =
    let cases : (b : Bool) → (x.index == n) ≡ b → (if b then Some x else known_at n fs) ≡ Some f → f.index ≡ n =
    λ b. elim b as (λ b. (x.index == n) ≡ b → (if b then Some x else known_at n fs) ≡ Some f → f.index ≡ n) [
      | true ↦ λ t h. (let same : x ≡ f = cc in ap (λ (y : Known). y.index) (sym same) ∙ eqb-true x.index n t)
      | false ↦ λ t h. at_index n f fs h
    ] in
    cases (x.index == n) refl e

below : (xs : List Bool) (i : ℕ) → slice_index_or xs i false ≡ true → i < length xs
below [] i e = cc
below (x ∷ xs) zero e = omega arith
below (x ∷ xs) (suc i) e = (let less : i < length xs = below xs i e in omega arith)

eight_of : (output : ℕ) (f : Known) (fs : List Known) → AreApart fs → holding output fs ≡ Some f → (output < 8) × (is_output f.outputs output ≡ true)
eight_of output f [] a e = cc
eight_of output f (x ∷ fs) a e =
    let cases : (b : Bool) → is_output x.outputs output ≡ b → (if b then Some x else holding output fs) ≡ Some f → (output < 8) × (is_output f.outputs output ≡ true) =
    λ b. elim b as (λ b. is_output x.outputs output ≡ b → (if b then Some x else holding output fs) ≡ Some f → (output < 8) × (is_output f.outputs output ≡ true)) [
      | true ↦ λ g h.
          let same : x ≡ f = cc in
          (subst (λ n. output < n) a.1.here (below x.outputs.here output g), ap (λ (y : Known). is_output y.outputs output) (sym same) ∙ g)
      | false ↦ λ g h. eight_of output f fs a.3 h
    ] in
    cases (is_output x.outputs output) refl e

-- an output stays, or comes to another partition
pub record Risen (output : ℕ) (fs gs : List Known) : Type 0 where
  pub nowhere : spot_of output fs ≡ None → spot_of output gs ≡ None
  pub somewhere : (before : Spot) → spot_of output fs ≡ Some before → (spot_of output gs ≡ Some before) ⊎ ((after : Spot) × (spot_of output gs ≡ Some after) × Moved before after)

stayed : (output : ℕ) (fs gs : List Known) → spot_of output gs ≡ spot_of output fs → Risen output fs gs
stayed output fs gs e = record { nowhere = λ h. e ∙ h; somewhere = λ before h. inl (e ∙ h) }

unmoved : (output to : ℕ) (fs : List Known) → map (known_moved output to None) fs ≡ fs
unmoved output to [] = refl
unmoved output to (f ∷ fs) = ap (λ (gs : List Known). f ∷ gs) (unmoved output to fs)

module _ (output to : ℕ) (fs : List Known) (a : AreApart fs) where
  apart_moved : (c : Option Carried) → AreApart (map (known_moved output to c) fs)
  apart_moved None = subst AreApart (sym (unmoved output to fs)) a
  apart_moved (Some c) = apart_mapped output to c fs a

  module _ (h : Known) (there : has_index to fs ≡ true) (held : holding output fs ≡ Some h) (other : (h.index == to) ≡ false) where
    abbrev c : Carried
    c = carried h.outputs output

    elsewhere : (f : Known) → known_at to fs ≡ Some f → is_output f.outputs output ≡ false
    elsewhere f e =
        let cases : (b : Bool) → is_output f.outputs output ≡ b → is_output f.outputs output ≡ false =
        λ b. elim b as (λ b. is_output f.outputs output ≡ b → is_output f.outputs output ≡ false) [
          | true ↦ λ g.
              let both : Some h ≡ Some f = sym held ∙ holder_is output to f fs a e g in
              let same : h ≡ f = cc in
              let clash : true ≡ false = sym (eq-eqb h.index to (ap (λ (y : Known). y.index) same ∙ at_index to f fs e)) ∙ other in cc
          | false ↦ λ g. g
        ] in
        cases (is_output f.outputs output) refl

    abbrev landed : Spot
    landed = record { index = to; moves = c.moves + 1 }

    came : spot_of output (map (known_moved output to (Some c)) fs) ≡ Some landed
    came = comes output to c fs a (eight_of output h fs a held).0 elsewhere there

    moved : Moved (spot output h) landed
    moved = record { index = λ same. (let clash : true ≡ false = sym (eq-eqb h.index to (sym same)) ∙ other in cc); moves = refl }

    own_risen : Risen output fs (map (known_moved output to (Some c)) fs)
    own_risen = record {
      nowhere = λ e. (let clash : None ≡ Some (spot output h) = sym e ∙ ap (option_map (spot output)) held in cc);
      somewhere = λ before e.
          let both : Some before ≡ Some (spot output h) = sym e ∙ ap (option_map (spot output)) held in
          let same : before ≡ spot output h = cc in
          inr (landed, came, subst (λ (x : Spot). Moved x landed) (sym same) moved);
    }

    risen : (x : ℕ) → Risen x fs (map (known_moved output to (Some c)) fs)
    risen x =
        let cases : (b : Bool) → (x == output) ≡ b → Risen x fs (map (known_moved output to (Some c)) fs) =
        λ b. elim b as (λ b. (x == output) ≡ b → Risen x fs (map (known_moved output to (Some c)) fs)) [
          | true ↦ λ e. subst (λ n. Risen n fs (map (known_moved output to (Some c)) fs)) (sym (eqb-true x output e)) own_risen
          | false ↦ λ e.
              let apart : x ≢ output = λ same. (let clash : true ≡ false = sym (eq-eqb x output same) ∙ e in cc) in
              stayed x fs (map (known_moved output to (Some c)) fs) (other_spot output to c x apart fs)
        ] in
        cases (x == output) refl

  module _ (x : ℕ) where
    abbrev Goal : Option Carried → Type 0
    Goal c = Risen x fs (map (known_moved output to c) fs)

    none_moved : Goal None
    none_moved = stayed x fs (map (known_moved output to None) fs) (ap (spot_of x) (unmoved output to fs))

    from : has_index to fs ≡ true → (q : Option Known) → holding output fs ≡ q → Goal (carried_from output to q)
    from there None e = none_moved
    from there (Some h) e =
        let cases : (b : Bool) → (h.index == to) ≡ b → Goal (if b then None else Some (carried h.outputs output)) =
        λ b. elim b as (λ b. (h.index == to) ≡ b → Goal (if b then None else Some (carried h.outputs output))) [ true ↦ λ g. none_moved | false ↦ λ g. risen h there e g x ] in
        cases (h.index == to) refl

    brings_risen : Goal (carried_in output to fs)
    brings_risen =
        let cases : (b : Bool) → has_index to fs ≡ b → Goal (if b then carried_from output to (holding output fs) else None) =
        λ b. elim b as (λ b. has_index to fs ≡ b → Goal (if b then carried_from output to (holding output fs) else None))
        [ true ↦ λ e. from e (holding output fs) refl | false ↦ λ e. none_moved ] in
        cases (has_index to fs) refl

-- what passes between partitions leaves none that holds an output
abbrev pub IsSafe : List Known → Effect → Crossing → Type 0
IsSafe fs effect Stays = Unit {0}
IsSafe fs effect (Opens new) = (known_at new.index fs ≡ None) × HasEight new.outputs × ((output : ℕ) → is_output new.outputs output ≡ false)
IsSafe fs effect (Closes gone) = (holds_any_in (known_at gone fs) ≡ false) × (effect ≡ ByCommand Rests)
IsSafe fs effect (Brings output to) = Unit {0}

second_off : (a b : Bool) → (a || b) ≡ false → b ≡ false
second_off true b e = cc
second_off false b e = e

first_off : (a b : Bool) → (a || b) ≡ false → a ≡ false
first_off true b e = e
first_off false b e = refl

none_here : (xs : List Bool) (output : ℕ) → list_any (λ here. here) xs ≡ false → slice_index_or xs output false ≡ false
none_here [] output e = refl
none_here (x ∷ xs) zero e = first_off x (list_any (λ here. here) xs) e
none_here (x ∷ xs) (suc output) e = none_here xs output (second_off x (list_any (λ here. here) xs) e)

-- an event leaves partitions apart, and outputs where they are, or once more moved
abbrev pub Stepped : List Known → List Known → Type 0
Stepped fs gs = AreApart gs × ((output : ℕ) → Risen output fs gs)

-- behind what a partition does
after_change : (at : ℕ) (effect : Effect) (fs gs : List Known) → AreApart gs × ((output : ℕ) → Risen output (knowns_changed at effect fs) gs) → Stepped fs gs
after_change at effect fs gs s = (
  s.0,
  λ output.
      let same : spot_of output (knowns_changed at effect fs) ≡ spot_of output fs = spot_alike output fs (knowns_changed at effect fs) (changed_alike at effect fs) in record {
        nowhere = λ e. (s.1 output).nowhere (same ∙ e);
        somewhere = λ before e. (s.1 output).somewhere before (same ∙ e);
      },
)

opened : (new : Known) (fs : List Known) → AreApart fs → known_at new.index fs ≡ None → HasEight new.outputs → ((output : ℕ) → is_output new.outputs output ≡ false)
    → (room : Bool) → Stepped fs (if room then fs ++ new ∷ [] else fs)
opened new fs a free eight none true = (
  apart_added new fs a free eight none,
  λ output. stayed output fs (fs ++ new ∷ []) (ap (option_map (spot output)) (holding_added output new fs (none output))),
)
opened new fs a free eight none false = (a, λ output. stayed output fs fs refl)

closed : (gone : ℕ) (fs : List Known) → AreApart fs → holds_any_in (known_at gone fs) ≡ false → Stepped fs (filter (λ (f : Known). not (f.index == gone)) fs)
closed gone fs a unused = (
  apart_filtered (λ (f : Known). not (f.index == gone)) fs a,
  λ output.
      let none : (f : Known) → known_at gone fs ≡ Some f → is_output f.outputs output ≡ false =
      λ f e. none_here f.outputs.here output (sym (ap holds_any_in e) ∙ unused) in
      stayed output fs (filter (λ (f : Known). not (f.index == gone)) fs) (ap (option_map (spot output)) (holding_closed output gone fs a none)),
)

pub stepped : (at : ℕ) (effect : Effect) (crossing : Crossing) (fs : List Known) → AreApart fs → IsSafe fs effect crossing → Stepped fs (knowns_moved crossing (knowns_changed at effect fs))
stepped at effect crossing fs a safe =
    let gs : List Known = knowns_changed at effect fs in
    let apart : AreApart gs = apart_alike fs gs (changed_alike at effect fs) a in
    let cases : (c : Crossing) → IsSafe fs effect c → Stepped fs (knowns_moved c gs) =
    λ c. elim c as (λ c. IsSafe fs effect c → Stepped fs (knowns_moved c gs)) [
      | Stays ↦ λ s. after_change at effect fs gs (apart, λ output. stayed output gs gs refl)
      | Opens new ↦ λ s.
          let free : known_at new.index gs ≡ None = known_alike new.index fs gs (changed_alike at effect fs) s.0 in
          after_change at effect fs (knowns_moved (Opens new) gs)
          (opened (known new) gs apart free (record { here = s.1.here; moves = s.1.moves }) s.2 (nat_lt (length gs) 16))
      | Closes gone ↦ λ s.
          let still : gs ≡ fs = ap (λ (e : Effect). knowns_changed at e fs) s.1 ∙ resting at fs in
          subst (λ (xs : List Known). Stepped fs (knowns_moved (Closes gone) xs)) (sym still) (closed gone fs a s.0)
      | Brings output to ↦ λ s.
          after_change at effect fs (knowns_moved (Brings output to) gs) (apart_moved output to gs apart (carried_in output to gs), λ x. brings_risen output to gs apart x)
    ] in
    cases crossing safe
