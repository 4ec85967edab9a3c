-- What an event leaves of a partition that it does not happen in: what all know of it, and what it was.
use Rattle.std.proofs.Common.{◌≡◌, ◌≢◌, ℕ, zero, suc, ◌==◌, Bool, true, false, ◌&&◌, List, [], ◌∷◌, length, map, Option, Some, None, refl, ap, sym, ◌∙◌, subst, arith, if◌then◌else◌}
use Rattle.std.specs.Bool.{beq}
use Rattle.std.specs.Prelude.{nat_lt, option_map, slice_index_or, slice_set}
use Rattle.std.proofs.lemmas.Bool.{eq-eqb, eqb-true}
use Rattle.std.proofs.lemmas.Bool.Decides.{nat_tests}
use Rattle.player_state.specs.Effects.{part_after}
use Rattle.player_state.specs.Outputs.{OutputsData, is_output, released}
use Rattle.player_state.specs.declared.effect.Effect.TheVariants.{ByCommand}
use Rattle.player_state.specs.declared.effect.CommandEffect.TheVariants.{Rests}
use Rattle.player_state.specs.declared.outputs.Carried.{Carried}
use Rattle.player_state.specs.declared.state.Part.{Part}
use Rattle.partition_table.specs.Openings.{OpeningsData}
use Rattle.partition_table.specs.Parts.{Known, carried_in, changed, known, known_at, moved_output, opening_part, outputs_moved, part_at, shown_outputs}
use Rattle.partition_table.specs.declared.crossing.Crossing.{Crossing}
use Rattle.partition_table.specs.declared.crossing.Crossing.TheVariants.{Stays, Opens, Closes, Brings}
use Rattle.partition_table.proofs.Looks.{at_known, if_new, known_changed, known_crossed, knowns_changed, knowns_moved, other_changed, own_changed, own_moved, part_moved}
use Rattle.transitions.specs.Transitions.{TransitionData, parts_after}

abbrev first : List Bool → Bool
first [] = false
first (x ∷ xs) = x

abbrev rest : List Bool → List Bool
rest [] = []
rest (x ∷ xs) = xs

-- for which outputs frames are, by where these were and are: for none that came or went
abbrev pub kept : List Bool → List Bool → List Bool → List Bool
kept before after [] = []
kept before after (x ∷ xs) = (x && beq (first before) (first after)) ∷ kept (rest before) (rest after) xs

kept_one : (x b : Bool) → (x && beq b b) ≡ x
kept_one true true = refl
kept_one true false = refl
kept_one false b = refl

and_false : (x : Bool) → (x && false) ≡ false
and_false true = refl
and_false false = refl

kept_same : (here asked : List Bool) → kept here here asked ≡ asked
kept_same here [] = refl
kept_same here (x ∷ xs) = λ i. kept_one x (first here) i ∷ kept_same (rest here) xs i

kept_released : (here asked : List Bool) (output : ℕ) → slice_index_or here output false ≡ true → kept here (slice_set here output false) asked ≡ slice_set asked output false
kept_released here [] output e = refl
kept_released [] (x ∷ xs) output e = cc
kept_released (h ∷ hs) (x ∷ xs) zero e = λ i. (ap (λ b. x && beq b false) e ∙ and_false x) i ∷ kept_same hs xs i
kept_released (h ∷ hs) (x ∷ xs) (suc output) e = λ i. kept_one x h i ∷ kept_released hs xs output e i

-- a partition as it was, with the outputs that all know; a new one is as at its opening
abbrev pub rebuilt : OpeningsData → Option Known → Option Part → Option Part
rebuilt openings None p = None
rebuilt openings (Some f) None = Some (opening_part openings f.index f.name f.outputs)
rebuilt openings (Some f) (Some p) = Some (record p { outputs = record f.outputs { asked = kept p.outputs.here f.outputs.here p.outputs.asked } })

-- a crossing that brings no output to a partition: a new one is as at its opening
abbrev pub IsForeign : OpeningsData → ℕ → Crossing → Type 0
IsForeign openings index Stays = Unit {0}
IsForeign openings index (Opens new) = new ≡ opening_part openings new.index new.name (shown_outputs new.outputs)
IsForeign openings index (Closes gone) = Unit {0}
IsForeign openings index (Brings output to) = (to == index) ≡ false

module _ (openings : OpeningsData) where
  rebuilt_one : (p : Part) → Some p ≡ rebuilt openings (Some (known p)) (Some p)
  rebuilt_one p = λ i. Some (record p { outputs = record p.outputs { asked = sym (kept_same p.outputs.here p.outputs.asked) i } })

  pub rebuilt_same : (p : Option Part) → rebuilt openings (option_map known p) p ≡ p
  rebuilt_same None = refl
  rebuilt_same (Some p) = sym (rebuilt_one p)

  module _ (index : ℕ) where
    opened : (new : Part) → IsForeign openings index (Opens new) → (room : Bool) → if_new index room new ≡ rebuilt openings (option_map known (if_new index room new)) None
    opened new e true =
        elim (new.index == index) as (λ b. (if b then Some new else None) ≡ rebuilt openings (option_map known (if b then Some new else None)) None) [ true ↦ ap Some e | false ↦ refl ]
    opened new e false = refl

    closed : (gone : ℕ) (p : Option Part) → (if gone == index then None else p) ≡ rebuilt openings (option_map known (if gone == index then None else p)) p
    closed gone p =
        elim (gone == index) as (λ b. (if b then None else p) ≡ rebuilt openings (option_map known (if b then None else p)) p) [ true ↦ refl | false ↦ sym (rebuilt_same p) ]

    abbrev IsRebuilt : Part → OutputsData → Type 0
    IsRebuilt p outputs = Some (record p { outputs = outputs }) ≡ rebuilt openings (Some (known (record p { outputs = outputs }))) (Some p)

    gone : (output : ℕ) (p : Part) → IsRebuilt p (if is_output p.outputs output then released p.outputs output else p.outputs)
    gone output p =
        let cases : (b : Bool) → is_output p.outputs output ≡ b → IsRebuilt p (if b then released p.outputs output else p.outputs) =
        λ b. elim b as (λ b. is_output p.outputs output ≡ b → IsRebuilt p (if b then released p.outputs output else p.outputs)) [
          | true ↦ λ e i. Some (record p { outputs = record (released p.outputs output) { asked = sym (kept_released p.outputs.here p.outputs.asked output e) i } })
          | false ↦ λ e. rebuilt_one p
        ] in
        cases (is_output p.outputs output) refl

    brought : (output to : ℕ) → (to == index) ≡ false → (c : Option Carried) (p : Part) → p.index ≡ index → Some (moved_output output to c p) ≡ rebuilt openings (Some (known (moved_output output to c p))) (Some p)
    brought output to other None p is = rebuilt_one p
    brought output to other (Some c) p is =
        let elsewhere : (p.index == to) ≡ false = grind (arith, nat_tests) in
        subst (λ b. IsRebuilt p (outputs_moved output b c p.outputs)) (sym elsewhere) (gone output p)

    moved_is_rebuilt : (c : Crossing) (fs : List Known) (q : Option Part) → ((p : Part) → q ≡ Some p → p.index ≡ index) → IsForeign openings index c
        → own_moved index c fs q ≡ rebuilt openings (option_map known (own_moved index c fs q)) q
    moved_is_rebuilt Stays fs q has foreign = sym (rebuilt_same q)
    moved_is_rebuilt (Opens new) fs None has foreign = opened new foreign (nat_lt (length fs) 16)
    moved_is_rebuilt (Opens new) fs (Some p) has foreign = rebuilt_one p
    moved_is_rebuilt (Closes gone) fs q has foreign = closed gone q
    moved_is_rebuilt (Brings output to) fs None has foreign = refl
    moved_is_rebuilt (Brings output to) fs (Some p) has foreign = brought output to foreign (carried_in output to fs) p (has p refl)

    pub found_index : (ps : List Part) (p : Part) → part_at index ps ≡ Some p → p.index ≡ index
    found_index [] p e = cc
    found_index (x ∷ ps) p e =
        let cases : (b : Bool) → (x.index == index) ≡ b → (if b then Some x else part_at index ps) ≡ Some p → p.index ≡ index =
        λ b. elim b as (λ b. (x.index == index) ≡ b → (if b then Some x else part_at index ps) ≡ Some p → p.index ≡ index) [
          | true ↦ λ t f. (let same : x ≡ p = cc in ap (λ (y : Part). y.index) (sym same) ∙ eqb-true x.index index t)
          | false ↦ λ t f. found_index ps p f
        ] in
        cases (x.index == index) refl e

    pub foreign_part : (rate at : ℕ) (t : TransitionData) (ps : List Part) → IsForeign openings index t.crossing → part_at index (changed rate at t.effect ps) ≡ part_at index ps
        → part_at index (parts_after rate at t ps) ≡ rebuilt openings (known_at index (map known (parts_after rate at t ps))) (part_at index ps)
    foreign_part rate at t ps foreign unaffected =
        let fs : List Known = map known (changed rate at t.effect ps) in
        let q : Option Part = part_at index ps in
        let is : part_at index (parts_after rate at t ps) ≡ own_moved index t.crossing fs q =
        part_moved index t.crossing (changed rate at t.effect ps) ∙ ap (own_moved index t.crossing fs) unaffected in
        is ∙ moved_is_rebuilt t.crossing fs q (λ p e. found_index ps p e) foreign
        ∙ ap (λ f. rebuilt openings f q) (ap (option_map known) (sym is) ∙ sym (at_known index (parts_after rate at t ps)))

-- an event that leaves the player as it is
pub rests : (rate at : ℕ) (ps : List Part) → changed rate at (ByCommand Rests) ps ≡ ps
rests rate at [] = refl
rests rate at (p ∷ ps) =
    elim (p.index == at) as (λ b. (if b then part_after rate p (ByCommand Rests) ∷ ps else p ∷ changed rate at (ByCommand Rests) ps) ≡ p ∷ ps)
    [ true ↦ refl | false ↦ ap (λ (qs : List Part). p ∷ qs) (rests rate at ps) ]

-- one transition in two daemons that agree on a partition
module _ (index : ℕ) (ps qs : List Part) (knowns : map known ps ≡ map known qs) (parts : part_at index ps ≡ part_at index qs) (rate at : ℕ) (t : TransitionData) where
  changed_same : map known (changed rate at t.effect ps) ≡ map known (changed rate at t.effect qs)
  changed_same = known_changed rate at t.effect ps ∙ ap (knowns_changed at t.effect) knowns ∙ sym (known_changed rate at t.effect qs)

  pub known_after : map known (parts_after rate at t ps) ≡ map known (parts_after rate at t qs)
  known_after = known_crossed t.crossing (changed rate at t.effect ps) ∙ ap (knowns_moved t.crossing) changed_same ∙ sym (known_crossed t.crossing (changed rate at t.effect qs))

  at_changed : part_at index (changed rate at t.effect ps) ≡ part_at index (changed rate at t.effect qs)
  at_changed =
      let own : at ≡ index → part_at index (changed rate at t.effect ps) ≡ part_at index (changed rate at t.effect qs) =
      λ e. subst (λ x. part_at index (changed rate x t.effect ps) ≡ part_at index (changed rate x t.effect qs)) (sym e)
      (own_changed index rate t.effect ps ∙ ap (option_map (λ (p : Part). part_after rate p t.effect)) parts ∙ sym (own_changed index rate t.effect qs)) in
      let other : at ≢ index → part_at index (changed rate at t.effect ps) ≡ part_at index (changed rate at t.effect qs) =
      λ e. other_changed index rate at t.effect ps e ∙ parts ∙ sym (other_changed index rate at t.effect qs e) in
      let cases : (b : Bool) → (at == index) ≡ b → part_at index (changed rate at t.effect ps) ≡ part_at index (changed rate at t.effect qs) =
      λ b. elim b as (λ b. (at == index) ≡ b → part_at index (changed rate at t.effect ps) ≡ part_at index (changed rate at t.effect qs))
      [ true ↦ λ e. own (eqb-true at index e) | false ↦ λ e. other (λ same. (let clash : true ≡ false = sym (eq-eqb at index same) ∙ e in cc)) ] in
      cases (at == index) refl

  pub part_after_same : part_at index (parts_after rate at t ps) ≡ part_at index (parts_after rate at t qs)
  part_after_same =
      part_moved index t.crossing (changed rate at t.effect ps) ∙ (λ i. own_moved index t.crossing (changed_same i) (at_changed i)) ∙ sym (part_moved index t.crossing (changed rate at t.effect qs))
