-- How often an output was moved, after an event of a part, and below a greater limit.
use Rattle.std.proofs.Common.{◌≡◌, ◌≤◌, ℕ, ◌==◌, nat_le, Bool, true, false, List, [], ◌∷◌, map, Option, Some, None, is_some, refl, ap, sym, ◌∙◌, arith, if◌then◌else◌}
use Rattle.std.specs.Prelude.{slice_index_or}
use Rattle.std.proofs.lemmas.Bool.Decides.{nat_tests}
use Rattle.player_state.specs.Outputs.{OutputsData, carried, is_output}
use Rattle.player_state.specs.declared.effect.Effect.{Effect}
use Rattle.player_state.specs.declared.effect.Effect.TheVariants.{ByCommand, ByAudio}
use Rattle.player_state.specs.declared.effect.CommandEffect.TheVariants.{Switches}
use Rattle.player_state.specs.declared.effect.AudioStep.TheVariants.{Settles}
use Rattle.player_state.specs.declared.outputs.Carried.{Carried}
use Rattle.player_state.specs.declared.state.Part.{Part}
use Rattle.partition_table.specs.declared.crossing.Crossing.{Crossing}
use Rattle.partition_table.specs.declared.crossing.Crossing.TheVariants.{Stays, Opens, Closes, Brings}
use Rattle.partition_table.specs.Parts.{Known, carried_from, carried_in, changed, crosses_beyond, has_index, holding, is_beyond, known, known_at}
use Rattle.partition_table.proofs.Looks.{known_changed, knowns_changed, outputs_known}

pub here_known : (outputs : OutputsData) (effect : Effect) → (outputs_known outputs effect).here ≡ outputs.here
here_known outputs (ByCommand (Switches output on)) = refl
here_known outputs (ByAudio (Settles output written discarded true)) = refl
here_known outputs (ByAudio (Settles output written discarded false)) = refl
here_known outputs _ = refl

pub moves_known : (outputs : OutputsData) (effect : Effect) → (outputs_known outputs effect).moves ≡ outputs.moves
moves_known outputs (ByCommand (Switches output on)) = refl
moves_known outputs (ByAudio (Settles output written discarded true)) = refl
moves_known outputs (ByAudio (Settles output written discarded false)) = refl
moves_known outputs _ = refl

module _ (most output to : ℕ) where
  abbrev beyond : Option Known → Bool
  beyond f = is_beyond most (carried_from output to f)

  -- a look at a part, by where its outputs are and how often they were moved
  abbrev seen : ℕ → List Bool → List ℕ → Option Known → Bool
  seen index here moves rest = if slice_index_or here output false then (if index == to then false else nat_le most (slice_index_or moves output 0)) else beyond rest

  looks : (f : Known) (rest : Option Known) → beyond (if is_output f.outputs output then Some f else rest) ≡ seen f.index f.outputs.here f.outputs.moves rest
  looks f rest =
      let moved : Bool = nat_le most (slice_index_or f.outputs.moves output 0) in
      let here : is_beyond most (if f.index == to then None else Some (carried f.outputs output)) ≡ (if f.index == to then false else moved) =
      elim (f.index == to) as (λ b. is_beyond most (if b then None else Some (carried f.outputs output)) ≡ (if b then false else moved)) [ true ↦ refl | false ↦ refl ] in
      elim (is_output f.outputs output) as (λ b. beyond (if b then Some f else rest) ≡ (if b then (if f.index == to then false else moved) else beyond rest)) [ true ↦ here | false ↦ refl ]

  module _ (index : ℕ) (effect : Effect) where
    beyond_changed : (fs : List Known) → beyond (holding output (knowns_changed index effect fs)) ≡ beyond (holding output fs)
    beyond_changed [] = refl
    beyond_changed (f ∷ fs) =
        let g : Known = record f { outputs = outputs_known f.outputs effect } in
        let same : seen f.index g.outputs.here g.outputs.moves (holding output fs) ≡ seen f.index f.outputs.here f.outputs.moves (holding output fs) =
        λ i. seen f.index (here_known f.outputs effect i) (moves_known f.outputs effect i) (holding output fs) in
        let own : beyond (holding output (g ∷ fs)) ≡ beyond (holding output (f ∷ fs)) = looks g (holding output fs) ∙ same ∙ sym (looks f (holding output fs)) in
        let rest : beyond (holding output (f ∷ knowns_changed index effect fs)) ≡ beyond (holding output (f ∷ fs)) =
        elim (is_output f.outputs output) as (λ b. beyond (if b then Some f else holding output (knowns_changed index effect fs)) ≡ beyond (if b then Some f else holding output fs))
        [ true ↦ refl | false ↦ beyond_changed fs ] in
        elim (f.index == index) as (λ b. beyond (holding output (if b then g ∷ fs else f ∷ knowns_changed index effect fs)) ≡ beyond (holding output (f ∷ fs))) [ true ↦ own | false ↦ rest ]

    index_changed : (fs : List Known) → has_index to (knowns_changed index effect fs) ≡ has_index to fs
    index_changed [] = refl
    index_changed (f ∷ fs) =
        let g : Known = record f { outputs = outputs_known f.outputs effect } in
        let own : has_index to (g ∷ fs) ≡ has_index to (f ∷ fs) =
        elim (f.index == to) as (λ b. is_some (if b then Some g else known_at to fs) ≡ is_some (if b then Some f else known_at to fs)) [ true ↦ refl | false ↦ refl ] in
        let rest : has_index to (f ∷ knowns_changed index effect fs) ≡ has_index to (f ∷ fs) =
        elim (f.index == to) as (λ b. is_some (if b then Some f else known_at to (knowns_changed index effect fs)) ≡ is_some (if b then Some f else known_at to fs))
        [ true ↦ refl | false ↦ index_changed fs ] in
        elim (f.index == index) as (λ b. has_index to (if b then g ∷ fs else f ∷ knowns_changed index effect fs) ≡ has_index to (f ∷ fs)) [ true ↦ own | false ↦ rest ]

    brings_changed : (fs : List Known) → is_beyond most (carried_in output to (knowns_changed index effect fs)) ≡ is_beyond most (carried_in output to fs)
    brings_changed fs =
        let there : (b : Bool) → is_beyond most (if b then carried_from output to (holding output (knowns_changed index effect fs)) else None)
        ≡ is_beyond most (if b then carried_from output to (holding output fs) else None) =
        λ b. elim b as (λ b. is_beyond most (if b then carried_from output to (holding output (knowns_changed index effect fs)) else None)
        ≡ is_beyond most (if b then carried_from output to (holding output fs) else None)) [ true ↦ beyond_changed fs | false ↦ refl ] in
        ap (λ b. is_beyond most (if b then carried_from output to (holding output (knowns_changed index effect fs)) else None)) (index_changed fs) ∙ there (has_index to fs)

-- an event of a part moves no output
pub crosses_changed : (most rate index : ℕ) (effect : Effect) (c : Crossing) (ps : List Part)
    → crosses_beyond most c (map known (changed rate index effect ps)) ≡ crosses_beyond most c (map known ps)
crosses_changed most rate index effect Stays ps = refl
crosses_changed most rate index effect (Opens new) ps = refl
crosses_changed most rate index effect (Closes gone) ps = refl
crosses_changed most rate index effect (Brings output to) ps =
    ap (λ fs. is_beyond most (carried_in output to fs)) (known_changed rate index effect ps) ∙ brings_changed most output to index effect (map known ps)

below : (most greater : ℕ) (c : Option Carried) → most ≤ greater → is_beyond most c ≡ false → is_beyond greater c ≡ false
below most greater None less e = refl
below most greater (Some c) less e = grind (arith, nat_tests)

-- what is within a limit is within a greater one
pub crosses_below : (most greater : ℕ) (c : Crossing) (fs : List Known) → most ≤ greater → crosses_beyond most c fs ≡ false → crosses_beyond greater c fs ≡ false
crosses_below most greater Stays fs less e = refl
crosses_below most greater (Opens new) fs less e = refl
crosses_below most greater (Closes gone) fs less e = refl
crosses_below most greater (Brings output to) fs less e = below most greater (carried_in output to fs) less e

-- so that an output can be moved behind an event of a part, where it could before within a limit
pub can_cross : (most rate index : ℕ) (effect : Effect) (c : Crossing) (ps : List Part) → most ≤ 18446744073709551615 → crosses_beyond most c (map known ps) ≡ false
    → crosses_beyond 18446744073709551615 c (map known (changed rate index effect ps)) ≡ false
can_cross most rate index effect c ps less e =
    crosses_below most 18446744073709551615 c (map known (changed rate index effect ps)) less (crosses_changed most rate index effect c ps ∙ e)
