-- What one more event leaves of a part, by its number, and of what all know of the parts.
use Rattle.std.proofs.Common.{◌≡◌, ◌≢◌, ℕ, ◌==◌, Bool, true, false, not, List, [], ◌∷◌, ◌++◌, length, map, Option, Some, None, refl, ap, sym, ◌∙◌, arith, if◌then◌else◌}
use Rattle.std.specs.Prelude.{nat_lt, filter, option_map}
use Rattle.std.proofs.lemmas.Bool.Decides.{nat_tests}
use Rattle.player_core.specs.declared.state.Job.{Job}
use Rattle.player_state.specs.Effects.{asked_for, outputs_after, part_after, due_job}
use Rattle.player_state.specs.Outputs.{OutputsData, brought, is_output, released, switched, turned}
use Rattle.player_state.specs.declared.effect.Effect.{Effect}
use Rattle.player_state.specs.declared.effect.Effect.TheVariants.{ByCommand, ByAudio}
use Rattle.player_state.specs.declared.effect.CommandEffect.TheVariants.{Switches}
use Rattle.player_state.specs.declared.effect.AudioStep.TheVariants.{Wants, Settles}
use Rattle.player_state.specs.declared.outputs.Carried.{Carried}
use Rattle.player_state.specs.declared.state.Part.{Part}
use Rattle.partition_table.specs.declared.crossing.Crossing.{Crossing}
use Rattle.partition_table.specs.declared.crossing.Crossing.TheVariants.{Stays, Opens, Closes, Brings}
use Rattle.partition_table.specs.Parts.{Known, carried_in, changed, known, known_at, moved_output, once_more, outputs_moved, part_at, parts_moved, shown_outputs}

-- the first that is there
abbrev pub or_else : {A : Type 0} → Option A → Option A → Option A
or_else None b = b
or_else (Some a) b = Some a

nothing_left : (A : Type 0) (b : Bool) → ◌≡◌ {A = Option A} None (if b then None else None)
nothing_left A true = refl
nothing_left A false = refl

or_nothing : {A : Type 0} (a : Option A) → a ≡ or_else a None
or_nothing None = refl
or_nothing (Some a) = refl

module _ (index : ℕ) where
  pub own_changed : (rate : ℕ) (effect : Effect) (ps : List Part) → part_at index (changed rate index effect ps) ≡ option_map (λ p. part_after rate p effect) (part_at index ps)
  own_changed rate effect [] = refl
  own_changed rate effect (p ∷ ps) = grind (arith, nat_tests, own_changed rate effect ps)

  pub other_changed : (rate other : ℕ) (effect : Effect) (ps : List Part) → other ≢ index → part_at index (changed rate other effect ps) ≡ part_at index ps
  other_changed rate other effect [] apart = refl
  other_changed rate other effect (p ∷ ps) apart = grind (arith, nat_tests, other_changed rate other effect ps apart)

  pub at_known : (ps : List Part) → known_at index (map known ps) ≡ option_map known (part_at index ps)
  at_known [] = refl
  at_known (p ∷ ps) = grind (arith, nat_tests, at_known ps)

  at_added : (new : Part) (ps : List Part) → part_at index (ps ++ new ∷ []) ≡ or_else (part_at index ps) (if new.index == index then Some new else None)
  at_added new [] = refl
  at_added new (p ∷ ps) =
      elim (p.index == index) as (λ b. (if b then Some p else part_at index (ps ++ new ∷ [])) ≡ or_else (if b then Some p else part_at index ps) (if new.index == index then Some new else None))
      [ true ↦ refl | false ↦ at_added new ps ]

  -- a new part, if it is the one that is looked for
  abbrev pub if_new : Bool → Part → Option Part
  if_new room new = if room then (if new.index == index then Some new else None) else None

  at_opened : (new : Part) (ps : List Part) (room : Bool) → part_at index (if room then ps ++ new ∷ [] else ps) ≡ or_else (part_at index ps) (if_new room new)
  at_opened new ps true = at_added new ps
  at_opened new ps false = or_nothing (part_at index ps)

  at_closed : (gone : ℕ) (ps : List Part) → part_at index (filter (λ (p : Part). not (p.index == gone)) ps) ≡ (if gone == index then None else part_at index ps)
  at_closed gone [] = nothing_left Part (gone == index)
  at_closed gone (p ∷ ps) = grind (arith, nat_tests, at_closed gone ps)

  pub at_mapped : (f : Part → Part) → ((p : Part) → (f p).index ≡ p.index) → (ps : List Part) → part_at index (map f ps) ≡ option_map f (part_at index ps)
  at_mapped f keeps [] = refl
  at_mapped f keeps (p ∷ ps) =
      ap (λ n. if n == index then Some (f p) else part_at index (map f ps)) (keeps p)
      ∙ elim (p.index == index) as (λ b. (if b then Some (f p) else part_at index (map f ps)) ≡ option_map f (if b then Some p else part_at index ps)) [ true ↦ refl | false ↦ at_mapped f keeps ps ]

pub moved_keeps : (output to : ℕ) (c : Option Carried) (p : Part) → (moved_output output to c p).index ≡ p.index
moved_keeps output to None p = refl
moved_keeps output to (Some c) p = refl

pub length-map_known : (ps : List Part) → length (map known ps) ≡ length ps
length-map_known [] = refl
length-map_known (p ∷ ps) = grind (arith, length-map_known ps)

-- what a crossing leaves of a part, by what all knew
abbrev pub own_moved : ℕ → Crossing → List Known → Option Part → Option Part
own_moved index Stays fs p = p
own_moved index (Opens new) fs p = or_else p (if_new index (nat_lt (length fs) 16) new)
own_moved index (Closes gone) fs p = if gone == index then None else p
own_moved index (Brings output to) fs p = option_map (moved_output output to (carried_in output to fs)) p

pub part_moved : (index : ℕ) (c : Crossing) (ps : List Part) → part_at index (parts_moved c ps) ≡ own_moved index c (map known ps) (part_at index ps)
part_moved index Stays ps = refl
part_moved index (Opens new) ps =
    at_opened index new ps (nat_lt (length ps) 16) ∙ ap (λ n. or_else (part_at index ps) (if_new index (nat_lt n 16) new)) (sym (length-map_known ps))
part_moved index (Closes gone) ps = at_closed index gone ps
part_moved index (Brings output to) ps = at_mapped index (moved_output output to (carried_in output to (map known ps))) (moved_keeps output to (carried_in output to (map known ps))) ps

-- what all know of the outputs of a part after an event, by what all knew
abbrev pub outputs_known : OutputsData → Effect → OutputsData
outputs_known outputs (ByCommand (Switches output on)) = switched outputs output on
outputs_known outputs (ByAudio (Settles output written discarded failed)) = turned outputs output failed
outputs_known outputs _ = outputs

asked_unknown : (job : Option Job) (outputs : OutputsData) → shown_outputs (asked_for job outputs) ≡ shown_outputs outputs
asked_unknown None outputs = refl
asked_unknown (Some job) outputs = refl

turned_known : (output : ℕ) (failed : Bool) (outputs : OutputsData) → shown_outputs (turned outputs output failed) ≡ turned (shown_outputs outputs) output failed
turned_known output true outputs = refl
turned_known output false outputs = refl

pub outputs_are_known : (rate : ℕ) (p : Part) (effect : Effect) → shown_outputs (outputs_after rate p effect) ≡ outputs_known (shown_outputs p.outputs) effect
outputs_are_known rate p (ByCommand (Switches output on)) = refl
outputs_are_known rate p (ByAudio (Wants owes)) = asked_unknown (due_job rate p owes).job p.outputs
outputs_are_known rate p (ByAudio (Settles output written discarded failed)) = turned_known output failed p.outputs
outputs_are_known rate p _ = refl

abbrev pub knowns_changed : ℕ → Effect → List Known → List Known
knowns_changed index effect [] = []
knowns_changed index effect (f ∷ fs) = if f.index == index then record f { outputs = outputs_known f.outputs effect } ∷ fs else f ∷ knowns_changed index effect fs

abbrev known_with : Part → OutputsData → Known
known_with p outputs = record { index = p.index; name = p.name; outputs = outputs }

known_one : (rate : ℕ) (p : Part) (effect : Effect) → known (part_after rate p effect) ≡ record (known p) { outputs = outputs_known (shown_outputs p.outputs) effect }
known_one rate p effect = ap (known_with p) (outputs_are_known rate p effect)

pub known_changed : (rate index : ℕ) (effect : Effect) (ps : List Part) → map known (changed rate index effect ps) ≡ knowns_changed index effect (map known ps)
known_changed rate index effect [] = refl
known_changed rate index effect (p ∷ ps) =
    elim (p.index == index) as (λ b. map known (if b then part_after rate p effect ∷ ps else p ∷ changed rate index effect ps)
    ≡ (if b then record (known p) { outputs = outputs_known (shown_outputs p.outputs) effect } ∷ map known ps else known p ∷ knowns_changed index effect (map known ps))) [
      | true ↦ ap (λ (f : Known). f ∷ map known ps) (known_one rate p effect)
      | false ↦ ap (λ (fs : List Known). known p ∷ fs) (known_changed rate index effect ps)
    ]

abbrev pub known_moved : ℕ → ℕ → Option Carried → Known → Known
known_moved output to None f = f
known_moved output to (Some c) f = record f { outputs = shown_outputs (outputs_moved output (f.index == to) c f.outputs) }

-- which outputs come or go does not depend on those that frames are for
shown : (output : ℕ) (comes : Bool) (c : Carried) (outputs : OutputsData) → shown_outputs (outputs_moved output comes c outputs) ≡ shown_outputs (outputs_moved output comes c (shown_outputs outputs))
shown output true c outputs =
    let a : OutputsData = brought outputs output (once_more c) in
    let b : OutputsData = brought (shown_outputs outputs) output (once_more c) in
    elim (is_output outputs output) as (λ t. shown_outputs (if t then outputs else a) ≡ shown_outputs (if t then shown_outputs outputs else b)) [ true ↦ refl | false ↦ refl ]
shown output false c outputs =
    let a : OutputsData = released outputs output in
    let b : OutputsData = released (shown_outputs outputs) output in
    elim (is_output outputs output) as (λ t. shown_outputs (if t then a else outputs) ≡ shown_outputs (if t then b else shown_outputs outputs)) [ true ↦ refl | false ↦ refl ]

known_moved_one : (output to : ℕ) (c : Option Carried) (p : Part) → known (moved_output output to c p) ≡ known_moved output to c (known p)
known_moved_one output to None p = refl
known_moved_one output to (Some c) p =
    ap (known_with p) (shown output (p.index == to) c p.outputs)

known_mapped : (output to : ℕ) (c : Option Carried) (ps : List Part) → map known (map (moved_output output to c) ps) ≡ map (known_moved output to c) (map known ps)
known_mapped output to c [] = refl
known_mapped output to c (p ∷ ps) = λ i. known_moved_one output to c p i ∷ known_mapped output to c ps i

known_added : (new : Part) (ps : List Part) → map known (ps ++ new ∷ []) ≡ map known ps ++ known new ∷ []
known_added new [] = refl
known_added new (p ∷ ps) = ap (λ (fs : List Known). known p ∷ fs) (known_added new ps)

known_opened : (new : Part) (ps : List Part) (room : Bool) → map known (if room then ps ++ new ∷ [] else ps) ≡ (if room then map known ps ++ known new ∷ [] else map known ps)
known_opened new ps true = known_added new ps
known_opened new ps false = refl

known_closed : (gone : ℕ) (ps : List Part) → map known (filter (λ (p : Part). not (p.index == gone)) ps) ≡ filter (λ (f : Known). not (f.index == gone)) (map known ps)
known_closed gone [] = refl
known_closed gone (p ∷ ps) =
    elim (p.index == gone) as (λ b. map known (if not b then p ∷ filter (λ (p : Part). not (p.index == gone)) ps else filter (λ (p : Part). not (p.index == gone)) ps)
    ≡ (if not b then known p ∷ filter (λ (f : Known). not (f.index == gone)) (map known ps) else filter (λ (f : Known). not (f.index == gone)) (map known ps)))
    [ true ↦ known_closed gone ps | false ↦ ap (λ (fs : List Known). known p ∷ fs) (known_closed gone ps) ]

abbrev pub knowns_moved : Crossing → List Known → List Known
knowns_moved Stays fs = fs
knowns_moved (Opens new) fs = if nat_lt (length fs) 16 then fs ++ known new ∷ [] else fs
knowns_moved (Closes gone) fs = filter (λ (f : Known). not (f.index == gone)) fs
knowns_moved (Brings output to) fs = map (known_moved output to (carried_in output to fs)) fs

-- what all know of the parts after a crossing, by what all knew
pub known_crossed : (c : Crossing) (ps : List Part) → map known (parts_moved c ps) ≡ knowns_moved c (map known ps)
known_crossed Stays ps = refl
known_crossed (Opens new) ps =
    known_opened new ps (nat_lt (length ps) 16)
    ∙ ap (λ n. if nat_lt n 16 then map known ps ++ known new ∷ [] else map known ps) (sym (length-map_known ps))
known_crossed (Closes gone) ps = known_closed gone ps
known_crossed (Brings output to) ps = known_mapped output to (carried_in output to (map known ps)) ps

-- where the parts are seen through something else, as the past of each, a change of it is the change seen through it
module _ {A : Type 0} (see : A → Part) (rate index : ℕ) (effect : Effect) (after : A → A) (follows : (a : A) → see (after a) ≡ part_after rate (see a) effect) where
  abbrev pub changed_seen : List A → List A
  changed_seen [] = []
  changed_seen (a ∷ xs) = if (see a).index == index then after a ∷ xs else a ∷ changed_seen xs

  pub map-changed : (xs : List A) → map see (changed_seen xs) ≡ changed rate index effect (map see xs)
  map-changed [] = refl
  map-changed (a ∷ xs) =
      elim ((see a).index == index) as (λ b. map see (if b then after a ∷ xs else a ∷ changed_seen xs)
      ≡ (if b then part_after rate (see a) effect ∷ map see xs else see a ∷ changed rate index effect (map see xs))) [
        | true ↦ ap (λ (p : Part). p ∷ map see xs) (follows a)
        | false ↦ ap (λ (ps : List Part). see a ∷ ps) (map-changed xs)
      ]
