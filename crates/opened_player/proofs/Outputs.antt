-- One output more.
use Rattle.std.proofs.Common.{◌≡◌, ◌∙◌, ◌+◌, ◌<◌, ◌≤◌, ℕ, zero, suc, Bool, true, List, [], ◌∷◌, ◌++◌, length, map, refl, sym, ap, arith, slice_set, string_bytes, take, get_or, add-one}
use Rattle.std.proofs.Math.Seq.{take-suc}
use Rattle.std.proofs.lemmas.List.{length-map, length-take-le, map-append}
use Rattle.player_state.specs.Outputs.{OutputsData, with_output}
use Rattle.settings.specs.declared.values.OutputSettings.{OutputSettings}
use Rattle.opened_player.specs.Opened.{flags, outputs_for}

-- the first flag that was not given is set
flag_more : (n : ℕ) (given : List Bool) (flag : Bool) → length given < n → slice_set (flags n given) (length given) flag ≡ flags n (given ++ flag ∷ [])
flag_more zero given flag few = absurd (omega arith)
flag_more (suc n) [] flag few = refl
flag_more (suc n) (f ∷ given) flag few = ap (λ more. f ∷ more) (flag_more n given flag (omega arith))

-- the same of a flag of each output
flag_of_each : (names : OutputSettings → List ℕ) (flag : OutputSettings → Bool) (outputs : List OutputSettings) (output : OutputSettings) → length outputs < 8
    → slice_set (flags 8 (map flag outputs)) (length (map names outputs)) (flag output) ≡ flags 8 (map flag (outputs ++ output ∷ []))
flag_of_each names flag outputs output few =
    let as_many : length (map names outputs) ≡ length (map flag outputs) = length-map outputs names ∙ sym (length-map outputs flag) in
    ap (λ n. slice_set (flags 8 (map flag outputs)) n (flag output)) as_many
    ∙ flag_more 8 (map flag outputs) (flag output) (omega (arith, length-map outputs flag))
    ∙ ap (flags 8) (sym (map-append flag outputs (output ∷ [])))

pub output_more : (outputs : List OutputSettings) (output : OutputSettings) → length outputs < 8
    → with_output (outputs_for outputs) (string_bytes output.name) output.enabled ≡ outputs_for (outputs ++ output ∷ [])
output_more outputs output few =
    let names = map-append (λ (o : OutputSettings). string_bytes o.name) outputs (output ∷ []) in
    let here = flag_of_each (λ o. string_bytes o.name) (λ o. true) outputs output few in
    let enabled = flag_of_each (λ o. string_bytes o.name) (λ o. o.enabled) outputs output few in
    cc

-- the next output of a list is added to those before it
pub next_output : (all : List OutputSettings) (i : ℕ) (output : OutputSettings) (outputs : OutputsData) → length all ≤ 8 → i < length all → output ≡ get_or all i output
    → outputs ≡ outputs_for (take i all) → with_output outputs (string_bytes output.name) output.enabled ≡ outputs_for (take (i + 1) all)
next_output all i output outputs most here at is =
    let few : length (take i all) < 8 = omega (arith, length-take-le i all (omega arith)) in
    let next : take (i + 1) all ≡ take i all ++ output ∷ [] = rw add-one (take-suc all i output here ∙ ap (λ o. take i all ++ o ∷ []) (sym at)) in
    ap (λ before. with_output before (string_bytes output.name) output.enabled) is
    ∙ output_more (take i all) output few ∙ ap outputs_for (sym next)

-- so many outputs were added
pub count_of_outputs : (all : List OutputSettings) (i : ℕ) (outputs : OutputsData) → i ≤ length all → outputs ≡ outputs_for (take i all) → length outputs.names ≡ i
count_of_outputs all i outputs within is =
    ap (λ o. length o.names) is ∙ length-map (take i all) (λ (o : OutputSettings). string_bytes o.name) ∙ length-take-le i all within
