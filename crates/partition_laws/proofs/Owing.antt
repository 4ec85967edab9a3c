-- Frames are fed to no output in whose ring frames waited when their job was given, and to none that came since.
use Rattle.std.proofs.Common.{◌≡◌, ℕ, zero, suc, ◌==◌, Bool, true, false, not, ◌&&◌, ◌||◌, List, [], ◌∷◌, map, Option, Some, None, refl, sym, ◌∙◌, subst, if◌then◌else◌}
use native.Mathlib.Omega.{arith}
use Rattle.std.specs.Prelude.{slice_index_or}
use Rattle.std.proofs.lemmas.List.{get_or_past}
use Rattle.player_core.specs.Decoding as decoding
use Rattle.player_core.specs.Player.{is_playing}
use Rattle.player_core.specs.declared.state.Job.{Job}
use Rattle.player_state.specs.Effects.{asked_for, entries, outputs_after, due_job}
use Rattle.player_state.specs.Outputs.{OutputsData, any_enabled, is_output, owes_any}
use Rattle.player_state.specs.declared.effect.AudioStep.TheVariants.{Wants}
use Rattle.player_state.specs.declared.effect.Effect.TheVariants.{ByAudio}
use Rattle.player_state.specs.declared.report.Report.TheVariants.{ToDecode}
use Rattle.player_state.specs.declared.state.Part.{Part}
use Rattle.partition_table.specs.Parts.{known, part_at}
use Rattle.player_events.specs.declared.event.Event.TheVariants.{Want}
use Rattle.partition.specs.Image.{Image}
use Rattle.partition.specs.Step.{next_image}
use Rattle.partition_laws.specs.Apart.{after_events}
use Rattle.partition_laws.specs.Moves.{AreApart, HasEight, IsDisjoint, IsAt}
use Rattle.partition_laws.specs.Owing.{FeedsNoNewcomer, FeedsOweNothing, is_job}
use Rattle.partition_laws.proofs.Asking.{AsksOnly, only_fed, only_first, only_over}
use Rattle.partition_laws.proofs.Reports.{is_at}

module _ (index : ℕ) (owes : List Bool) where
  -- no frames waited in the ring of an output
  abbrev OwesNone : ℕ → ℕ → Type 0
  OwesNone output moves = slice_index_or owes output false ≡ false

  none_either : (a b : Bool) → (a || b) ≡ false → (a ≡ false) × (b ≡ false)
  none_either true b e = cc
  none_either false b e = (refl, e)

  none_owed : (is owed : Bool) → (is && owed) ≡ false → is ≡ true → owed ≡ false
  none_owed true owed e f = e
  none_owed false owed e f = cc

  none_owing : (outputs : OutputsData) → HasEight outputs → owes_any outputs owes ≡ false → (output : ℕ) → is_output outputs output ≡ true → slice_index_or owes output false ≡ false
  none_owing outputs eight e output =
      let owed : ℕ → Bool = λ n. is_output outputs n && slice_index_or owes n false in
      let zeroth = none_either (owed 0) _ e in
      let first = none_either (owed 1) _ zeroth.1 in
      let second = none_either (owed 2) _ first.1 in
      let third = none_either (owed 3) _ second.1 in
      let fourth = none_either (owed 4) _ third.1 in
      let fifth = none_either (owed 5) _ fourth.1 in
      let sixth = none_either (owed 6) _ fifth.1 in
      let seventh = none_either (owed 7) _ sixth.1 in
      elim output as (λ n. is_output outputs n ≡ true → slice_index_or owes n false ≡ false) [
        | zero ↦ none_owed (is_output outputs 0) _ zeroth.0
        | suc zero ↦ none_owed (is_output outputs 1) _ first.0
        | suc (suc zero) ↦ none_owed (is_output outputs 2) _ second.0
        | suc (suc (suc zero)) ↦ none_owed (is_output outputs 3) _ third.0
        | suc (suc (suc (suc zero))) ↦ none_owed (is_output outputs 4) _ fourth.0
        | suc (suc (suc (suc (suc zero)))) ↦ none_owed (is_output outputs 5) _ fifth.0
        | suc (suc (suc (suc (suc (suc zero))))) ↦ none_owed (is_output outputs 6) _ sixth.0
        | suc (suc (suc (suc (suc (suc (suc zero)))))) ↦ none_owed (is_output outputs 7) _ seventh.0
        | suc (suc (suc (suc (suc (suc (suc (suc n))))))) ↦ λ f.
            let past : is_output outputs (suc (suc (suc (suc (suc (suc (suc (suc n)))))))) ≡ false = get_or_past outputs.here (suc (suc (suc (suc (suc (suc (suc (suc n)))))))) false (omega (arith, eight.here)) in
            let clash : true ≡ false = sym f ∙ past in cc
      ]

  module _ (rate : ℕ) (p : Part) (eight : HasEight p.outputs) where
    owed_none : (waits : Bool) → is_job (ToDecode (due_job rate p waits).job) ≡ true → waits ≡ false
    owed_none false e = refl
    owed_none true e =
        let by : (plays on : Bool) → is_job (ToDecode (if plays && on && not true then decoding.want_of rate p.player (entries p) p.player.current else decoding.nothing p.player).job) ≡ true → true ≡ false =
        λ plays on. elim plays as (λ plays. is_job (ToDecode (if plays && on && not true then decoding.want_of rate p.player (entries p) p.player.current else decoding.nothing p.player).job) ≡ true → true ≡ false) [
          | true ↦ elim on as (λ on. is_job (ToDecode (if true && on && not true then decoding.want_of rate p.player (entries p) p.player.current else decoding.nothing p.player).job) ≡ true → true ≡ false) [ true ↦ λ f. sym f | false ↦ λ f. sym f ]
          | false ↦ λ f. sym f
        ] in
        by (is_playing p.player.playback) (any_enabled p.outputs) e

    none_given : (job : Option Job) → is_job (ToDecode job) ≡ true → owes_any p.outputs owes ≡ false → AsksOnly index OwesNone (asked_for job p.outputs)
    none_given None e f = cc
    none_given (Some job) e f = none_owing p.outputs eight f

    none_due : is_job (ToDecode (due_job rate p (owes_any p.outputs owes)).job) ≡ true → AsksOnly index OwesNone (outputs_after rate p (ByAudio (Wants (owes_any p.outputs owes))))
    none_due e = none_given (due_job rate p (owes_any p.outputs owes)).job e (owed_none (owes_any p.outputs owes) e)

  eight_at : (p : Part) (ps : List Part) → AreApart (map known ps) → part_at index ps ≡ Some p → HasEight p.outputs
  eight_at p [] apart e = cc
  eight_at p (q ∷ ps) apart e =
      let cases : (b : Bool) → (if b then Some q else part_at index ps) ≡ Some p → HasEight p.outputs =
      λ b. elim b as (λ b. (if b then Some q else part_at index ps) ≡ Some p → HasEight p.outputs) [
        | true ↦ λ f. (let same : q ≡ p = cc in subst (λ (y : Part). HasEight y.outputs) same (record { here = apart.1.here; moves = apart.1.moves }))
        | false ↦ λ f. eight_at p ps apart.3 f
      ] in
      cases (q.index == index) e

pub feeds_owe_nothing : FeedsOweNothing
feeds_owe_nothing i seat index owes es has e g number frames feed f output moves h =
    let P : ℕ → ℕ → Type 0 = OwesNone index owes in
    let begun : Image = next_image seat i (Want index owes) in
    let first = only_first index P seat owes i has.disjoint (λ p at job. none_due index owes i.shared.library.rate p (eight_at index owes p i.parts has.disjoint at) job) e in
    only_fed index P (after_events begun es) number frames feed (only_over index P begun es g first) f output moves h

-- an output is in the partition, moved so often
asked_at : (i : Image) (index : ℕ) (p : Part) (job : Option Job) → IsDisjoint i → part_at index i.parts ≡ Some p → is_job (ToDecode job) ≡ true
    → AsksOnly index (λ output moves. IsAt output i (record { index = index; moves = moves })) (asked_for job p.outputs)
asked_at i index p None disjoint at e = cc
asked_at i index p (Some job) disjoint at e = λ output here. is_at i index p output disjoint at here

pub feeds_no_newcomer : FeedsNoNewcomer
feeds_no_newcomer i seat index owes es has e g number frames feed f output moves h =
    let P : ℕ → ℕ → Type 0 = λ output moves. IsAt output i (record { index = index; moves = moves }) in
    let begun : Image = next_image seat i (Want index owes) in
    let first = only_first index P seat owes i has.disjoint (λ p at job. asked_at i index p (due_job i.shared.library.rate p (owes_any p.outputs owes)).job has.disjoint at job) e in
    only_fed index P (after_events begun es) number frames feed (only_over index P begun es g first) f output moves h
