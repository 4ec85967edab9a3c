-- What becomes of an event that is no line, by what is said of each event that is lent a shelf.
use Rattle.std.proofs.Common.{◌≡◌, inl, inr, ℕ, false, List, [], ◌∷◌, ◌++◌, None, ap, sym, subst, ◌∙◌}
use Rattle.std.specs.Prelude.{Result, Ok, Err, IfErr, IfOk, OnOk}
use Rattle.shelf.specs.Calls.{Call}
use Rattle.shelf.specs.Maps.{Standing}
use Rattle.player_events.specs.declared.event.Event.{Event}
use Rattle.player_events.specs.declared.event.LogEntry.{LogEntry}
use Rattle.partition.specs.declared.partition.PartitionFault.{PartitionFault}
use Rattle.player_events.specs.Outcomes.{OutcomeData}
use Rattle.partition.specs.History.{Chronicle, joined_by, with_room}
use Rattle.partition.specs.Image.{Image}
use Rattle.partition.specs.Lent.{Records, Refuses}
use Rattle.partition.specs.Refusals.{MayRefuse}
use Rattle.player_events.specs.Events.{with_store_reply}
use Rattle.partition.specs.Step.{limit_of, next_image, told}
use Rattle.partition.specs.Steps.{RefusesStep, entry}
use Rattle.player_events.specs.Events.{is_line}
use Rattle.partition.proofs.Stepping.{hears_nothing}

-- a player of which all parts are those after an event
joins : (before after : Chronicle) (h : LogEntry) → after.base ≡ (with_room before).base → after.limit ≡ before.limit
    → after.window ≡ (with_room before).window ++ h ∷ [] → after.present ≡ next_image h.seat before.present h.event
    → after ≡ joined_by before h
joins before after h base limit window present =
    λ j. record { base = base j; window = window j; present = present j; limit = limit j }

module _ {S : Type 0} (standing : S → Standing) (failed : S → S → Call → Type 0) (before after : Chronicle) (old new : S) (seat : ℕ) (event : Event) (step : is_line event ≡ false) where
  abbrev Joined : Result OutcomeData PartitionFault → Type 0
  Joined r = IfOk r (λ outcome. Records standing failed before.present after.present (with_room before).window after.window old new seat event outcome)

  pub step_told : (r : Result OutcomeData PartitionFault) → Joined r → IfOk r (λ outcome. outcome ≡ told before.present event)
  step_told (Ok outcome) records = records.told_is ∙ ap (told before.present) (hears_nothing event records.heard step)
  step_told (Err fault) records = tt

  pub step_within : (r : Result OutcomeData PartitionFault) → Joined r → OnOk r (limit_of seat before.present event ≡ None)
  step_within (Ok outcome) records = ap (limit_of seat before.present) (sym (hears_nothing event records.heard step)) ∙ records.within
  step_within (Err fault) records = tt

  pub step_joins : (r : Result OutcomeData PartitionFault) → OnOk r (after.base ≡ (with_room before).base) → after.limit ≡ before.limit → Joined r
      → IfOk r (λ outcome. after ≡ joined_by before (entry seat event outcome))
  step_joins (Ok outcome) base limit records =
      let heard : with_store_reply event records.heard ≡ event = hears_nothing event records.heard step in
      joins before after (entry seat event outcome) base limit
      (records.window ∙ ap (λ (e : Event). (with_room before).window ++ entry seat e outcome ∷ []) heard)
      (records.present ∙ ap (next_image seat before.present) heard)
  step_joins (Err fault) base limit records = tt

  pub step_refused : (r : Result OutcomeData PartitionFault) → IfErr r (λ fault. Refuses standing failed before after old new seat event fault)
      → IfErr r (λ fault. RefusesStep before after seat event fault)
  step_refused (Ok outcome) refuses = tt
  step_refused (Err fault) (inl full) = inl (full.0, (full.1.0, full.1.1.0))
  step_refused (Err fault) (inr roomy) =
      inr (roomy.0, subst (λ (e : Event). MayRefuse (limit_of seat before.present e) fault) (hears_nothing event roomy.1.heard step) roomy.1.refused)
