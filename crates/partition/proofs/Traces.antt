-- What is true of each transition of a trace.
use Rattle.std.proofs.Common.{◌≡◌, ◌≤◌, List, [], ◌∷◌, ◌++◌, map, reverse, refl, ap, sym, subst, ◌∙◌, append_assoc, append-nil}
use Rattle.std.proofs.lemmas.List.{map-append, reverse-append}
use Rattle.player_state.specs.declared.state.Library.{Library}
use Rattle.player_events.specs.declared.event.Event.{Event}
use Rattle.player_events.specs.declared.event.LogEntry.{LogEntry}
use Rattle.partition.specs.declared.state.Setup.{Setup}
use Rattle.player_events.specs.Outcomes.{OutcomeData}
use Rattle.connected_clients.specs.Clients.{Rising}
use Rattle.partition.specs.History.{AreTold}
use Rattle.partition.specs.Image.{Image, opening}
use Rattle.partition.specs.Step.{transition, told, next_image}
use Rattle.partition.specs.World.{WorldTransition, Trace, image_of, trace_after_event, trace_from, opening_trace, trace_after}
use Rattle.partition.specs.Notices.{Raises, Tells, EachWorldTransition, AreOutcomes, outcome_at, outcome_in}
use Rattle.partition.proofs.WorldTransitions.{world_transition_of, raises, tells}
use Rattle.partition.proofs.Worlds.{AllBegun, begun_after, image_of-step, opening_begun, rising-step, opens}

-- what each step makes true of its transition is true of all transitions
each_from : (P : WorldTransition → List WorldTransition → Type 0)
    → ((trace : Trace) (done : List LogEntry) (event : Event) → 1 ≤ trace.world.openings.greatest.max_version → AllBegun trace.world.parts → Rising (image_of trace done).clients
    → P (world_transition_of trace done event) trace.world_transitions)
    → (trace : Trace) (done hs : List LogEntry) → 1 ≤ trace.world.openings.greatest.max_version → AllBegun trace.world.parts → Rising (image_of trace done).clients
    → EachWorldTransition P trace.world_transitions → EachWorldTransition P (trace_from done trace hs).world_transitions
each_from P holds trace done [] above begun rising each = each
each_from P holds trace done (h ∷ hs) above begun rising each =
    each_from P holds (trace_after_event done trace h.event) (done ++ h ∷ []) hs above (begun_after trace done h.event above begun rising)
    (rising-step trace done h.event above begun rising h) (holds trace done h.event above begun rising, each)

-- of every history
pub all_raise : (setup : Setup) (library : Library) (history : List LogEntry) → 1 ≤ setup.limits.max_version
    → EachWorldTransition (λ world_transition earlier. Raises world_transition) (trace_after (opening setup library) history).world_transitions
all_raise setup library history above =
    each_from (λ world_transition earlier. Raises world_transition) raises (opening_trace (opening setup library)) [] history above (opening_begun setup library above) tt tt

pub all_tell : (setup : Setup) (library : Library) (history : List LogEntry) → 1 ≤ setup.limits.max_version
    → EachWorldTransition Tells (trace_after (opening setup library) history).world_transitions
all_tell setup library history above = each_from Tells tells (opening_trace (opening setup library)) [] history above (opening_begun setup library above) tt tt

one_outcome : (trace : Trace) (done : List LogEntry) (h : LogEntry) → h.told ≡ told (image_of trace done) h.event → outcome_at (world_transition_of trace done h.event) ≡ outcome_in h
unfolding told
one_outcome trace done h e = ap (λ (t : OutcomeData). (h.event, t)) (sym e)

outcomes_from : (trace : Trace) (done hs : List LogEntry) → 1 ≤ trace.world.openings.greatest.max_version → AllBegun trace.world.parts → Rising (image_of trace done).clients
    → AreTold (image_of trace done) hs
    → map outcome_at (reverse (trace_from done trace hs).world_transitions) ≡ map outcome_at (reverse trace.world_transitions) ++ map outcome_in hs
outcomes_from trace done [] above begun rising told = sym (append-nil (map outcome_at (reverse trace.world_transitions)))
outcomes_from trace done (h ∷ hs) above begun rising told =
    let m : WorldTransition = world_transition_of trace done h.event in
    let was : List (Event × OutcomeData) = map outcome_at (reverse trace.world_transitions) in
    let rest : List (Event × OutcomeData) = map outcome_in hs in
    let next_is : next_image h.seat (image_of trace done) h.event ≡ image_of (trace_after_event done trace h.event) (done ++ h ∷ []) =
    sym (image_of-step trace done h.event above begun rising h refl) in
    let more =
    outcomes_from (trace_after_event done trace h.event) (done ++ h ∷ []) hs above (begun_after trace done h.event above begun rising)
    (rising-step trace done h.event above begun rising h) (subst (λ (i : Image). AreTold i hs) next_is told.1) in
    let last : map outcome_at (reverse (m ∷ trace.world_transitions)) ≡ was ++ outcome_at m ∷ [] =
    ap (map outcome_at) (reverse-append (m ∷ []) trace.world_transitions) ∙ map-append outcome_at (reverse trace.world_transitions) (m ∷ []) in
    more ∙ ap (λ (l : List (Event × OutcomeData)). l ++ rest) last ∙ append_assoc was (outcome_at m ∷ []) rest
    ∙ ap (λ (x : Event × OutcomeData). was ++ x ∷ rest) (one_outcome trace done h told.0)

-- what was told at the events of a history is what their transitions tell
pub all_outcomes : (setup : Setup) (library : Library) (history : List LogEntry) → 1 ≤ setup.limits.max_version → AreTold (opening setup library) history
    → AreOutcomes (trace_after (opening setup library) history).world_transitions history
all_outcomes setup library history above told =
    outcomes_from (opening_trace (opening setup library)) [] history above (opening_begun setup library above) tt (subst (λ (i : Image). AreTold i history) (opens setup library above) told)
