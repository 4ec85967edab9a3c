use Rattle.std.proofs.Common.{◌≡◌, ℕ, Bool, List, true, false, Option, Some, None, ap, sym, subst, ◌∙◌, rules, if◌then◌else◌}
use Rattle.std.specs.Option.{option_copied}
use Rattle.transitions.specs.Shelves.{is_written}
use Rattle.transitions.specs.Transitions.{TransitionData, acts, or_ended, quiet}
use Rattle.partition_table.specs.Parts.{FitsIn, part_at}
use Rattle.player_state.specs.declared.effect.AudioStep.{AudioStep}
use Rattle.player_state.specs.declared.effect.AudioStep.TheVariants.{Settles}
use Rattle.player_state.specs.declared.state.Part.{Part}
use Rattle.player_state.specs.Outputs.{is_output}
use Rattle.partition.specs.Applying.{WritesAlone, index_in_state}
use Rattle.partition.specs.Step.{absent, output_turn, want}
use Rattle.partition.proofs.event_transitions.transition_of_event.Goals as goal

-- what writes to the shelf does nothing else
fits_once : (part : Option Part) (b : Bool) (t : TransitionData) → FitsIn part t.effect → FitsIn part (if b then record (quiet t.response) { written = t.written } else t).effect
fits_once None b t fits = tt
fits_once (Some part) true t fits = tt
fits_once (Some part) false t fits = fits

-- the turn of an output writes nothing and fits
turn_alone : (ended : Bool) (part : Option Part) (output : ℕ) (step : AudioStep) → WritesAlone (or_ended ended (output_turn part output step))
turn_alone ended None output step = λ w. cc
turn_alone ended (Some part) output step =
    elim (is_output part.outputs output) as (λ b. WritesAlone (or_ended ended (if b then acts step else absent))) [ true ↦ λ w. cc | false ↦ λ w. cc ]

turn_fits : (ended : Bool) (part : Option Part) (output : ℕ) (step : AudioStep) → FitsIn part (or_ended ended (output_turn part output step)).effect
turn_fits ended None output step = tt
turn_fits ended (Some part) output step =
    elim (is_output part.outputs output) as (λ b. FitsIn (Some part) (or_ended ended (if b then acts step else absent)).effect) [ true ↦ tt | false ↦ tt ]

-- the want of a job fits
want_fits : (ended : Bool) (part : Option Part) (owes : List Bool) → FitsIn part (want ended part owes).effect
want_fits ended None owes = tt
want_fits true (Some part) owes = tt
want_fits false (Some part) owes = tt

pub returns-in_ok-transition-in-Line-clause-fits : goal.returns-in_ok-transition-in-Line-clause-fits
returns-in_ok-transition-in-Line-clause-fits c =
    let t : TransitionData = c.in_ok-transition-in-Line.transition in
    let here : Option Part = part_at (index_in_state c.args.state.now c.args.event.now) c.args.state.now.parts in
    let is : option_copied c.at-part.result ≡ here = search rules in
    subst (λ (u : TransitionData). FitsIn here u.effect) (sym c.once_written.ensures.transition)
    (fits_once here (is_written t.written) t (subst (λ (o : Option Part). FitsIn o t.effect) is c.in_ok-transition-in-Line.ensures.fits))

pub returns-in-Want-clause-fits : goal.returns-in-Want-clause-fits
returns-in-Want-clause-fits c =
    let here : Option Part = part_at (index_in_state c.args.state.now c.args.event.now) c.args.state.now.parts in
    let is : option_copied c.at-part.result ≡ here = search rules in
    subst (λ (u : TransitionData). FitsIn here u.effect)
    (sym (c.want.ensures ∙ ap (λ o. want c.args.state.now.ended o c.in-Want.owes) is))
    (want_fits c.args.state.now.ended here c.in-Want.owes)

pub returns-in-OutputTurn-clause-alone : goal.returns-in-OutputTurn-clause-alone
returns-in-OutputTurn-clause-alone c =
    let turn : AudioStep = Settles c.in-OutputTurn.output c.in-OutputTurn.written c.in-OutputTurn.discarded c.in-OutputTurn.failed in
    subst WritesAlone (sym (c.or_ended.ensures ∙ ap (or_ended c.args.state.now.ended) c.settle.ensures))
    (turn_alone c.args.state.now.ended (option_copied c.at-part.result) c.in-OutputTurn.output turn)

pub returns-in-OutputTurn-clause-fits : goal.returns-in-OutputTurn-clause-fits
returns-in-OutputTurn-clause-fits c =
    let turn : AudioStep = Settles c.in-OutputTurn.output c.in-OutputTurn.written c.in-OutputTurn.discarded c.in-OutputTurn.failed in
    let here : Option Part = part_at (index_in_state c.args.state.now c.args.event.now) c.args.state.now.parts in
    let is : option_copied c.at-part.result ≡ here = search rules in
    subst (λ (u : TransitionData). FitsIn here u.effect)
    (sym (c.or_ended.ensures ∙ ap (or_ended c.args.state.now.ended) (c.settle.ensures ∙ ap (λ o. output_turn o c.in-OutputTurn.output turn) is)))
    (turn_fits c.args.state.now.ended here c.in-OutputTurn.output turn)
