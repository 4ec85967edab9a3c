use Rattle.std.proofs.Common.{Result, Ok, Err}
use Rattle.std.specs.Prelude.{IfOk}
use Rattle.player_state.specs.Fits.{Fits}
use Rattle.player_state.specs.declared.state.Part.{Part}
use Rattle.transitions.specs.Transitions.{TransitionData}
use Rattle.partition.proofs.event_transitions.run.Goals as goal

-- what fits every part fits this one
fits_one : {E : Type 0} (part : Part) (r : Result TransitionData E) → IfOk r (λ t. (p : Part) → Fits p t.effect) → IfOk r (λ t. Fits part t.effect)
fits_one part (Ok t) fits = fits part
fits_one part (Err e) fits = tt

pub returns-in-Connection-clause-fits : goal.returns-in-Connection-clause-fits
returns-in-Connection-clause-fits c = fits_one c.args.part.now c.run-in-Connection.result c.run-in-Connection.ensures.fits
