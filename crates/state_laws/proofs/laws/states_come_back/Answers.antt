use Rattle.state_laws.proofs.Back.{line_is_read}
use Rattle.state_laws.proofs.Happened.{steps_happen}
use Rattle.state_laws.proofs.Telling.{steps_told}
use Rattle.state_laws.proofs.Whole.{state_comes_back}
use Rattle.state_laws.proofs.laws.states_come_back.Goals as goal

pub returns-clause-line : goal.returns-clause-line
returns-clause-line c = line_is_read

pub returns-clause-state : goal.returns-clause-state
returns-clause-state c = state_comes_back

pub returns-clause-events : goal.returns-clause-events
returns-clause-events c = steps_happen

pub returns-clause-told : goal.returns-clause-told
returns-clause-told c = steps_told
