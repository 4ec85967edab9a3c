use Rattle.state_laws.proofs.Example.{assumptions_are_met}
use Rattle.state_laws.proofs.SetUp.{settings_are_set_up, settings_leave_room}
use Rattle.state_laws.proofs.laws.settings_are_set_up.Goals as goal

pub returns-clause-outputs : goal.returns-clause-outputs
returns-clause-outputs c = settings_are_set_up

pub returns-clause-room : goal.returns-clause-room
returns-clause-room c = settings_leave_room

pub returns-clause-met : goal.returns-clause-met
returns-clause-met c = assumptions_are_met
