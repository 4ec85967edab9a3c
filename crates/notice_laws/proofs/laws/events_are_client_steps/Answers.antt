use Rattle.notice_laws.proofs.ClientSteps as client_steps
use Rattle.notice_laws.proofs.laws.events_are_client_steps.Goals as goal

pub returns : goal.returns
returns c = client_steps.events_are_client_steps
