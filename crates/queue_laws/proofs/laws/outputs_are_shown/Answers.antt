use Rattle.queue_laws.proofs.Outputs.{outputs_are_shown}
use Rattle.queue_laws.proofs.laws.outputs_are_shown.Goals as goal

pub returns : goal.returns
returns c = outputs_are_shown
