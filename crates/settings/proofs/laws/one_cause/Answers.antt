use Rattle.settings.proofs.Causes.{one_cause}
use Rattle.settings.proofs.laws.one_cause.Goals as goal

pub returns : goal.returns
returns c = one_cause
