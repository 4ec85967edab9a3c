use Rattle.queue_laws.proofs.Options.{what_is_set_is_shown}
use Rattle.queue_laws.proofs.laws.what_is_set_is_shown.Goals as goal

pub returns : goal.returns
returns c = what_is_set_is_shown
