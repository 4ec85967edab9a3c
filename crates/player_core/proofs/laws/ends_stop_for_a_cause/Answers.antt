use Rattle.player_core.proofs.Choices.{ends_stop_for_a_cause}
use Rattle.player_core.proofs.laws.ends_stop_for_a_cause.Goals as goal

pub returns : goal.returns
returns c = ends_stop_for_a_cause
