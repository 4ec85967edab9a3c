use Rattle.player_core.proofs.Choices.{previous_consumes_nothing}
use Rattle.player_core.proofs.laws.previous_consumes_nothing.Goals as goal

pub returns : goal.returns
returns c = previous_consumes_nothing
