use Rattle.player_core.proofs.Choices.{next_goes_on}
use Rattle.player_core.proofs.laws.next_goes_on.Goals as goal

pub returns : goal.returns
returns c = next_goes_on
