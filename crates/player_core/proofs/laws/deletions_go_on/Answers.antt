use Rattle.player_core.proofs.Choices.{deletions_go_on}
use Rattle.player_core.proofs.laws.deletions_go_on.Goals as goal

pub returns : goal.returns
returns c = deletions_go_on
