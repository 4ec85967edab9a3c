use Rattle.player_core.proofs.Runs.{feeds_as_asked}
use Rattle.player_core.proofs.laws.feeds_as_asked.Goals as goal

pub returns : goal.returns
returns c = feeds_as_asked
