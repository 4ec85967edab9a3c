use Rattle.player_core.proofs.Runs.{feeds_once}
use Rattle.player_core.proofs.laws.feeds_once.Goals as goal

pub returns : goal.returns
returns c = feeds_once
