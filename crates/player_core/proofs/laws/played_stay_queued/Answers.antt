use Rattle.player_core.proofs.Rounds.{played_stay_queued}
use Rattle.player_core.proofs.laws.played_stay_queued.Goals as goal

pub returns : goal.returns
returns c = played_stay_queued
