use Rattle.player_core.proofs.Rounds.{rounds_play_each_once}
use Rattle.player_core.proofs.laws.rounds_play_each_once.Goals as goal

pub returns : goal.returns
returns c = rounds_play_each_once
