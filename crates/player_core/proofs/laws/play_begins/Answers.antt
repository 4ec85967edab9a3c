use Rattle.player_core.proofs.Choices.{play_begins}
use Rattle.player_core.proofs.laws.play_begins.Goals as goal

pub returns : goal.returns
returns c = play_begins
