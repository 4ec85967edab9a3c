use Rattle.play_order.proofs.Choices.{chooses_unplayed}
use Rattle.play_order.proofs.laws.chooses_unplayed.Goals as goal

pub returns : goal.returns
returns c = chooses_unplayed
