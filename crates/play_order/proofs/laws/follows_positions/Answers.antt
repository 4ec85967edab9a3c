use Rattle.play_order.proofs.Choices.{follows_positions}
use Rattle.play_order.proofs.laws.follows_positions.Goals as goal

pub returns : goal.returns
returns c = follows_positions
