use Rattle.play_order.proofs.Choices.{rounds_go_on}
use Rattle.play_order.proofs.laws.rounds_go_on.Goals as goal

pub returns : goal.returns
returns c = rounds_go_on
