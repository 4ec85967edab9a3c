use Rattle.play_order.proofs.Choices.{rounds_forget_gone}
use Rattle.play_order.proofs.laws.rounds_forget_gone.Goals as goal

pub returns : goal.returns
returns c = rounds_forget_gone
