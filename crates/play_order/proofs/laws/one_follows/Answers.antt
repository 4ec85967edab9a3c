use Rattle.play_order.proofs.Choices.{one_follows}
use Rattle.play_order.proofs.laws.one_follows.Goals as goal

pub returns : goal.returns
returns c = one_follows
