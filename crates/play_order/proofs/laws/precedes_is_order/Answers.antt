use Rattle.play_order.proofs.Choices.{precedes_is_order}
use Rattle.play_order.proofs.laws.precedes_is_order.Goals as goal

pub returns : goal.returns
returns c = precedes_is_order
