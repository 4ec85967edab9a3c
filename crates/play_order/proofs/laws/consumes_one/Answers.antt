use Rattle.play_order.proofs.Choices.{consumes_one}
use Rattle.play_order.proofs.laws.consumes_one.Goals as goal

pub returns : goal.returns
returns c = consumes_one
