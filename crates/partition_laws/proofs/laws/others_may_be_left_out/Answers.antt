use Rattle.partition_laws.proofs.Apart.{others_may_be_left_out}
use Rattle.partition_laws.proofs.laws.others_may_be_left_out.Goals as goal

pub returns : goal.returns
returns c = others_may_be_left_out
