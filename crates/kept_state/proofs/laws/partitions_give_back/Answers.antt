use Rattle.kept_state.proofs.PlayersBack.{partitions_give_back}
use Rattle.kept_state.proofs.laws.partitions_give_back.Goals as goal

pub returns : goal.returns
returns c = partitions_give_back
