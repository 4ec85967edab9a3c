use Rattle.partition.proofs.Pending.{reads_pending}
use Rattle.partition.proofs.laws.reads_pending.Goals as goal

pub returns : goal.returns
returns c = λ number subsystem world_transitions. reads_pending number subsystem world_transitions
