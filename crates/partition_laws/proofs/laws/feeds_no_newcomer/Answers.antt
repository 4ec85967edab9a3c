use Rattle.partition_laws.proofs.Owing as owing
use Rattle.partition_laws.proofs.laws.feeds_no_newcomer.Goals as goal

pub returns : goal.returns
returns c = owing.feeds_no_newcomer
