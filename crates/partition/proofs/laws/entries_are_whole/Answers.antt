use Rattle.partition.proofs.Whole.{entries_are}
use Rattle.partition.proofs.laws.entries_are_whole.Goals as goal

pub returns : goal.returns
returns c = λ seat i client form place requests. entries_are seat i client form place requests
