use Rattle.partition.proofs.Worlds.{replays_worlds}
use Rattle.partition.proofs.laws.replays_worlds.Goals as goal

pub returns : goal.returns
returns c = λ limits library history above. replays_worlds limits library history above
