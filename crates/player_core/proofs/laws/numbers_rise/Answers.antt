use Rattle.player_core.proofs.Rising.{numbers_rise}
use Rattle.player_core.proofs.laws.numbers_rise.Goals as goal

pub returns : goal.returns
returns c = numbers_rise
