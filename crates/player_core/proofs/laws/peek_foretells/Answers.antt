use Rattle.player_core.proofs.Choices.{peek_foretells}
use Rattle.player_core.proofs.laws.peek_foretells.Goals as goal

pub returns : goal.returns
returns c = peek_foretells
