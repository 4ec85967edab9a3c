use Rattle.command_lists.proofs.Alone.{words_are_alone}
use Rattle.command_lists.proofs.laws.words_are_alone.Goals as goal

pub returns : goal.returns
returns c = words_are_alone
