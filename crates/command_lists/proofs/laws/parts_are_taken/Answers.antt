use Rattle.command_lists.proofs.Taking.{parts_are_taken}
use Rattle.command_lists.proofs.laws.parts_are_taken.Goals as goal

pub returns : goal.returns
returns c = parts_are_taken
