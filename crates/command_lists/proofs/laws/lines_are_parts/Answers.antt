use Rattle.command_lists.proofs.Reading.{lines_are_parts}
use Rattle.command_lists.proofs.laws.lines_are_parts.Goals as goal

pub returns : goal.returns
returns c = lines_are_parts
