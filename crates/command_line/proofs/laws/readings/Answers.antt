use Rattle.command_line.proofs.Lines.{all}
use Rattle.command_line.proofs.laws.readings.Goals as goal

pub returns : goal.returns
returns c = all
