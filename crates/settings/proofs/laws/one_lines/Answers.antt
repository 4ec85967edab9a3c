use Rattle.settings.proofs.OneLines.{all}
use Rattle.settings.proofs.laws.one_lines.Goals as goal

pub returns : goal.returns
returns c = all
