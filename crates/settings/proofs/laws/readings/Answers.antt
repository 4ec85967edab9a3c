use Rattle.settings.proofs.Texts.{all}
use Rattle.settings.proofs.laws.readings.Goals as goal

pub returns : goal.returns
returns c = all
