use Rattle.command_lists.proofs.Outcomes.{any_cut}
use Rattle.command_lists.proofs.laws.any_cut.Goals as goal

pub returns : goal.returns
returns c = any_cut
