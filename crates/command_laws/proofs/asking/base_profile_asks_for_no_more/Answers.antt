use Rattle.command_laws.proofs.BaseLines.{asks_for_no_more}
use Rattle.command_laws.proofs.asking.base_profile_asks_for_no_more.Goals as goal

pub returns : goal.returns
returns c = asks_for_no_more
