use Rattle.kept_state.proofs.Back.{gives_back}
use Rattle.kept_state.proofs.laws.gives_back.Goals as goal

pub returns : goal.returns
returns c = gives_back
