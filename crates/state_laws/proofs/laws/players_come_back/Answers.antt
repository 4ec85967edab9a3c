use Rattle.state_laws.proofs.Own.{players_come_back}
use Rattle.state_laws.proofs.Times.{offsets_come_back}
use Rattle.state_laws.proofs.laws.players_come_back.Goals as goal

pub returns-clause-offsets : goal.returns-clause-offsets
returns-clause-offsets c = offsets_come_back

pub returns-clause-players : goal.returns-clause-players
returns-clause-players c = players_come_back
