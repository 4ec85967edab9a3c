use Rattle.state_laws.proofs.Everyone.{all_players_come_back}
use Rattle.state_laws.proofs.Happened.{all_lines_happen}
use Rattle.state_laws.proofs.Restored.{all_stay_within, partitions_come_back}
use Rattle.state_laws.proofs.laws.partitions_come_back.Goals as goal

pub returns-clause-kept : goal.returns-clause-kept
returns-clause-kept c = partitions_come_back

pub returns-clause-players : goal.returns-clause-players
returns-clause-players c = all_players_come_back

pub returns-clause-events : goal.returns-clause-events
returns-clause-events c = all_lines_happen

pub returns-clause-within : goal.returns-clause-within
returns-clause-within c = all_stay_within
