use Rattle.state_laws.proofs.PlayerText.{player_lines_are_of_state, player_text_comes_back, player_text_is_lines, told_partitions_come_back}
use Rattle.state_laws.proofs.laws.told_partitions_come_back.Goals as goal

pub returns-clause-known : goal.returns-clause-known
returns-clause-known c = player_lines_are_of_state

pub returns-clause-text : goal.returns-clause-text
returns-clause-text c = player_text_is_lines

pub returns-clause-back : goal.returns-clause-back
returns-clause-back c = player_text_comes_back

pub returns-clause-players : goal.returns-clause-players
returns-clause-players c = told_partitions_come_back
