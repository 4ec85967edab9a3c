use Rattle.state_laws.proofs.Text.{lines_are_of_state, text_comes_back, text_is_steps, told_players_come_back}
use Rattle.state_laws.proofs.laws.told_texts_come_back.Goals as goal

pub returns-clause-known : goal.returns-clause-known
returns-clause-known c = lines_are_of_state

pub returns-clause-text : goal.returns-clause-text
returns-clause-text c = text_is_steps

pub returns-clause-back : goal.returns-clause-back
returns-clause-back c = text_comes_back

pub returns-clause-players : goal.returns-clause-players
returns-clause-players c = told_players_come_back
