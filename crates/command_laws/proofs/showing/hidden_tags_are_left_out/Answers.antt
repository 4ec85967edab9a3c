use Rattle.command_laws.proofs.HiddenAnswers.{hidden_tags_are_left_out}
use Rattle.command_laws.proofs.HiddenLines.{songs_show_less}
use Rattle.command_laws.proofs.ChosenTags.{tags_stay_sets}
use Rattle.command_laws.proofs.showing.hidden_tags_are_left_out.Goals as goal

pub returns-clause-songs : goal.returns-clause-songs
returns-clause-songs c = songs_show_less

pub returns-clause-answers : goal.returns-clause-answers
returns-clause-answers c = hidden_tags_are_left_out

pub returns-clause-sets : goal.returns-clause-sets
returns-clause-sets c = tags_stay_sets
