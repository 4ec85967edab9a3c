use Rattle.command_laws.proofs.BaseAnswers.{base_shows_all_lines, base_shows_whole_songs, base_status_has_no_time}
use Rattle.command_laws.proofs.BaseKept.{base_keeps_all_tags}
use Rattle.command_laws.proofs.answering.base_profile_shows_all_tags.Goals as goal

pub returns-clause-tags : goal.returns-clause-tags
returns-clause-tags c = base_keeps_all_tags

pub returns-clause-songs : goal.returns-clause-songs
returns-clause-songs c = base_shows_whole_songs

pub returns-clause-lines : goal.returns-clause-lines
returns-clause-lines c = base_shows_all_lines

pub returns-clause-time : goal.returns-clause-time
returns-clause-time c = base_status_has_no_time
