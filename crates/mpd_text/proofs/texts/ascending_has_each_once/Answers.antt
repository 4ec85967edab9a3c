use Rattle.mpd_text.proofs.Ascending.{ascending-rises, has-each}
use Rattle.mpd_text.proofs.texts.ascending_has_each_once.Goals as goal

pub returns-clause-order : goal.returns-clause-order
returns-clause-order c = ascending-rises

pub returns-clause-texts : goal.returns-clause-texts
returns-clause-texts c = has-each
