use Rattle.song_groups.proofs.TupleLists.{tuples-rise, tuples-have}
use Rattle.song_groups.proofs.grouping.tuples_have_each_once.Goals as goal

pub returns-clause-order : goal.returns-clause-order
returns-clause-order c = tuples-rise

pub returns-clause-tuples : goal.returns-clause-tuples
returns-clause-tuples c = tuples-have
