use Rattle.partition_laws.proofs.Apart.{equal_views_hear_the_same}
use Rattle.partition_laws.proofs.laws.equal_views_hear_the_same.Goals as goal

pub returns : goal.returns
returns c = equal_views_hear_the_same
