use Rattle.partition_laws.proofs.Crossings.{moves_rise, moves_tell_spots, opens_apart, stays_apart}
use Rattle.partition_laws.proofs.laws.moves_rise.Goals as goal

pub returns-clause-opening : goal.returns-clause-opening
returns-clause-opening c = opens_apart

pub returns-clause-next : goal.returns-clause-next
returns-clause-next c = stays_apart

pub returns-clause-rise : goal.returns-clause-rise
returns-clause-rise c = moves_rise

pub returns-clause-tell : goal.returns-clause-tell
returns-clause-tell c = moves_tell_spots
