use Rattle.partition_laws.proofs.Legal.{leads_to_legal, opens_legal, stays_legal}
use Rattle.partition_laws.proofs.laws.daemons_stay_legal.Goals as goal

pub returns-clause-opening : goal.returns-clause-opening
returns-clause-opening c = opens_legal

pub returns-clause-next : goal.returns-clause-next
returns-clause-next c = stays_legal

pub returns-clause-history : goal.returns-clause-history
returns-clause-history c = leads_to_legal
