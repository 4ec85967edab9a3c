use Rattle.partition_laws.proofs.Reports.{feeds_name_moves, keeps_outputs, opens_with_outputs, turns_tell_moves}
use Rattle.partition_laws.proofs.laws.reports_tell_moves.Goals as goal

pub returns-clause-opening : goal.returns-clause-opening
returns-clause-opening c = opens_with_outputs

pub returns-clause-next : goal.returns-clause-next
returns-clause-next c = keeps_outputs

pub returns-clause-turns : goal.returns-clause-turns
returns-clause-turns c = turns_tell_moves

pub returns-clause-feeds : goal.returns-clause-feeds
returns-clause-feeds c = feeds_name_moves
