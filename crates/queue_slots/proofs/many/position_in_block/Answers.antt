use Rattle.queue_slots.proofs.Positions.{has_position, has_no_position}
use Rattle.queue_slots.proofs.many.position_in_block.Goals as goal

pub returns-in-Some-clause-found : goal.returns-in-Some-clause-found
returns-in-Some-clause-found c = has_position c.args.block.now c.args.id c.in-Some.first_position c.in-Some.ensures

pub returns-in-None-clause-none : goal.returns-in-None-clause-none
returns-in-None-clause-none c = has_no_position c.args.block.now c.args.id c.in-None.ensures
