use Rattle.queue_commands.specs.Queue.{result_of}
use Rattle.queue_commands.proofs.queue.run.Goals as goal

pub returns-in-SwapId-clause-transition : goal.returns-in-SwapId-clause-transition
unfolding result_of
returns-in-SwapId-clause-transition c = rw c.in-SwapId.is c.swap_id.ensures.transition
