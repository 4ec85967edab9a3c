use denote.Param.Send.{sendable}
use Rattle.std.proofs.Crossing.{crosses}
use Rattle.stalled_outputs.proofs.Crosses.{gates_send, gates_sync}
use Rattle.serving.proofs.run.start_crew.Goals as goal

pub start_outputs-requires-send-G : goal.start_outputs-requires-send-G
start_outputs-requires-send-G g c κs within = search (gates_send, crosses, sendable) depth 60 fits 20000

pub start_outputs-requires-sync-G : goal.start_outputs-requires-sync-G
start_outputs-requires-sync-G g c κs within = search (gates_sync, crosses, sendable) depth 60 fits 20000
