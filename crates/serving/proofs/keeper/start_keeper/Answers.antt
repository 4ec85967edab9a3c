use denote.Param.Send.{sendable}
use Rattle.std.proofs.Crossing.{crosses}
use Rattle.house.proofs.Crosses.{house_send, house_sync}
use Rattle.house.proofs.seat.Seat.TheSendSync as seat
use Rattle.stalled_outputs.proofs.Crosses.{gates_send, gates_sync}
use Rattle.serving.proofs.keeper.start_keeper.Goals as goal

pub spawn-requires-send-F : goal.spawn-requires-send-F
spawn-requires-send-F g c κs within = search (gates_send, gates_sync, house_send, house_sync, seat.the_send, crosses, sendable) depth 60 fits 20000
