use denote.Param.Send.{sendable}
use Rattle.std.proofs.Crossing.{crosses}
use Rattle.house.proofs.Crosses.{house_send, house_sync}
use Rattle.output_ring.proofs.drainer.Drainer.TheSendSync as drainer
use Rattle.crew.proofs.output_start.OutputArguments.TheSendSync as arguments
use Rattle.crew.proofs.output_start.start_thread.Goals as goal

pub spawn_with-requires-send-F : goal.spawn_with-requires-send-F
spawn_with-requires-send-F g c κs within =
    search (house_send, house_sync, arguments.the_send, drainer.the_send, crosses, sendable) depth 60 fits 20000
