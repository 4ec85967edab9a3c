use denote.Param.Send.{sendable}
use Rattle.std.proofs.Crossing.{crosses}
use Rattle.house.proofs.Crosses.{house_send, house_sync}
use Rattle.output_ring.proofs.feeder.Feeder.TheSendSync as feeder
use Rattle.crew.proofs.start.DecoderArguments.TheSendSync as arguments
use Rattle.crew.proofs.start.start_thread.Goals as goal

pub spawn_with-requires-send-F : goal.spawn_with-requires-send-F
spawn_with-requires-send-F g c κs within =
    search (house_send, house_sync, arguments.the_send, feeder.the_send, crosses, sendable) depth 60 fits 20000
