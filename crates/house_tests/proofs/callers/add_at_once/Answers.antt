use denote.Param.Send.{sendable}
use Rattle.std.proofs.Crossing.{crosses}
use Rattle.house.proofs.Crosses.{house_send, house_sync}
use Rattle.house.proofs.seat.Seat.TheSendSync as seat
use Rattle.house_tests.proofs.callers.add_at_once.Goals as goal

pub join-requires-send-F : goal.join-requires-send-F
join-requires-send-F g c κs within = search (house_send, house_sync, seat.the_send, crosses, sendable) depth 60 fits 20000
