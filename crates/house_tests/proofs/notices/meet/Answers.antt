use denote.Param.Send.{sendable}
use Rattle.std.proofs.Crossing.{crosses}
use Rattle.house.proofs.Crosses.{house_send, house_sync}
use Rattle.house.proofs.seat.Seat.TheSendSync as seat
use Rattle.house_tests.proofs.notices.Counts.TheSendSync as counts
use Rattle.house_tests.proofs.notices.meet.Goals as goal

pub join-requires-send-F : goal.join-requires-send-F
join-requires-send-F g c κs within = search (house_send, house_sync, seat.the_send, counts.the_sync, counts.the_field_sync, crosses, sendable) depth 60 fits 20000
