use denote.Param.Send.{sendable}
use Rattle.std.proofs.Crossing.{crosses}
use Rattle.house.proofs.Crosses.{house_send, house_sync}
use Rattle.house_tests.proofs.rests.woken.Goals as goal

pub join-is_there-requires-send-F : goal.join-is_there-requires-send-F
join-is_there-requires-send-F g c κs within = search (house_send, house_sync, crosses, sendable) depth 60 fits 20000
