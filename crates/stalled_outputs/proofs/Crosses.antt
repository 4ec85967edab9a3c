-- The gates may be shared by threads.
use denote.RattleType.{RattleType}
use denote.Param.Send.{IsSend, IsSync, sendable}
use denote.Param.SendFields.{declared_send, declared_sync}
use Rattle.std.proofs.Crossing.{crosses}
use Rattle.house.specs.declared.ledgers.Ledgers.{Ghosts}
use Rattle.house.proofs.Crosses.{house_send, house_sync}
use Rattle.partition.proofs.Crosses.{◌⨟◌}
use Rattle.output_watchdog.proofs.watch.Watch.TheSendSync as watch
use Rattle.stalled_outputs.proofs.paths.PatientPath.TheSendSync as path
use Rattle.stalled_outputs.proofs.own_client.ClientSession.TheSendSync as session
use Rattle.stalled_outputs.specs.contracts.gates.Gates as Gates
use Rattle.stalled_outputs.specs.contracts.gates.Watched as Watched
use Rattle.stalled_outputs.specs.contracts.own_client.OwnClient as OwnClient

ruleset parts = (crosses, sendable)

pub watched_send : IsSend Watched.the_row
watched_send = declared_send Watched.the_type (path.the_send ⨟ search (watch.the_send, parts) depth 60 fits 20000 ⨟ tt)

pub watched_sync : IsSync Watched.the_row
watched_sync = declared_sync Watched.the_type (path.the_sync ⨟ search (watch.the_send, parts) depth 60 fits 20000 ⨟ tt)

pub client_send : (L R : RattleType) (l : Ghosts L.Denot) → IsSend R → IsSend (OwnClient.the_row L R l)
client_send L R l r = declared_send (OwnClient.the_type L R l) (
    search (r, parts) depth 60 fits 20000 ⨟ search parts depth 60 fits 20000 ⨟
    search (house_send, house_sync, parts) depth 60 fits 20000 ⨟ search (session.the_send, parts) depth 60 fits 20000 ⨟ tt)

pub client_sync : (L R : RattleType) (l : Ghosts L.Denot) → IsSync R → IsSync (OwnClient.the_row L R l)
client_sync L R l y = declared_sync (OwnClient.the_type L R l) (
    search (y, parts) depth 60 fits 20000 ⨟ search parts depth 60 fits 20000 ⨟
    search (house_send, house_sync, parts) depth 60 fits 20000 ⨟ search (session.the_send, parts) depth 60 fits 20000 ⨟ tt)

pub gates_send : (L R : RattleType) (l : Ghosts L.Denot) → IsSend R → IsSend (Gates.the_row L R l)
gates_send L R l r = declared_send (Gates.the_type L R l) (
    search (r, parts) depth 60 fits 20000 ⨟ search parts depth 60 fits 20000 ⨟
    search (watched_send, parts) depth 60 fits 20000 ⨟ search (client_send L R l r, parts) depth 60 fits 20000 ⨟ tt)

pub gates_sync : (L R : RattleType) (l : Ghosts L.Denot) → IsSync R → IsSync (Gates.the_row L R l)
gates_sync L R l y = declared_sync (Gates.the_type L R l) (
    search (y, parts) depth 60 fits 20000 ⨟ search parts depth 60 fits 20000 ⨟
    search (watched_sync, parts) depth 60 fits 20000 ⨟ search (client_sync L R l y, parts) depth 60 fits 20000 ⨟ tt)
