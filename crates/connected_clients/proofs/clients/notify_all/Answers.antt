use Rattle.connected_clients.specs.Clients.{notified}
use Rattle.connected_clients.specs.Fingerprint.{raised_in}
use Rattle.connected_clients.proofs.Steps.{step_more}
use Rattle.connected_clients.proofs.clients.notify_all.Goals as goal

pub loop-client-preserved : goal.loop-client-preserved
loop-client-preserved c =
    rw c.notify.ensures (step_more (notified (raised_in c.args.raised.now)) c.args.clients.now c.loop-client.clients c.loop-client.client-index _
    c.loop-client-test.true c.loop-client.auto.clients c.loop-client.invariant)
