use Rattle.std.proofs.Common.{length}
use Rattle.player_events.specs.declared.event.LogEntry.{LogEntry}
use Rattle.daemon_script.proofs.Applied.{empty_shelf}
use Rattle.daemon_script.proofs.player.Player.open.Goals as goal

pub returns : goal.returns
returns c =
    λ i. record {
      player = (c.in_ok-open.ensures i).present;
      shelf = empty_shelf c.new.result c.new.ensures i;
      window = length {A = LogEntry} (c.in_ok-open.ensures i).window;
      most = (c.in_ok-open.ensures i).limit;
    }
