-- Where a history leads an opening, an image stands.
use Rattle.std.proofs.Common.{◌≡◌, ◌≤◌, List, sym, subst, ◌∙◌}
use Rattle.player_events.specs.declared.event.LogEntry.{LogEntry}
use Rattle.player_state.specs.declared.state.Library.{Library}
use Rattle.partition.specs.declared.state.Setup.{Setup}
use Rattle.connected_clients.specs.Clients.{Rising}
use Rattle.partition.specs.History.{replay, AreTold}
use Rattle.partition.specs.Image.{Image, opening}
use Rattle.partition.specs.Legal.{Stands}
use Rattle.partition.specs.World.{Trace, image_of, trace_after}
use Rattle.partition.proofs.Flags.{flags_stand}
use Rattle.partition.proofs.Traces.{all_raise, all_tell, all_outcomes}
use Rattle.partition.proofs.Worlds.{replays_worlds}

pub stands : (setup : Setup) (library : Library) (history : List LogEntry) (i : Image) → 1 ≤ setup.limits.max_version
    → i ≡ replay (opening setup library) history → AreTold (opening setup library) history → Stands (opening setup library) history i
stands setup library history i above leads rightly =
    let trace : Trace = trace_after (opening setup library) history in
    let law = replays_worlds setup library history above in
    let world : i ≡ image_of trace history = leads ∙ law.0 in
    record {
      world = world;
      pending = flags_stand trace history i world;
      raises = all_raise setup library history above;
      tells = all_tell setup library history above;
      told = rightly;
      outcomes = all_outcomes setup library history above rightly;
      rising = subst (λ (j : Image). Rising j.clients) (sym world) law.1;
    }
