-- What is true of each player with its history.
use Rattle.std.specs.Prelude.{◌≡◌, ◌≤◌, List, length}
use Rattle.player_events.specs.declared.event.LogEntry.{LogEntry}
use Rattle.partition.specs.declared.partition.Partition.TheInside.{Inside}
use Rattle.player_state.specs.declared.state.Library.{Library}
use Rattle.partition.specs.declared.state.Setup.{Setup}
use Rattle.partition.specs.History.{Chronicle, replay, AreTold}
use Rattle.partition.specs.Image.{Image, image_of_state, opening}
use Rattle.player_events.specs.Sizes.{window_bytes}

abbrev pub chronicle_of : Inside → Chronicle
chronicle_of p = record { base = image_of_state p.base.value; window = p.history.items; present = image_of_state p.state; limit = p.limit }

-- events that led from some opening to an image, and each was told what the player of one thread tells at its
-- position
pub record Came (i : Image) : Type 0 where
  pub setup : Setup
  pub library : Library
  pub earlier : List LogEntry
  pub above : 1 ≤ setup.limits.max_version
  pub leads : i ≡ replay (opening setup library) earlier
  pub told : AreTold (opening setup library) earlier

-- some events led to the base, and the window leads from there to the present state; each was told what the
-- player of one thread tells at its position; the window is within its limit, and its bytes are counted
pub record IsReplayed (p : Inside) : Type 0 where
  pub room : 1 ≤ p.limit
  pub few : length p.history.items ≤ p.limit
  pub came : Came (image_of_state p.base.value)
  pub present : image_of_state p.state ≡ replay (image_of_state p.base.value) p.history.items
  pub told : AreTold (image_of_state p.base.value) p.history.items
  pub bytes : p.bytes ≡ window_bytes p.history.items
