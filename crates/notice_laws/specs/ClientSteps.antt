-- Two moments of a client that stays in its partition, one event apart, and what it hears of between them (MPD
-- protocol reference, Querying MPD's status, `idle`).
use Rattle.std.specs.Prelude.{◌≡◌, ℕ, ◌==◌, false, List, [], ◌∷◌, Option, Some, None, if◌then◌else◌}
use Rattle.idle_notes.specs.Sets.{has}
use Rattle.idle_notes.specs.declared.sets.Subsystems.{Subsystems}
use Rattle.idle_notes.specs.declared.subsystem.Subsystem.{Subsystem}
use Rattle.player_state.specs.Effects.{ByStep, Change, change_of, queue_after}
use Rattle.player_state.specs.Libraries.{library_after}
use Rattle.player_state.specs.declared.scan.ScanMove.{ScanMove}
use Rattle.player_state.specs.declared.state.Client.{Client}
use Rattle.player_state.specs.declared.state.Library.{Library}
use Rattle.player_state.specs.declared.state.Part.{Part}
use Rattle.partition_table.specs.Parts.{part_at}
use Rattle.transitions.specs.Transitions.{TransitionData, parts_after}
use Rattle.transitions.specs.declared.shelf_calls.ShelfWrite.{ShelfWrite}
use Rattle.connected_clients.specs.Clients.{raised_there, watched_all}

-- the client; the partitions at both moments, and of them its own; the library at the first; and what the event
-- makes of the scans, of the queue of that partition, and of the shelf
pub record ClientStep : Type 0 where
  pub client : Client
  pub before : List Part
  pub after : List Part
  pub own : Part
  pub later : Part
  pub library : Library
  pub scan : ScanMove
  pub change : Change
  pub written : ShelfWrite

-- the library at the second moment
abbrev pub library_of : ClientStep → Library
library_of p = library_after p.library p.scan

-- The client's partition is there at both moments. Its name and the names of all outputs never change, and its
-- queue by one edit or step, or not at all. All else of it may be anything at both
pub record Stays (p : ClientStep) : Type 0 where
  pub own : part_at p.client.index p.before ≡ Some p.own
  pub later : part_at p.client.index p.after ≡ Some p.later
  pub name : p.later.name ≡ p.own.name
  pub outputs : p.later.outputs.names ≡ p.own.outputs.names
  pub queue : p.later.queue ≡ queue_after p.own.queue p.change

-- an event of the partition of a number, for a client that is in this partition before it and after it
abbrev pub client_step_of : Client → ℕ → TransitionData → List Part → Library → Part → Part → ClientStep
client_step_of client index t parts library own later = record {
  client = client;
  before = parts;
  after = parts_after library.rate index t parts;
  own = own;
  later = later;
  library = library;
  scan = t.scan;
  change = if client.index == index then change_of library.rate own t.effect else ByStep None;
  written = t.written;
}

-- so is each event for each client that it leaves where it is, also an event of another partition
abbrev pub EventsAreClientSteps : Type 0
EventsAreClientSteps =
    (client : Client) (index : ℕ) (t : TransitionData) (parts : List Part) (library : Library) (own later : Part)
    → part_at client.index parts ≡ Some own
    → part_at client.index (parts_after library.rate index t parts) ≡ Some later
    → Stays (client_step_of client index t parts library own later)

-- what the event raises for the client
abbrev pub heard : ClientStep → Subsystems
heard p = raised_there p.written (watched_all p.library p.before) (watched_all (library_of p) p.after) p.client

-- it raises none of these
abbrev pub HearsOfNone : ClientStep → List Subsystem → Type 0
HearsOfNone p [] = Unit {0}
HearsOfNone p (one ∷ ones) = (has (heard p) one ≡ false) × HearsOfNone p ones

-- a subsystem tells of it, or several do, and none of them is raised; nobody tells of it where there is no list
abbrev pub IsUntold : ClientStep → Option (List Subsystem) → Type 0
IsUntold p None = ⊥
IsUntold p (Some ones) = HearsOfNone p ones
