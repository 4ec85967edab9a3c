-- Histories that a player of one thread could have.
use Rattle.std.specs.Prelude.{◌≡◌, ◌≢◌, ◌≤◌, ◌↔◌, ℕ, true, List, ◌++◌, length, All, AllPairs}
use Rattle.idle_notes.specs.declared.subsystem.Subsystem.{Subsystem}
use Rattle.idle_notes.specs.Sets.{has}
use Rattle.song_queue.specs.State.{queue_of}
use Rattle.player_events.specs.declared.event.LogEntry.{LogEntry}
use Rattle.player_state.specs.declared.state.Client.{Client}
use Rattle.player_state.specs.declared.state.Library.{Library}
use Rattle.player_state.specs.declared.state.Part.{Part}
use Rattle.partition.specs.declared.state.Setup.{Setup}
use Rattle.connected_clients.specs.Clients.{Rising}
use Rattle.partition.specs.History.{Chronicle, HistoryStep, replay, AreTold, AreToldBy, after_all, begun, events_among}
use Rattle.partition.specs.Image.{Image, opening}
use Rattle.partition.specs.Notices.{Raises, Tells, EachWorldTransition, AreOutcomes}
use Rattle.partition.specs.Since.{HasPendingSince, books_of_all, world_transitions_of}
use Rattle.partition.specs.World.{WorldTransition, IsPending, pending_for, image_of, trace_after}

-- the flags of a client are its pending set by the transitions
abbrev pub HasPending : List WorldTransition → Client → Type 0
HasPending world_transitions client = (subsystem : Subsystem) → (has client.pending.changed subsystem ≡ true) ↔ IsPending client.number subsystem world_transitions

-- the ids of a partition's queue are distinct
abbrev pub HasDistinctIds : Part → Type 0
HasDistinctIds part = AllPairs (λ e f. e.id ≢ f.id) (queue_of part.queue)

-- An image is what can be read of the trace after a history, so each slot's stamp and mark are those of all
-- past queues, each output's frames are summed over all events, and each seat's count is that of all its
-- events; each client's flags are its pending set; each transition raised what differs between its worlds,
-- and told whom it had to tell; each reply was the one for its position in the history, and what was told with it is what its
-- transition tells; clients are in the order of their numbers.
pub record Stands (opened : Image) (history : List LogEntry) (i : Image) : Type 0 where
  pub world : i ≡ image_of (trace_after opened history) history
  pub pending : All (HasPending (trace_after opened history).world_transitions) i.clients
  pub raises : EachWorldTransition (λ world_transition earlier. Raises world_transition) (trace_after opened history).world_transitions
  pub tells : EachWorldTransition Tells (trace_after opened history).world_transitions
  pub told : AreTold opened history
  pub outcomes : AreOutcomes (trace_after opened history).world_transitions history
  pub rising : Rising i.clients

-- The player was opened with some settings and songs, and some events came before the base. The base stands
-- after these, and the present state after these and those of the window. The window leads from the base to
-- the present state: each of its events was told what the player of one thread tells at its position, and each
-- client's flags and each output's frames are those of the base and of what happened since. The window is
-- within its limit, and ids are distinct.
pub record IsPast (c : Chronicle) : Type 0 where
  pub setup : Setup
  pub library : Library
  pub earlier : List LogEntry
  pub base : Stands (opening setup library) earlier c.base
  pub present : Stands (opening setup library) (earlier ++ c.window) c.present
  pub recent : c.present ≡ replay c.base c.window
  pub told : AreTold c.base c.window
  pub since : All (HasPendingSince c.base (world_transitions_of c)) c.present.clients
  pub books : c.present.shared.books ≡ books_of_all c
  pub few : length c.window ≤ c.limit
  pub room : 1 ≤ c.limit
  pub distinct : All HasDistinctIds c.present.parts

-- over every list of events, with folds between any two: the present state is what it would be without the
-- folds, and the window leads there from the base
abbrev pub FoldsAreUnseen : Type 0
FoldsAreUnseen = (limit : ℕ) (setup : Setup) (library : Library) (history_steps : List HistoryStep) → 1 ≤ setup.limits.max_version
    → AreToldBy (begun limit (opening setup library)) history_steps
    → Stands (opening setup library) (events_among history_steps) (after_all (begun limit (opening setup library)) history_steps).present
    × ((after_all (begun limit (opening setup library)) history_steps).present
    ≡ replay (after_all (begun limit (opening setup library)) history_steps).base (after_all (begun limit (opening setup library)) history_steps).window)

-- the images of the traces after a history, which remember every queue and every transition, are the replay's
-- images, and their clients are in the order of their numbers
abbrev pub ReplaysWorlds : Type 0
ReplaysWorlds = (setup : Setup) (library : Library) (history : List LogEntry) → 1 ≤ setup.limits.max_version
    → (replay (opening setup library) history ≡ image_of (trace_after (opening setup library) history) history)
    × Rising (image_of (trace_after (opening setup library) history) history).clients

-- what commands read as pending for a client is what is pending by the transitions
abbrev pub ReadsPending : Type 0
ReadsPending = (number : ℕ) (subsystem : Subsystem) (world_transitions : List WorldTransition)
    → (has (pending_for number world_transitions) subsystem ≡ true) ↔ IsPending number subsystem world_transitions
