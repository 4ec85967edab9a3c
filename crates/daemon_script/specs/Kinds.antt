-- Two kinds of player: one that has what commands read, and one that has its whole past. Beside each is a
-- shelf in memory.
use Rattle.std.specs.Prelude.{ℕ, ◌+◌, nat_le, slice_index_or, if◌then◌else◌, Bool, false, true, List, [], ◌∷◌, ◌++◌, map, Option, Some, None, is_some, bytes_eq, codes}
use Rattle.mpd_text.specs.Songs.Song.{SongData}
use Rattle.player_events.specs.Outcomes.{OutcomeData}
use Rattle.partition.specs.Image.{Image, opening}
use Rattle.connected_clients.specs.Clients.{client_of}
use Rattle.player_state.specs.Outputs.{OutputsData, no_outputs, with_output}
use Rattle.player_state.specs.Scans.{never_scanned}
use Rattle.player_events.specs.Events.{with_store_reply}
use Rattle.partition.specs.Step.{limit_of, next_image, told}
use Rattle.partition_table.specs.Parts.{known, named}
use Rattle.partition.specs.World.{PartWorld, Trace, WorldTransition, is_there, image_of, trace_after_event, opening_trace}
use Rattle.player_events.specs.declared.event.Event.{Event}
use Rattle.player_events.specs.declared.event.LogEntry.{LogEntry}
use Rattle.transitions.specs.declared.reply.Next.TheVariants.{Goes}
use Rattle.partition.specs.History.{own}
use Rattle.partition.specs.declared.partition.PartitionFault.{PartitionFault}
use Rattle.partition.specs.declared.partition.PartitionFault.TheVariants.{HistoryFull, CutsAtLimit, AtLimit, NoMemory}
use Rattle.player_state.specs.declared.report.Report.TheVariants.{Nothing}
use Rattle.player_state.specs.declared.state.Library.{Library}
use Rattle.partition.specs.declared.state.Limits.{Limits}
use Rattle.partition.specs.declared.state.Setup.{Setup}
use Rattle.daemon_script.specs.Contents.{Contents, no_contents}
use Rattle.daemon_script.specs.Shelf.{heard_by, shelf_after}

-- a script's songs have 8,000 frames a second
abbrev pub library_of : List SongData → Library
library_of songs = record { songs = songs; rate = 8000; scan = never_scanned; updated = 0 }

-- a script's player has one output, which is enabled
abbrev pub one_output : OutputsData
one_output = with_output no_outputs (codes "out0") true

-- its random orders are drawn from a generator with the seed 0
abbrev pub setup_of : Limits → Setup
setup_of limits = record { limits = limits; random_start = 0; outputs = one_output }

-- what events make of a player: it is opened over a library; whether a client is there, the number of the
-- partition of a name, which limit an event would pass, for which it is refused, what an event makes of the
-- player and makes clients hear, and how many events there were
pub record EventKind (P : Type 0) : Type 0 where
  pub opens : Limits → List SongData → P
  pub is_there : ℕ → P → Bool
  pub index_named : List ℕ → P → Option ℕ
  pub limit : P → Event → Option PartitionFault
  pub after : P → Event → P
  pub told : P → Event → OutcomeData
  pub own : P → ℕ

-- What a script asks of a player: the same, and of the window of its history whether it is full and how many
-- events it has. An event that is refused may leave a window that was folded.
pub record PlayerKind (P : Type 0) : Type 0 where
  pub opens : Limits → List SongData → P
  pub is_there : ℕ → P → Bool
  pub index_named : List ℕ → P → Option ℕ
  pub is_full : P → Bool
  pub limit : P → Event → Option PartitionFault
  pub after : P → Event → P
  pub left : P → PartitionFault → P
  pub told : P → Event → OutcomeData
  pub window : P → ℕ
  pub own : P → ℕ

-- a player is what commands read: its queue has stamps and marks, and its clients have flags. All events are
-- of seat 0
abbrev pub image_kind : EventKind Image
image_kind = record {
  opens = λ limits songs. opening (setup_of limits) (library_of songs);
  is_there = λ number i. is_some (client_of number i.clients);
  index_named = λ name i. named name (map known i.parts);
  limit = λ i event. limit_of 0 i event;
  after = λ i event. next_image 0 i event;
  told = λ i event. told i event;
  own = λ i. slice_index_or i.shared.made 0 0;
}

-- the number of the first partition of a name
abbrev pub world_named : List ℕ → List PartWorld → Option ℕ
world_named name [] = None
world_named name (p ∷ ps) = if bytes_eq p.name name then Some p.index else world_named name ps

-- a trace, and what happened in it
pub record Traced : Type 0 where
  pub trace : Trace
  pub history : List LogEntry

-- what commands read of a trace
abbrev pub seen : Traced → Image
seen traced = image_of traced.trace traced.history

-- what the latest of these transitions made clients hear
abbrev pub told_at : List WorldTransition → OutcomeData
told_at [] = record { answer = record { text = []; next = Goes; refused = false }; notices = []; report = Nothing }
told_at (world_transition ∷ world_transitions) = record { answer = world_transition.transition.response.answer; notices = world_transition.notices; report = world_transition.report }

abbrev pub traced_after : Traced → Event → Traced
traced_after traced event =
    let trace = trace_after_event traced.history traced.trace event in
    record { trace = trace; history = traced.history ++ record { seat = 0; event = event; told = told_at trace.world_transitions } ∷ [] }

-- a player is its trace: every queue that it had, and every transition, at which clients hear what is said to
-- them. All events are of seat 0
abbrev pub trace_kind : EventKind Traced
trace_kind = record {
  opens = λ limits songs. record { trace = opening_trace (opening (setup_of limits) (library_of songs)); history = [] };
  is_there = λ number traced. is_there number traced.trace.world;
  index_named = λ name traced. world_named name traced.trace.world.parts;
  limit = λ traced event. limit_of 0 (seen traced) event;
  after = traced_after;
  told = λ traced event. told_at (traced_after traced event).trace.world_transitions;
  own = λ traced. own 0 traced.history;
}

-- a player beside a shelf, how many events the window of its history has, and how many it may have
pub record Shelved (P : Type 0) : Type 0 where
  pub player : P
  pub shelf : Contents
  pub window : ℕ
  pub most : ℕ

abbrev pub is_full : {P : Type 0} → Shelved P → Bool
is_full p = nat_le p.most p.window

-- how many events the window has once there is room: one that is full is folded, which empties it
abbrev pub window_in_room : {P : Type 0} → Shelved P → ℕ
window_in_room p = if is_full p then 0 else p.window

-- a full window is folded before an event is tried; where there is no memory to fold it, all is as it was
abbrev pub left_by : {P : Type 0} → PartitionFault → Shelved P → Shelved P
left_by HistoryFull p = p
left_by CutsAtLimit p = record p { window = window_in_room p }
left_by AtLimit p = record p { window = window_in_room p }
left_by NoMemory p = record p { window = window_in_room p }

module _ {P : Type 0} (kind : EventKind P) (read : P → Image) where
  -- an event with what the shelf answers to it
  abbrev pub heard : Shelved P → Event → Event
  heard p event = with_store_reply event (heard_by p.shelf (read p.player) event)

  -- a player that is lent the shelf at each event
  abbrev pub beside_shelf : PlayerKind (Shelved P)
  beside_shelf = record {
    opens = λ limits songs. record { player = kind.opens limits songs; shelf = no_contents; window = 0; most = limits.history };
    is_there = λ number p. kind.is_there number p.player;
    index_named = λ name p. kind.index_named name p.player;
    is_full = is_full;
    limit = λ p event. kind.limit p.player (heard p event);
    after = λ p event. record {
      player = kind.after p.player (heard p event);
      shelf = shelf_after p.shelf (read p.player) event (heard_by p.shelf (read p.player) event);
      window = window_in_room p + 1;
      most = p.most;
    };
    left = λ p fault. left_by fault p;
    told = λ p event. kind.told p.player (heard p event);
    window = λ p. p.window;
    own = λ p. kind.own p.player;
  }

abbrev pub images : PlayerKind (Shelved Image)
images = beside_shelf image_kind (λ i. i)

abbrev pub traces : PlayerKind (Shelved Traced)
traces = beside_shelf trace_kind seen
