-- What is pending, and the frames of the outputs, by a base and the window after it.
use Rattle.std.specs.Prelude.{◌≡◌, ◌↔◌, ◌⊎◌, ℕ, ◌+◌, true, List, [], ◌∷◌, Option, Some, None, All, map, slice_index_or}
use Rattle.std.specs.List.{range_with_len}
use Rattle.idle_notes.specs.declared.sets.Subsystems.{Subsystems}
use Rattle.idle_notes.specs.declared.subsystem.Subsystem.{Subsystem}
use Rattle.idle_notes.specs.Sets.{none, has}
use Rattle.song_queue.specs.State.{queue_of}
use Rattle.player_events.specs.declared.event.LogEntry.{LogEntry}
use Rattle.player_state.specs.declared.state.Client.{Client}
use Rattle.partition.specs.History.{Chronicle}
use Rattle.partition.specs.Image.{Image}
use Rattle.connected_clients.specs.Clients.{client_of}
use Rattle.player_state.specs.Outputs.{FrameBooks, decoded_by, discarded_by, written_by}
use Rattle.partition.specs.Step.{next_image, report_at, told_by, transition}
use Rattle.player_state.specs.declared.state.Part.{Part}
use Rattle.partition.specs.World.{PartWorld, World, WorldTransition, NeverAnew, IsPending, listener_of, part_world_of}

-- what a partition owns, with its present queue alone as its past
abbrev pub shown_part : Part → PartWorld
shown_part part = part_world_of (queue_of part.queue ∷ []) part

-- the world that an image shows: of the pasts only the present queues
abbrev pub world_of : Image → World
world_of i = record {
  parts = map shown_part i.parts;
  library = i.shared.library;
  clients = map listener_of i.clients;
  ended = i.shared.ended;
  openings = i.shared.openings;
}

-- the transition of an event after an image
abbrev pub world_transition_at : Image → LogEntry → WorldTransition
world_transition_at i h = record {
  before = world_of i;
  event = h.event;
  transition = transition i h.event;
  notices = (told_by i h.event (transition i h.event)).notices;
  report = report_at i h.event (transition i h.event);
  after = world_of (next_image h.seat i h.event);
}

-- some transitions, and in front of them those of these events after an image
abbrev pub world_transitions_from : Image → List WorldTransition → List LogEntry → List WorldTransition
world_transitions_from i earlier [] = earlier
world_transitions_from i earlier (h ∷ hs) = world_transitions_from (next_image h.seat i h.event) (world_transition_at i h ∷ earlier) hs

-- the transitions of a window, the latest first
abbrev pub world_transitions_of : Chronicle → List WorldTransition
world_transitions_of c = world_transitions_from c.base [] c.window

abbrev pub flags_of : Option Client → Subsystems
flags_of None = none
flags_of (Some client) = client.pending.changed

-- what an image keeps as pending for a client; nothing for one that is not there
abbrev pub kept_for : ℕ → Image → Subsystems
kept_for number i = flags_of (client_of number i.clients)

-- a subsystem is pending for a client where some event since the base raised it, at which and since which the
-- client was there and was sent no notice; or where it is pending in the base, and since then the client was
-- there and was sent no notice
abbrev pub IsPendingSince : Image → ℕ → Subsystem → List WorldTransition → Type 0
IsPendingSince base number subsystem world_transitions = IsPending number subsystem world_transitions ⊎ ((has (kept_for number base) subsystem ≡ true) × NeverAnew number world_transitions)

-- the flags of a client are its pending set by a base and the transitions since
abbrev pub HasPendingSince : Image → List WorldTransition → Client → Type 0
HasPendingSince base world_transitions client = (subsystem : Subsystem) → (has client.pending.changed subsystem ≡ true) ↔ IsPendingSince base client.number subsystem world_transitions

-- the flags of each client are its pending set by the base and the window
abbrev pub AllHavePending : Chronicle → Type 0
AllHavePending c = All (HasPendingSince c.base (world_transitions_of c)) c.present.clients

-- a number, and a sum over the transitions since
abbrev pub summed_onto : ℕ → (WorldTransition → ℕ) → List WorldTransition → ℕ
summed_onto first of_one [] = first
summed_onto first of_one (m ∷ ms) = of_one m + summed_onto first of_one ms

-- the frames of eight outputs: those of the books of a base, and those of the transitions since
abbrev pub books_since : FrameBooks → List WorldTransition → FrameBooks
books_since base world_transitions = record {
  decoded = map (λ output. summed_onto (slice_index_or base.decoded output 0) (λ m. decoded_by m.transition.effect m.report output) world_transitions) (range_with_len 0 8);
  written = map (λ output. summed_onto (slice_index_or base.written output 0) (λ m. written_by m.transition.effect output) world_transitions) (range_with_len 0 8);
  discarded = map (λ output. summed_onto (slice_index_or base.discarded output 0) (λ m. discarded_by m.transition.effect output) world_transitions) (range_with_len 0 8);
}

-- the frames of eight outputs, by the base of a history and its window
abbrev pub books_of_all : Chronicle → FrameBooks
books_of_all c = books_since c.base.shared.books (world_transitions_of c)
