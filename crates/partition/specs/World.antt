-- The plain data of a player of one thread, with every queue that it had, and everything that happened to it.
use Rattle.std.specs.Prelude.{◌≡◌, ◌≢◌, ◌⊎◌, ℕ, ◌+◌, ◌==◌, nat_lt, Bool, true, false, not, ◌&&◌, ◌||◌, List, [], ◌∷◌, ◌++◌, length, filter, Option, Some, None, map, take_while, if◌then◌else◌}
use Rattle.std.specs.List.{list_any, range_with_len}
use Rattle.idle_notes.specs.declared.sets.Subsystems.{Subsystems}
use Rattle.idle_notes.specs.declared.subsystem.Subsystem.{Subsystem}
use Rattle.idle_notes.specs.declared.subsystem.Subsystem.TheVariants.{Database, Update, StoredPlaylist, Playlist, Player, Mixer, Output, Options, Sticker, Subscription, Message, Partition}
use Rattle.idle_notes.specs.Sets.{none, union}
use Rattle.idle_notes.specs.Channels.{MemberData, messages_of, pairs}
use Rattle.mpd_text.specs.declared.songs.song.TagName.{TagName}
use Rattle.song_queue.specs.declared.entry.Entry.{Entry}
use Rattle.song_queue.specs.Past.{present, after_event, state_of}
use Rattle.song_queue.specs.Laws as queues
use Rattle.player_core.specs.Player.{PlayerState}
use Rattle.player_events.specs.declared.event.Event.{Event}
use Rattle.player_events.specs.declared.event.LogEntry.{LogEntry}
use Rattle.transitions.specs.declared.reply.Move.{Move}
use Rattle.transitions.specs.declared.reply.Move.TheVariants.{Stay, Wait, Learn, Resume, Join, Show, Enter}
use Rattle.connected_clients.specs.declared.notices.Notice.{Notice}
use Rattle.player_state.specs.declared.state.Client.{Client}
use Rattle.player_state.specs.declared.effect.Effect.{Effect}
use Rattle.player_state.specs.declared.state.Library.{Library}
use Rattle.player_state.specs.declared.state.Part.{Part}
use Rattle.player_state.specs.declared.report.Report.{Report}
use Rattle.connected_clients.specs.Clients.{Watched, WatchedAll, is_this, raised, move_of, newcomer, options, output_flags, playing}
use Rattle.partition.specs.History.{made_of}
use Rattle.player_state.specs.Outputs.{FrameBooks, OutputsData, decoded_by, discarded_by, written_by}
use Rattle.player_state.specs.Effects.{Change, ByEdit, ByStep, change_of, channels_after, outputs_after, played_after, player_after, volume_after}
use Rattle.partition.specs.Image.{Image}
use Rattle.transitions.specs.Transitions.{TransitionData}
use Rattle.player_state.specs.Libraries.{library_after}
use Rattle.transitions.specs.Shelves.{changes_lists, changes_stickers}
use Rattle.partition.specs.Step.{transition, moved_client, sender_number, after_transition, ended_after, index_at, report_at, told_by}
use Rattle.partition_table.specs.Parts.{carried_in, known, outputs_moved}
use Rattle.partition_table.specs.declared.crossing.Crossing.{Crossing}
use Rattle.partition_table.specs.declared.crossing.Crossing.TheVariants.{Stays, Opens, Closes, Brings}
use Rattle.partition_table.specs.Openings.{OpeningsData}
use Rattle.partition_table.specs.declared.openings.Greatest.{Greatest}
use Rattle.player_state.specs.declared.outputs.Carried.{Carried}

-- a client, the partition that it is in, the tags that it is shown, and what it waits for, if it waits
pub record Listener : Type 0 where
  pub number : ℕ
  pub index : ℕ
  pub tags : List TagName
  pub waiting : Option Subsystems

-- what one partition owns: its number and its name; all queues that it had, the newest first; its limits, what
-- is played, the volume, the outputs, who listens to which channel and the messages that wait, and how many
-- frames were decoded
pub record PartWorld : Type 0 where
  pub index : ℕ
  pub name : List ℕ
  pub past : List (List Entry)
  pub limits : Greatest
  pub player : PlayerState
  pub volume : ℕ
  pub outputs : OutputsData
  pub channels : List MemberData
  pub played : ℕ

-- what each partition owns, the library, the clients, whether the daemon has ended, and what a new partition is
-- opened with
pub record World : Type 0 where
  pub parts : List PartWorld
  pub library : Library
  pub clients : List Listener
  pub ended : Bool
  pub openings : OpeningsData

-- one event: the worlds before and after it, what it made of the player, the notices that went out, and what
-- a part of the daemon was told that is no client
pub record WorldTransition : Type 0 where
  pub before : World
  pub event : Event
  pub transition : TransitionData
  pub notices : List Notice
  pub report : Report
  pub after : World

-- a world, and the transitions that led to it, the latest first
pub record Trace : Type 0 where
  pub world : World
  pub world_transitions : List WorldTransition

-- the first partition of a number
abbrev pub world_at : ℕ → List PartWorld → Option PartWorld
world_at index [] = None
world_at index (p ∷ ps) = if p.index == index then Some p else world_at index ps

-- what the subsystems speak of, of a partition and of all
abbrev pub watched_by : PartWorld → Watched
watched_by p = record {
  index = p.index;
  name = p.name;
  queue = present p.past;
  player = p.player;
  volume = p.volume;
  outputs = p.outputs;
  channels = p.channels;
}

abbrev pub watched_in : World → WatchedAll
watched_in w = record { library = w.library; parts = map watched_by w.parts }

abbrev pub names_in : World → List (List ℕ)
names_in w = map (λ (p : PartWorld). p.name) w.parts

-- no message waited for a client, and one does
abbrev pub BeginsToHave : ℕ → PartWorld → PartWorld → Type 0
BeginsToHave number before after = (messages_of number before.channels ≡ []) × (messages_of number after.channels ≢ [])

-- The part of one partition that a subsystem speaks of for a client differs. Of some subsystems it is no
-- partition's.
abbrev pub DiffersWithin : ℕ → Subsystem → PartWorld → PartWorld → Type 0
DiffersWithin number Playlist before after = present before.past ≢ present after.past
DiffersWithin number Player before after = playing before.player ≢ playing after.player
DiffersWithin number Mixer before after = before.volume ≢ after.volume
DiffersWithin number Output before after = output_flags before.outputs ≢ output_flags after.outputs
DiffersWithin number Options before after = options before.player ≢ options after.player
DiffersWithin number Subscription before after = pairs before.channels ≢ pairs after.channels
DiffersWithin number Message before after = BeginsToHave number before after
DiffersWithin number _ before after = ⊥

-- it differs where the partition was there before the event and is there after it
abbrev pub DiffersBetween : ℕ → Subsystem → Option PartWorld → Option PartWorld → Type 0
DiffersBetween number subsystem (Some before) (Some after) = DiffersWithin number subsystem before after
DiffersBetween number subsystem (Some before) None = ⊥
DiffersBetween number subsystem None after = ⊥

-- The part that a subsystem speaks of differs, and is the same for all clients. Of the shelf, which stands beside
-- the worlds, the event tells what was written.
abbrev pub DiffersForAll : Subsystem → WorldTransition → Type 0
DiffersForAll Database m = m.before.library.songs ≢ m.after.library.songs
DiffersForAll Update m = m.before.library.scan.runs ≢ m.after.library.scan.runs
DiffersForAll StoredPlaylist m = changes_lists m.transition.written ≡ true
DiffersForAll Sticker m = changes_stickers m.transition.written ≡ true
DiffersForAll Partition m = names_in m.before ≢ names_in m.after
DiffersForAll _ m = ⊥

-- the partition of the client of a number; the first for one that is not there
abbrev pub index_of : ℕ → List Listener → ℕ
index_of number [] = 0
index_of number (l ∷ ls) = if l.number == number then l.index else index_of number ls

-- the part that a subsystem speaks of for a client that is in a partition differs between the worlds before and
-- after an event
abbrev pub DiffersAt : ℕ → ℕ → Subsystem → WorldTransition → Type 0
DiffersAt number index subsystem m =
    DiffersForAll subsystem m ⊎ DiffersBetween number subsystem (world_at index m.before.parts) (world_at index m.after.parts)

-- by an event a client goes to another partition
abbrev pub GoesBy : ℕ → WorldTransition → Type 0
GoesBy number m = is_this (moved_client (sender_number m.event) m.transition.response) number ≡ true

-- A subsystem is raised for a client: it goes to another partition, where all is new to it, or the part of which
-- the subsystem speaks differs where it is
abbrev pub Differs : ℕ → Subsystem → WorldTransition → Type 0
Differs number subsystem m = GoesBy number m ⊎ DiffersAt number (index_of number m.before.clients) subsystem m

-- the client of a number in its partition, whatever it is shown and whatever is pending for it
abbrev pub seated : ℕ → World → Client
seated number w = record (newcomer number) { index = index_of number w.clients }

-- what an event raised for a client: everything where it goes to another partition, and else the subsystems whose
-- parts differ between the worlds before and after it
abbrev pub raised_for : WorldTransition → Client → Subsystems
raised_for m client = raised (moved_client (sender_number m.event) m.transition.response) m.transition.written (watched_in m.before) (watched_in m.after) client

-- the same, for the client of a number, which is where it was before the event
abbrev pub raised_at : ℕ → WorldTransition → Subsystems
raised_at number m = raised_for m (seated number m.before)

abbrev pub is_there : ℕ → World → Bool
is_there number w = list_any (λ k. k.number == number) w.clients

abbrev pub is_learning : Move → Bool
is_learning Stay = false
is_learning (Wait names) = false
is_learning Learn = true
is_learning Resume = false
is_learning Join = false
is_learning (Show tags) = false
is_learning (Enter index) = false

-- a client was sent a notice: after another's event, or as the answer to its own `idle`
abbrev pub is_told : ℕ → WorldTransition → Bool
is_told number m = list_any (λ n. n.client == number) m.notices || ((number == sender_number m.event) && is_learning (move_of m.transition.response))

-- the client was not there before the event, or was sent a notice at it
abbrev pub begins_anew : ℕ → WorldTransition → Bool
begins_anew number m = not (is_there number m.before) || is_told number m

-- the transitions after a client's connect or last notice, whichever is later
abbrev pub since : ℕ → List WorldTransition → List WorldTransition
since number world_transitions = take_while (λ m. not (begins_anew number m)) world_transitions

abbrev pub union_all : List Subsystems → Subsystems
union_all [] = none
union_all (set ∷ sets) = union (union_all sets) set

-- what is pending for a client: everything that was raised since
abbrev pub pending_for : ℕ → List WorldTransition → Subsystems
pending_for number world_transitions = union_all (map (raised_at number) (since number world_transitions))

-- at none of these transitions a client's pending set begins anew
abbrev pub NeverAnew : ℕ → List WorldTransition → Type 0
NeverAnew number [] = Unit {0}
NeverAnew number (m ∷ ms) = (begins_anew number m ≡ false) × NeverAnew number ms

-- a subsystem is pending for a client where its part differs between the worlds before and after some event,
-- at which and since which the client was there and was sent no notice
pub record IsPending (number : ℕ) (subsystem : Subsystem) (world_transitions : List WorldTransition) : Type 0 where
  pub later : List WorldTransition
  pub world_transition : WorldTransition
  pub earlier : List WorldTransition
  pub order : world_transitions ≡ later ++ world_transition ∷ earlier
  pub raised : Differs number subsystem world_transition
  pub since : NeverAnew number (later ++ world_transition ∷ [])

-- what commands can read of a client
abbrev pub client_in : List WorldTransition → Listener → Client
client_in world_transitions k = record {
  number = k.number;
  index = k.index;
  tags = k.tags;
  pending = record { waiting = k.waiting; changed = pending_for k.number world_transitions };
}

abbrev pub listener_of : Client → Listener
listener_of client = record {
  number = client.number;
  index = client.index;
  tags = client.tags;
  waiting = client.pending.waiting;
}

-- a sum over transitions
abbrev pub summed : (WorldTransition → ℕ) → List WorldTransition → ℕ
summed of_one [] = 0
summed of_one (m ∷ ms) = of_one m + summed of_one ms

-- the frames of an output: what it was given, wrote and discarded, summed over the transitions
abbrev pub decoded_of : List WorldTransition → ℕ → ℕ
decoded_of world_transitions output = summed (λ m. decoded_by m.transition.effect m.report output) world_transitions

abbrev pub written_of : List WorldTransition → ℕ → ℕ
written_of world_transitions output = summed (λ m. written_by m.transition.effect output) world_transitions

abbrev pub discarded_of : List WorldTransition → ℕ → ℕ
discarded_of world_transitions output = summed (λ m. discarded_by m.transition.effect output) world_transitions

-- the books of eight outputs
abbrev pub books_of : List WorldTransition → FrameBooks
books_of world_transitions = record {
  decoded = map (decoded_of world_transitions) (range_with_len 0 8);
  written = map (written_of world_transitions) (range_with_len 0 8);
  discarded = map (discarded_of world_transitions) (range_with_len 0 8);
}

-- what commands can read of a partition: the present queue with the stamps and marks of its past, and the rest
-- as it is
abbrev pub part_in : PartWorld → Part
part_in p = record {
  index = p.index;
  name = p.name;
  queue = state_of p.limits.max_queue p.limits.max_version p.limits.max_id p.past;
  player = p.player;
  volume = p.volume;
  outputs = p.outputs;
  channels = p.channels;
  played = p.played;
}

-- what commands can read of a trace that these events led to: the present queues with the stamps and marks of
-- their pasts, what is pending for each client by the transitions, the frames of each output by the transitions,
-- and what each seat made
abbrev pub image_of : Trace → List LogEntry → Image
image_of trace history = record {
  parts = map part_in trace.world.parts;
  shared = record {
    library = trace.world.library;
    made = made_of history;
    books = books_of trace.world_transitions;
    ended = trace.world.ended;
    openings = trace.world.openings;
  };
  clients = map (client_in trace.world_transitions) trace.world.clients;
}

-- a queue joins the past where it differs from the one before
abbrev pub past_after : List (List Entry) → Change → List (List Entry)
past_after past (ByEdit edit) = after_event past (queues.queue_after past edit)
past_after past (ByStep None) = past
past_after past (ByStep (Some left)) = after_event past left

-- what a partition owns after an event, of which it is known what commands can read of it before; its number,
-- its name and its limits stay
abbrev pub part_world_after : ℕ → Part → PartWorld → Effect → PartWorld
part_world_after rate part p effect = record p {
  past = past_after p.past (change_of rate part effect);
  player = player_after rate part effect;
  volume = volume_after p.volume effect;
  outputs = outputs_after rate part effect;
  channels = channels_after p.channels effect;
  played = played_after part effect;
}

-- the first partition of a number does this
abbrev pub parts_changed : ℕ → ℕ → Effect → List PartWorld → List PartWorld
parts_changed rate index effect [] = []
parts_changed rate index effect (p ∷ ps) =
    if p.index == index then part_world_after rate (part_in p) p effect ∷ ps else p ∷ parts_changed rate index effect ps

abbrev pub limits_of : Part → Greatest
limits_of part = record {
  max_queue = part.queue.max_len;
  max_version = part.queue.max_version;
  max_id = part.queue.max_id;
  max_cut = part.player.max_cut;
}

-- what a partition owns, with these queues as its past
abbrev pub part_world_of : List (List Entry) → Part → PartWorld
part_world_of past part = record {
  index = part.index;
  name = part.name;
  past = past;
  limits = limits_of part;
  player = part.player;
  volume = part.volume;
  outputs = part.outputs;
  channels = part.channels;
  played = part.played;
}

-- a partition to which nothing happened had one queue, an empty one
abbrev pub unplayed : Part → PartWorld
unplayed part = part_world_of ([] ∷ []) part

-- a new one is behind the others; there are 16 at most
abbrev pub with_world : PartWorld → List PartWorld → List PartWorld
with_world p ps = if nat_lt (length ps) 16 then ps ++ p ∷ [] else ps

-- an output comes to the partition of a number as it is carried, and is in no other
abbrev pub world_moved_output : ℕ → ℕ → Option Carried → PartWorld → PartWorld
world_moved_output output to None p = p
world_moved_output output to (Some c) p = record p { outputs = outputs_moved output (p.index == to) c p.outputs }

-- what passes between the partitions
abbrev pub worlds_moved : Crossing → List PartWorld → List PartWorld
worlds_moved Stays ps = ps
worlds_moved (Opens p) ps = with_world (unplayed p) ps
worlds_moved (Closes index) ps = filter (λ (p : PartWorld). not (p.index == index)) ps
worlds_moved (Brings output to) ps = map (world_moved_output output to (carried_in output to (map known (map part_in ps)))) ps

-- the world after a transition, of which the image of the world before it is known
abbrev pub world_after_transition : World → Image → Event → TransitionData → World
world_after_transition w i event t = record {
  parts = worlds_moved t.crossing (parts_changed w.library.rate (index_at i event) t.effect w.parts);
  library = library_after w.library t.scan;
  clients = map listener_of (after_transition i event t).clients;
  ended = ended_after w.ended event;
  openings = w.openings;
}

abbrev pub traced : Trace → Image → Event → TransitionData → Trace
traced trace i event t =
    let after = world_after_transition trace.world i event t in
    record {
      world = after;
      world_transitions =
          record { before = trace.world; event = event; transition = t; notices = (told_by i event t).notices; report = report_at i event t; after = after }
          ∷ trace.world_transitions;
    }

-- one event in a trace that these events led to
abbrev pub trace_after_event : List LogEntry → Trace → Event → Trace
trace_after_event history trace event = traced trace (image_of trace history) event (transition (image_of trace history) event)

-- a trace that some events led to, after more
abbrev pub trace_from : List LogEntry → Trace → List LogEntry → Trace
trace_from done trace [] = trace
trace_from done trace (h ∷ hs) = trace_from (done ++ h ∷ []) (trace_after_event done trace h.event) hs

-- a trace in which nothing happened to a daemon
abbrev pub opening_trace : Image → Trace
opening_trace base = record {
  world = record {
    parts = map unplayed base.parts;
    library = base.shared.library;
    clients = [];
    ended = base.shared.ended;
    openings = base.shared.openings;
  };
  world_transitions = [];
}

-- the trace of a daemon after a history
abbrev pub trace_after : Image → List LogEntry → Trace
trace_after base history = trace_from [] (opening_trace base) history
