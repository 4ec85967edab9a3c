-- By which readings it is told what an event changed.
use Rattle.std.specs.Prelude.{◌≡◌, ℕ, Bool, true, false, not, nat_eq, ◌&&◌, ◌==◌, List, [], ◌∷◌, length, map, Option, Some, None, is_some, option_map, if◌then◌else◌}
use Rattle.std.specs.List.{list_any}
use Rattle.idle_notes.specs.Channels.{clients_with_messages, has_messages_beyond, is_listening, listens, MemberData}
use Rattle.idle_notes.specs.declared.sets.Subsystems.{Subsystems}
use Rattle.idle_notes.specs.Sets.{all, is_nonempty, none}
use Rattle.song_queue.specs.State.{differ}
use Rattle.player_state.specs.declared.state.Client.{Client}
use Rattle.player_state.specs.declared.effect.Effect.{Effect}
use Rattle.player_state.specs.declared.effect.Effect.TheVariants.{ByCommand}
use Rattle.player_state.specs.declared.effect.CommandEffect.TheVariants.{Subscribes, Unsubscribes, Leaves}
use Rattle.player_state.specs.declared.state.Library.{Library}
use Rattle.player_state.specs.declared.state.Part.{Part}
use Rattle.connected_clients.specs.declared.fingerprint.OutputFlags.{OutputFlags}
use Rattle.connected_clients.specs.declared.fingerprint.OutputsAt.{OutputsAt}
use Rattle.connected_clients.specs.declared.fingerprint.Options.{Options}
use Rattle.partition_table.specs.Parts.{part_at}
use Rattle.partition_table.specs.declared.crossing.Crossing.{Crossing}
use Rattle.partition_table.specs.declared.crossing.Crossing.TheVariants.{Brings}
use Rattle.transitions.specs.declared.shelf_calls.ShelfWrite.{ShelfWrite}
use Rattle.transitions.specs.Shelves.{changes_lists, changes_stickers}
use Rattle.connected_clients.specs.Clients.{Playing, has_messages, is_this, options, output_flags, playing, same_options, same_outputs, same_playing}

-- readings of one partition: the parity of the queue's changes, what is played, the volume, which outputs are there
-- and enabled, the modes, and the clients for which messages wait
pub record PartReadings : Type 0 where
  pub parity : Bool
  pub playing : Playing
  pub volume : ℕ
  pub outputs : OutputFlags
  pub options : Options
  pub having : List ℕ

-- these together are the readings
abbrev pub readings_from : Bool → Playing → ℕ → OutputFlags → Options → List ℕ → PartReadings
readings_from parity playing volume outputs options having = record {
  parity = parity;
  playing = playing;
  volume = volume;
  outputs = outputs;
  options = options;
  having = having;
}

abbrev pub readings : Part → PartReadings
readings part = record {
  parity = part.queue.parity;
  playing = playing part.player;
  volume = part.volume;
  outputs = output_flags part.outputs;
  options = options part.player;
  having = clients_with_messages part.channels;
}

-- readings before an event: whether a scan runs, how many partitions there are, the readings of the partition of
-- the event, if it is there, and of all partitions which outputs are there and enabled, where an output goes from
-- one to another
pub record FingerprintData : Type 0 where
  pub scans : Bool
  pub count : ℕ
  pub index : ℕ
  pub own : Option PartReadings
  pub outputs : List OutputsAt

abbrev pub fingerprint_from : Bool → ℕ → ℕ → Option PartReadings → List OutputsAt → FingerprintData
fingerprint_from scans count index own outputs = record { scans = scans; count = count; index = index; own = own; outputs = outputs }

abbrev pub outputs_in : Part → OutputsAt
outputs_in part = record { index = part.index; flags = output_flags part.outputs }

-- whether an output goes from one partition to another
abbrev pub is_bringing : Crossing → Bool
is_bringing (Brings output to) = true
is_bringing _ = false

abbrev pub outputs_before : Crossing → List Part → List OutputsAt
outputs_before crossing parts = if is_bringing crossing then map outputs_in parts else []

abbrev pub fingerprint : Crossing → ℕ → List Part → Library → FingerprintData
fingerprint crossing index parts library = record {
  scans = library.scan.runs;
  count = length parts;
  index = index;
  own = option_map readings (part_at index parts);
  outputs = outputs_before crossing parts;
}

-- whether an event makes other clients listen, or to other channels
abbrev pub changes_subscriptions : List MemberData → Effect → Bool
changes_subscriptions channels (ByCommand (Subscribes client channel)) = true
changes_subscriptions channels (ByCommand (Unsubscribes client channel)) = listens client channel channels
changes_subscriptions channels (ByCommand (Leaves client)) = is_listening client channels
changes_subscriptions channels _ = false

-- the same of the clients of a partition, if it is there
abbrev pub changes_listeners_in : Option Part → Effect → Bool
changes_listeners_in None effect = false
changes_listeners_in (Some part) effect = changes_subscriptions part.channels effect

abbrev pub is_among : ℕ → List ℕ → Bool
is_among number numbers = list_any (λ n. n == number) numbers

-- What an event raised: for the client that goes to another partition everything; for the others in the event's
-- partition the same for all, except for messages, of which those hear for which none waited before it; in the other
-- partitions the same for all, except for outputs that went or came. It is told by the readings before the event and
-- by the partitions now.
pub record RaisedData : Type 0 where
  pub moved_client : Option ℕ
  pub common : Subsystems
  pub own : Subsystems
  pub before : FingerprintData
  pub parts : List Part

abbrev pub raised_from : Option ℕ → Subsystems → Subsystems → FingerprintData → List Part → RaisedData
raised_from moved_client common own before parts = record { moved_client = moved_client; common = common; own = own; before = before; parts = parts }

-- whether messages wait for a client in a partition, if that is there
abbrev pub has_messages_in : ℕ → Option Part → Bool
has_messages_in number None = false
has_messages_in number (Some part) = has_messages number part.channels

-- whether messages wait in it for others than these
abbrev pub has_beyond : List ℕ → Option Part → Bool
has_beyond having None = false
has_beyond having (Some part) = has_messages_beyond having part.channels

-- which outputs were there and enabled in the first partition of a number
abbrev pub outputs_at : ℕ → List OutputsAt → Option OutputFlags
outputs_at index [] = None
outputs_at index (o ∷ os) = if o.index == index then Some o.flags else outputs_at index os

abbrev pub outputs_differ_from : Option OutputFlags → Option Part → Bool
outputs_differ_from None part = false
outputs_differ_from (Some before) None = false
outputs_differ_from (Some before) (Some part) = not (same_outputs before (output_flags part.outputs))

-- whether other outputs are in a partition now, or others are enabled in it
abbrev pub outputs_differ : ℕ → List OutputsAt → List Part → Bool
outputs_differ index before parts = outputs_differ_from (outputs_at index before) (part_at index parts)

-- whether the first message waits for a client in the event's partition
abbrev pub begins_between : ℕ → Option PartReadings → Option Part → Bool
begins_between number None part = false
begins_between number (Some before) part = not (is_among number before.having) && has_messages_in number part

abbrev pub begins_in : RaisedData → ℕ → Bool
begins_in r number = begins_between number r.before.own (part_at r.before.index r.parts)

-- what it raised for a client
abbrev pub raised_in : RaisedData → Client → Subsystems
raised_in r client =
    if is_this r.moved_client client.number then all
    else (if client.index == r.before.index then record r.own { message = begins_in r client.number }
    else record r.common { output = outputs_differ client.index r.before.outputs r.parts })

-- whether messages wait in the event's partition for clients for which none waited
abbrev pub begins_beyond : Option PartReadings → Option Part → Bool
begins_beyond None part = false
begins_beyond (Some before) part = has_beyond before.having part

abbrev pub messages_begin : RaisedData → Bool
messages_begin r = begins_beyond r.before.own (part_at r.before.index r.parts)

-- in a partition other than the event's, outputs went or came
abbrev pub outputs_differ_elsewhere : RaisedData → Bool
outputs_differ_elsewhere r =
    list_any (λ (o : OutputsAt). not (o.index == r.before.index) && outputs_differ o.index r.before.outputs r.parts) r.before.outputs

-- nothing was raised for any client, by what is known of all of them together
abbrev pub is_quiet : RaisedData → Bool
is_quiet r =
    not (is_some r.moved_client)
    && (((not (is_nonempty (record r.own { message = false })) && not (messages_begin r)) && not (is_nonempty (record r.common { output = false })))
    && not (outputs_differ_elsewhere r))

-- the subsystems that are the same for all clients whose readings differ; whether the songs do, and what was
-- written to the shelf, is known apart
abbrev pub common_by_fingerprint : Bool → ShelfWrite → FingerprintData → List Part → Library → Subsystems
common_by_fingerprint database written before parts library = record none {
  database = database;
  update = differ before.scans library.scan.runs;
  stored_playlist = changes_lists written;
  sticker = changes_stickers written;
  partition = not (nat_eq before.count (length parts));
}

-- and those of the event's partition, messages aside; whether others listen to a channel is known apart
abbrev pub own_by_readings : Bool → Option PartReadings → Option Part → Subsystems → Subsystems
own_by_readings subscription (Some before) (Some part) common = record common {
  playlist = differ before.parity part.queue.parity;
  player = not (same_playing before.playing (playing part.player));
  mixer = not (nat_eq before.volume part.volume);
  output = not (same_outputs before.outputs (output_flags part.outputs));
  options = not (same_options before.options (options part.player));
  subscription = subscription;
}
own_by_readings subscription (Some before) None common = common
own_by_readings subscription None part common = common

-- what is raised, by the readings before and the player now
abbrev pub raised_by_fingerprint : Option ℕ → Bool → Bool → ShelfWrite → FingerprintData → List Part → Library → RaisedData
raised_by_fingerprint moved_client database subscription written before parts library =
    let common : Subsystems = common_by_fingerprint database written before parts library in
    raised_from moved_client common (own_by_readings subscription before.own (part_at before.index parts) common) before parts
