-- Who is told of what changed, and what becomes of the clients (MPD protocol reference, Querying MPD's
-- status, `idle`).
use Rattle.std.specs.Prelude.{ℕ, ◌+◌, ◌<◌, ◌==◌, nat_eq, nat_lt, Bool, true, false, not, ◌&&◌, List, [], ◌∷◌, Option, Some, None, is_some, option_map, map, filter, insert, length, string_bytes, if◌then◌else◌}
use Rattle.std.specs.Bool.{beq}
use Rattle.std.specs.List.{flat_map, position_or_len}
use Rattle.std.specs.Str.{bytes_eq}
use Rattle.std.specs.declared.string.String.{String}
use lib.Pointwise.{pointwise}
use Rattle.idle_notes.specs.declared.pending.Pending.{Pending}
use Rattle.idle_notes.specs.declared.sets.Subsystems.{Subsystems}
use Rattle.idle_notes.specs.Sets.{all, none}
use Rattle.idle_notes.specs.Channels.{MemberData, messages_of, pairs}
use Rattle.idle_notes.specs.Notes.{everything, fresh, noted, waits, cancelled, notice_of, up_to_date}
use Rattle.mpd_text.specs.Songs.Tags.{tag_names}
use Rattle.mpd_text.specs.declared.songs.song.TagName.{TagName}
use Rattle.song_queue.specs.declared.entry.Entry.{Entry}
use Rattle.song_queue.specs.Entries.{same_queue}
use Rattle.song_queue.specs.State.{queue_of, differ}
use Rattle.play_order.specs.declared.modes.Single.{Single}
use Rattle.play_order.specs.declared.modes.Single.TheVariants as single_mode
use Rattle.play_order.specs.declared.modes.Consume.{Consume}
use Rattle.play_order.specs.declared.modes.Consume.TheVariants as consume_mode
use Rattle.player_core.specs.declared.state.Playback.{Playback}
use Rattle.player_core.specs.declared.state.Playback.TheVariants.{Stop, Play, Pause}
use Rattle.player_core.specs.Player.{PlayerState}
use Rattle.transitions.specs.declared.reply.Move.{Move}
use Rattle.transitions.specs.declared.reply.Move.TheVariants.{Stay, Wait, Learn, Resume, Join, Show, Enter}
use Rattle.connected_clients.specs.declared.notices.Notice.{Notice}
use Rattle.player_state.specs.declared.state.Client.{Client}
use Rattle.player_state.specs.declared.state.Library.{Library}
use Rattle.player_state.specs.declared.state.Part.{Part}
use Rattle.transitions.specs.Answers.{ResponseData, closes}
use Rattle.connected_clients.specs.declared.fingerprint.Options.{Options}
use Rattle.connected_clients.specs.declared.fingerprint.OutputFlags.{OutputFlags}
use Rattle.player_state.specs.Libraries.{same_songs}
use Rattle.player_state.specs.Outputs.{OutputsData}
use Rattle.transitions.specs.Shelves.{changes_lists, changes_stickers}
use Rattle.transitions.specs.declared.shelf_calls.ShelfWrite.{ShelfWrite}

-- the client of a number, if it is there
abbrev pub client_of : ℕ → List Client → Option Client
client_of number [] = None
client_of number (client ∷ clients) = if client.number == number then Some client else client_of number clients

-- what subsystems speak of in one partition
pub record Watched : Type 0 where
  pub index : ℕ
  pub name : List ℕ
  pub queue : List Entry
  pub player : PlayerState
  pub volume : ℕ
  pub outputs : OutputsData
  pub channels : List MemberData

abbrev pub watched_of : Part → Watched
watched_of part = record {
  index = part.index;
  name = part.name;
  queue = queue_of part.queue;
  player = part.player;
  volume = part.volume;
  outputs = part.outputs;
  channels = part.channels;
}

-- what subsystems speak of: the songs and the scans, and the partitions
pub record WatchedAll : Type 0 where
  pub library : Library
  pub parts : List Watched

abbrev pub watched_all : Library → List Part → WatchedAll
watched_all library parts = record { library = library; parts = map watched_of parts }

-- the first partition of a number
abbrev pub watched_at : ℕ → List Watched → Option Watched
watched_at index [] = None
watched_at index (w ∷ ws) = if w.index == index then Some w else watched_at index ws

-- numbers by which states and modes are compared
abbrev pub playback_number : Playback → ℕ
playback_number Stop = 0
playback_number Play = 1
playback_number Pause = 2

abbrev pub single_number : Single → ℕ
single_number single_mode.Off = 0
single_number single_mode.On = 1
single_number single_mode.Oneshot = 2

abbrev pub consume_number : Consume → ℕ
consume_number consume_mode.Off = 0
consume_number consume_mode.On = 1
consume_number consume_mode.Oneshot = 2

abbrev pub id_number : Option ℕ → ℕ
id_number None = 0
id_number (Some id) = id + 1

-- the bytes of a text, if there is one
abbrev pub bytes_of : {A : Type 0} → Option (String A) → Option (List ℕ)
bytes_of text = option_map string_bytes text

abbrev pub same_error : Option (List ℕ) → Option (List ℕ) → Bool
same_error None None = true
same_error None (Some b) = false
same_error (Some a) None = false
same_error (Some a) (Some b) = bytes_eq a b

-- the part of the player that `player` speaks of: the state, the current song, the starts, the cuts, the
-- error
pub record Playing : Type 0 where
  pub playback : Playback
  pub current : Option ℕ
  pub starts : ℕ
  pub cuts : ℕ
  pub error : Option (List ℕ)

-- these together are what is played
abbrev pub playing_from : Playback → Option ℕ → ℕ → ℕ → Option (List ℕ) → Playing
playing_from playback current starts cuts error =
    record { playback = playback; current = current; starts = starts; cuts = cuts; error = error }

abbrev pub playing : PlayerState → Playing
playing p = record { playback = p.playback; current = p.current; starts = p.starts; cuts = p.cuts; error = p.error }

abbrev pub same_playing : Playing → Playing → Bool
same_playing p q =
    nat_eq (playback_number p.playback) (playback_number q.playback) && (nat_eq (id_number p.current) (id_number q.current)
    && (nat_eq p.starts q.starts && (nat_eq p.cuts q.cuts && same_error p.error q.error)))

-- the part that `options` speaks of: the modes, and the seconds of a fade
abbrev pub options : PlayerState → Options
options p = record { modes = p.modes; crossfade = p.crossfade }

abbrev pub same_options : Options → Options → Bool
same_options p q =
    beq p.modes.repeat q.modes.repeat && (beq p.modes.random q.modes.random
    && (nat_eq (single_number p.modes.single) (single_number q.modes.single)
    && (nat_eq (consume_number p.modes.consume) (consume_number q.modes.consume) && nat_eq p.crossfade q.crossfade)))

-- whether flags are the same
unfoldable pub same_flags : List Bool → List Bool → Bool
same_flags = pointwise beq

-- the part that `output` speaks of: which outputs are in the partition, and which of these are enabled
abbrev pub output_flags : OutputsData → OutputFlags
output_flags outputs = record { here = outputs.here; enabled = outputs.enabled }

abbrev pub same_outputs : OutputFlags → OutputFlags → Bool
same_outputs p q = same_flags p.here q.here && same_flags p.enabled q.enabled

abbrev pub same_pair : ℕ × List ℕ → ℕ × List ℕ → Bool
same_pair p q = nat_eq p.0 q.0 && bytes_eq p.1 q.1

-- whether the same clients listen to the same channels
unfoldable pub same_pairs : List (ℕ × List ℕ) → List (ℕ × List ℕ) → Bool
same_pairs = pointwise same_pair

abbrev pub has_messages : ℕ → List MemberData → Bool
has_messages number channels = not (length (messages_of number channels) == 0)

-- the first message waits for a client
abbrev pub begins_to_have : ℕ → List MemberData → List MemberData → Bool
begins_to_have number before after = not (has_messages number before) && has_messages number after

-- whether the same partitions are there, by their names
unfoldable pub same_names : List (List ℕ) → List (List ℕ) → Bool
same_names = pointwise bytes_eq

abbrev pub names_of : List Watched → List (List ℕ)
names_of ws = map (λ (w : Watched). w.name) ws

-- the subsystems whose parts differ before and after an event, for every client: the songs, whether a scan runs,
-- the stored playlists, the stickers, the names of the partitions
abbrev pub raised_for_all : ShelfWrite → WatchedAll → WatchedAll → Subsystems
raised_for_all written before after = record none {
  database = not (same_songs before.library.songs after.library.songs);
  update = differ before.library.scan.runs after.library.scan.runs;
  stored_playlist = changes_lists written;
  sticker = changes_stickers written;
  partition = not (same_names (names_of before.parts) (names_of after.parts));
}

-- and those whose parts differ in the partition where a client is: the queue, what is played, the volume, which
-- outputs are there and which of these are enabled, the modes and the seconds of a fade, who listens to which
-- channel. A client hears of messages where it had none waiting and has some
abbrev pub raised_within : ℕ → Watched → Watched → Subsystems → Subsystems
raised_within number before after common = record common {
  playlist = not (same_queue before.queue after.queue);
  player = not (same_playing (playing before.player) (playing after.player));
  mixer = not (nat_eq before.volume after.volume);
  output = not (same_outputs (output_flags before.outputs) (output_flags after.outputs));
  options = not (same_options (options before.player) (options after.player));
  subscription = not (same_pairs (pairs before.channels) (pairs after.channels));
  message = begins_to_have number before.channels after.channels;
}

-- nothing differs in a partition that was not there before, or is not there after
abbrev pub raised_between : ℕ → Option Watched → Option Watched → Subsystems → Subsystems
raised_between number (Some before) (Some after) common = raised_within number before after common
raised_between number (Some before) None common = common
raised_between number None after common = common

-- what an event raises for a client that stays where it is
abbrev pub raised_there : ShelfWrite → WatchedAll → WatchedAll → Client → Subsystems
raised_there written before after client =
    raised_between client.number (watched_at client.index before.parts) (watched_at client.index after.parts) (raised_for_all written before after)

-- the client that goes to another partition by this move of its own, if it goes
abbrev pub entering : ℕ → Move → Option ℕ
entering number (Enter index) = Some number
entering number _ = None

abbrev pub is_this : Option ℕ → ℕ → Bool
is_this None number = false
is_this (Some this) number = this == number

-- what an event raises for a client: everything for the one that goes to another partition, and else what
-- differs before and after it
abbrev pub raised : Option ℕ → ShelfWrite → WatchedAll → WatchedAll → Client → Subsystems
raised moved_client written before after client = if is_this moved_client client.number then all else raised_there written before after client

abbrev pub is_other : ℕ → Client → Bool
is_other number client = not (client.number == number)

-- what is pending for a client grows by what was raised; it is told what it waits for, and has then nothing
-- pending
abbrev pub notified : (Client → Subsystems) → Client → Client
notified raised client = record client { pending = up_to_date (noted (raised client) client.pending) }

abbrev pub notice_to : ℕ → Option Subsystems → List Notice
notice_to number None = []
notice_to number (Some names) = record { client = number; names = names } ∷ []

abbrev pub notice_for : (Client → Subsystems) → Client → List Notice
notice_for raised client = notice_to client.number (notice_of (noted (raised client) client.pending))

-- what one client does to what is pending for it
abbrev pub at : ℕ → (Pending → Pending) → Client → Client
at number change client = if client.number == number then record client { pending = change client.pending } else client

-- the client of a number is shown these tags
abbrev pub shown : ℕ → List TagName → Client → Client
shown number tags client = if client.number == number then record client { tags = tags } else client

-- the client of a number is in this partition from now on: everything is pending for it, whatever was, and it does
-- not wait
abbrev pub entered : ℕ → ℕ → Client → Client
entered number index client = if client.number == number then record client { index = index; pending = everything } else client

-- a client that comes: it is in the first partition and is shown all tags, and nothing is pending for it
abbrev pub newcomer : ℕ → Client
newcomer number = record { number = number; index = 0; tags = tag_names; pending = fresh }

-- a client that is not there comes before the first with a greater number
abbrev pub joined : ℕ → List Client → List Client
joined number clients =
    if is_some (client_of number clients) then clients
    else insert clients (position_or_len (λ client. nat_lt number client.number) clients) (newcomer number)

abbrev pub moved : ℕ → Move → List Client → List Client
moved number Stay clients = clients
moved number (Wait names) clients = map (at number (waits names)) clients
moved number Learn clients = map (at number (λ p. fresh)) clients
moved number Resume clients = map (at number cancelled) clients
moved number Join clients = joined number clients
moved number (Show tags) clients = map (shown number tags) clients
moved number (Enter index) clients = map (entered number index) clients

-- a client whose answer closes it is gone, and makes no move
abbrev pub staying : ℕ → ResponseData → List Client → List Client
staying number response clients = if closes response.answer.next then filter (is_other number) clients else clients

abbrev pub move_of : ResponseData → Move
move_of response = if closes response.answer.next then Stay else response.move

-- the clients after an event that comes from a client and raises these for each: those that stay hear of it,
-- and then the client does what it does
abbrev pub clients_after : ℕ → (Client → Subsystems) → ResponseData → List Client → List Client
clients_after number raised response clients = moved number (move_of response) (map (notified raised) (staying number response clients))

-- the notices of an event, by rising client
abbrev pub notices_after : ℕ → (Client → Subsystems) → ResponseData → List Client → List Notice
notices_after number raised response clients = flat_map (notice_for raised) (staying number response clients)

-- every client's number is above this
abbrev pub AllAbove : ℕ → List Client → Type 0
AllAbove number [] = Unit {0}
AllAbove number (client ∷ clients) = (number < client.number) × AllAbove number clients

-- the clients are in the order of their numbers
abbrev pub Rising : List Client → Type 0
Rising [] = Unit {0}
Rising (client ∷ clients) = AllAbove client.number clients × Rising clients
