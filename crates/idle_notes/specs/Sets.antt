-- Sets of subsystems (MPD protocol reference, Querying MPD's status, `idle`).
use Rattle.std.specs.Prelude.{Bool, true, false, ◌||◌, ◌&&◌}
use Rattle.idle_notes.specs.declared.sets.Subsystems.{Subsystems}
use Rattle.idle_notes.specs.declared.subsystem.Subsystem.{Subsystem}
use Rattle.idle_notes.specs.declared.subsystem.Subsystem.TheVariants.{Database, Update, StoredPlaylist, Playlist, Player, Mixer, Output, Options, Sticker, Subscription, Message, Partition}

-- whether a set has a subsystem
abbrev pub has : Subsystems → Subsystem → Bool
has s Database = s.database
has s Update = s.update
has s StoredPlaylist = s.stored_playlist
has s Playlist = s.playlist
has s Player = s.player
has s Mixer = s.mixer
has s Output = s.output
has s Options = s.options
has s Sticker = s.sticker
has s Subscription = s.subscription
has s Message = s.message
has s Partition = s.partition

-- the set that has each subsystem, or none
abbrev pub each_alike : Bool → Subsystems
each_alike held = record {
  database = held;
  update = held;
  stored_playlist = held;
  playlist = held;
  player = held;
  mixer = held;
  output = held;
  options = held;
  sticker = held;
  subscription = held;
  message = held;
  partition = held;
}

abbrev pub none : Subsystems
none = record { database = false; update = false; stored_playlist = false; playlist = false; player = false; mixer = false; output = false; options = false; sticker = false; subscription = false; message = false; partition = false }

abbrev pub all : Subsystems
all = record { database = true; update = true; stored_playlist = true; playlist = true; player = true; mixer = true; output = true; options = true; sticker = true; subscription = true; message = true; partition = true }

abbrev pub union : Subsystems → Subsystems → Subsystems
union s t = record {
  database = s.database || t.database;
  update = s.update || t.update;
  stored_playlist = s.stored_playlist || t.stored_playlist;
  playlist = s.playlist || t.playlist;
  player = s.player || t.player;
  mixer = s.mixer || t.mixer;
  output = s.output || t.output;
  options = s.options || t.options;
  sticker = s.sticker || t.sticker;
  subscription = s.subscription || t.subscription;
  message = s.message || t.message;
  partition = s.partition || t.partition;
}

abbrev pub meet : Subsystems → Subsystems → Subsystems
meet s t = record {
  database = s.database && t.database;
  update = s.update && t.update;
  stored_playlist = s.stored_playlist && t.stored_playlist;
  playlist = s.playlist && t.playlist;
  player = s.player && t.player;
  mixer = s.mixer && t.mixer;
  output = s.output && t.output;
  options = s.options && t.options;
  sticker = s.sticker && t.sticker;
  subscription = s.subscription && t.subscription;
  message = s.message && t.message;
  partition = s.partition && t.partition;
}

-- the set with one more
abbrev pub with_one : Subsystems → Subsystem → Subsystems
with_one s Database = record s { database = true }
with_one s Update = record s { update = true }
with_one s StoredPlaylist = record s { stored_playlist = true }
with_one s Playlist = record s { playlist = true }
with_one s Player = record s { player = true }
with_one s Mixer = record s { mixer = true }
with_one s Output = record s { output = true }
with_one s Options = record s { options = true }
with_one s Sticker = record s { sticker = true }
with_one s Subscription = record s { subscription = true }
with_one s Message = record s { message = true }
with_one s Partition = record s { partition = true }

abbrev pub is_nonempty : Subsystems → Bool
is_nonempty s = s.database || s.update || s.stored_playlist || s.playlist || s.player || s.mixer || s.output || s.options || s.sticker || s.subscription || s.message || s.partition
