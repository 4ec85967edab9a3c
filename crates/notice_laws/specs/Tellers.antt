-- Which subsystems tell that the answer to a command has changed, of each command that asks and changes nothing;
-- there is no list of another (MPD protocol reference, Querying MPD's status, `idle`; where that names no subsystem,
-- this profile's).
use Rattle.std.specs.Prelude.{List, [], ◌∷◌, Option, Some, None}
use Rattle.idle_notes.specs.declared.subsystem.Subsystem.{Subsystem}
use Rattle.idle_notes.specs.declared.subsystem.Subsystem.TheVariants.{Database, Playlist, Player, Mixer, Output, Subscription, Partition}
use Rattle.mpd_command.specs.declared.database.DatabaseCommand.{DatabaseCommand}
use Rattle.mpd_command.specs.declared.database.DatabaseCommand.TheVariants as database
use Rattle.mpd_command.specs.declared.messages.MessageCommand.{MessageCommand}
use Rattle.mpd_command.specs.declared.messages.MessageCommand.TheVariants as messages
use Rattle.mpd_command.specs.declared.options.OptionCommand.{OptionCommand}
use Rattle.mpd_command.specs.declared.options.OptionCommand.TheVariants as options
use Rattle.mpd_command.specs.declared.outputs.OutputCommand.{OutputCommand}
use Rattle.mpd_command.specs.declared.outputs.OutputCommand.TheVariants as outputs
use Rattle.mpd_command.specs.declared.partitions.PartitionCommand.{PartitionCommand}
use Rattle.mpd_command.specs.declared.partitions.PartitionCommand.TheVariants as partitions
use Rattle.mpd_command.specs.declared.playlists.PlaylistCommand.{PlaylistCommand}
use Rattle.mpd_command.specs.declared.playlists.PlaylistCommand.TheVariants as playlists
use Rattle.mpd_command.specs.declared.queue.QueueCommand.{QueueCommand}
use Rattle.mpd_command.specs.declared.queue.QueueCommand.TheVariants as queue
use Rattle.mpd_command.specs.declared.sticker.StickerCommand.{StickerCommand}
use Rattle.mpd_command.specs.declared.sticker.StickerCommand.TheVariants as stickers
use Rattle.mpd_command.specs.declared.sticker.Target.TheVariants as target
use Rattle.mpd_command.specs.declared.status.StatusCommand.{StatusCommand}
use Rattle.mpd_command.specs.declared.status.StatusCommand.TheVariants as status

-- those of the queue show its songs, their ids, positions and priorities, and what changed since a version
abbrev pub queue_tellers : QueueCommand → Option (List Subsystem)
queue_tellers queue.Playlist = Some (Playlist ∷ [])
queue_tellers (queue.PlaylistFind criteria) = Some (Playlist ∷ [])
queue_tellers (queue.PlaylistId id) = Some (Playlist ∷ [])
queue_tellers (queue.PlaylistInfo range) = Some (Playlist ∷ [])
queue_tellers (queue.PlaylistSearch criteria) = Some (Playlist ∷ [])
queue_tellers (queue.PlChanges version range) = Some (Playlist ∷ [])
queue_tellers (queue.PlChangesPosId version range) = Some (Playlist ∷ [])
queue_tellers (queue.Add uri position) = None
queue_tellers (queue.AddId uri position) = None
queue_tellers queue.Clear = None
queue_tellers (queue.Delete range) = None
queue_tellers (queue.DeleteId id) = None
queue_tellers (queue.Move range to) = None
queue_tellers (queue.MoveId id to) = None
queue_tellers (queue.Prio priority ranges) = None
queue_tellers (queue.PrioId priority ids) = None
queue_tellers (queue.Shuffle range) = None
queue_tellers (queue.Swap first second) = None
queue_tellers (queue.SwapId first second) = None

-- the current song is one of the queue; `status` and `stats` are told of line by line
abbrev pub status_tellers : StatusCommand → Option (List Subsystem)
status_tellers status.CurrentSong = Some (Player ∷ Playlist ∷ [])
status_tellers status.ClearError = None
status_tellers (status.Idle named) = None
status_tellers status.NoIdle = None
status_tellers (status.Stats uptime) = None
status_tellers (status.Status everyday) = None

-- loudness is never made alike, so that nothing has to be told of it
abbrev pub option_tellers : OptionCommand → Option (List Subsystem)
option_tellers options.GetVol = Some (Mixer ∷ [])
option_tellers options.ReplayGainStatus = Some []
option_tellers (options.Consume mode) = None
option_tellers (options.Crossfade seconds) = None
option_tellers (options.ChangeVolume change) = None
option_tellers (options.Random on) = None
option_tellers (options.Repeat on) = None
option_tellers (options.SetReplayGain mode) = None
option_tellers (options.SetVol volume) = None
option_tellers (options.Single mode) = None

abbrev pub output_tellers : OutputCommand → Option (List Subsystem)
output_tellers outputs.Outputs = Some (Output ∷ [])
output_tellers (outputs.DisableOutput output) = None
output_tellers (outputs.EnableOutput output) = None
output_tellers (outputs.ToggleOutput output) = None

-- `readmessages` takes what it shows
abbrev pub message_tellers : MessageCommand → Option (List Subsystem)
message_tellers messages.Channels = Some (Subscription ∷ [])
message_tellers messages.ReadMessages = None
message_tellers (messages.SendMessage channel text) = None
message_tellers (messages.Subscribe channel) = None
message_tellers (messages.Unsubscribe channel) = None

abbrev pub partition_tellers : PartitionCommand → Option (List Subsystem)
partition_tellers partitions.ListPartitions = Some (Partition ∷ [])
partition_tellers (partitions.DelPartition name) = None
partition_tellers (partitions.MoveOutput name) = None
partition_tellers (partitions.NewPartition name) = None
partition_tellers (partitions.Partition name) = None

-- those of the library show its songs; `lsinfo` may show the stored playlists too, which the shelf is asked for
abbrev pub database_tellers : DatabaseCommand → Option (List Subsystem)
database_tellers (database.AlbumArt uri offset) = Some (Database ∷ [])
database_tellers (database.Count counting) = Some (Database ∷ [])
database_tellers (database.Find selection) = Some (Database ∷ [])
database_tellers (database.List grouping) = Some (Database ∷ [])
database_tellers (database.ListAll uri everyday) = Some (Database ∷ [])
database_tellers (database.ListAllInfo uri) = Some (Database ∷ [])
database_tellers (database.LsInfo uri everyday) = Some (Database ∷ [])
database_tellers (database.ReadComments uri) = Some (Database ∷ [])
database_tellers (database.ReadPicture uri offset) = Some (Database ∷ [])
database_tellers (database.Search selection) = Some (Database ∷ [])
database_tellers (database.FindAdd selection position) = None
database_tellers (database.Rescan uri) = None
database_tellers (database.SearchAdd selection position) = None
database_tellers (database.SearchAddPl name selection) = None
database_tellers (database.Update uri) = None

-- what the shelf answers is apart; of the songs in a stored playlist the library has the lines
abbrev pub playlist_tellers : PlaylistCommand → Option (List Subsystem)
playlist_tellers (playlists.ListPlaylist name) = Some []
playlist_tellers (playlists.ListPlaylistInfo name) = Some (Database ∷ [])
playlist_tellers playlists.ListPlaylists = Some []
playlist_tellers (playlists.Load name range position) = None
playlist_tellers (playlists.PlaylistAdd name uri) = None
playlist_tellers (playlists.PlaylistClear name) = None
playlist_tellers (playlists.PlaylistDelete name position) = None
playlist_tellers (playlists.PlaylistMove name from to) = None
playlist_tellers (playlists.Rename name new) = None
playlist_tellers (playlists.Rm name) = None
playlist_tellers (playlists.Save name) = None

-- stickers are shown of songs that the library has, and of stored playlists
abbrev pub sticker_tellers : StickerCommand → Option (List Subsystem)
sticker_tellers (stickers.Get (target.Song uri) name) = Some (Database ∷ [])
sticker_tellers (stickers.Get (target.Playlist list) name) = Some []
sticker_tellers (stickers.List (target.Song uri)) = Some (Database ∷ [])
sticker_tellers (stickers.List (target.Playlist list)) = Some []
sticker_tellers (stickers.Find (target.Song uri) name test) = Some (Database ∷ [])
sticker_tellers (stickers.Find (target.Playlist list) name test) = Some []
sticker_tellers (stickers.Set it name value) = None
sticker_tellers (stickers.Delete it name) = None
