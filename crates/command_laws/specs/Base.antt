-- The base profile: which commands it has, and with which arguments (MPD protocol reference, Command
-- reference; which of them are the base profile's is this program's choice).
use Rattle.std.specs.Prelude.{◌≡◌, ℕ, Bool, true, false, IsTrue, List, [], ◌∷◌, Option, Some, None}
use Rattle.mpd_text.specs.Songs.Tags.{base_tag_names}
use Rattle.mpd_text.specs.declared.songs.song.TagName.{TagName}
use Rattle.known_tags.specs.KnownTags.{base_of}
use Rattle.known_tags.specs.Sets.{has}
use Rattle.known_tags.specs.declared.known_tag.KnownTag.{KnownTag}
use Rattle.filters.specs.Expressions.{Expression, Compare, Under, Negation, Both}
use Rattle.filters.specs.declared.expression.Field.{Field}
use Rattle.filters.specs.declared.expression.Field.TheVariants as field
use Rattle.command_arguments.specs.declared.forms.Position.{Position}
use Rattle.command_arguments.specs.declared.criteria.Criteria.{Criteria}
use Rattle.command_arguments.specs.declared.criteria.Criteria.TheVariants.{Meeting, Refused as Unreadable}
use Rattle.selections.specs.declared.asked.Counting.{Counting}
use Rattle.selections.specs.declared.asked.Grouping.{Grouping}
use Rattle.selections.specs.declared.asked.Selection.{Selection}
use Rattle.mpd_command.specs.Names.{is_there, text_of}
use Rattle.mpd_command.specs.Requests.{request_of}
use Rattle.mpd_command.specs.declared.command.Command.{Command}
use Rattle.mpd_command.specs.declared.command.Command.TheVariants as command
use Rattle.mpd_command.specs.declared.command_set.CommandSet.{CommandSet}
use Rattle.mpd_command.specs.declared.connection.ConnectionCommand.{ConnectionCommand}
use Rattle.mpd_command.specs.declared.connection.ConnectionCommand.TheVariants as connection
use Rattle.mpd_command.specs.declared.database.DatabaseCommand.{DatabaseCommand}
use Rattle.mpd_command.specs.declared.database.DatabaseCommand.TheVariants as database
use Rattle.mpd_command.specs.declared.options.OptionCommand.{OptionCommand}
use Rattle.mpd_command.specs.declared.options.OptionCommand.TheVariants as options
use Rattle.mpd_command.specs.declared.playlists.PlaylistCommand.{PlaylistCommand}
use Rattle.mpd_command.specs.declared.playlists.PlaylistCommand.TheVariants as playlists
use Rattle.mpd_command.specs.declared.queue.QueueCommand.{QueueCommand}
use Rattle.mpd_command.specs.declared.queue.QueueCommand.TheVariants as queue
use Rattle.mpd_command.specs.declared.request.Request.{Request}
use Rattle.mpd_command.specs.declared.request.Request.TheVariants.{Run, Refused}
use Rattle.mpd_command.specs.declared.status.StatusCommand.{StatusCommand}
use Rattle.mpd_command.specs.declared.status.StatusCommand.TheVariants as status

-- the same commands without those of the everyday profile
abbrev pub base_set : CommandSet → CommandSet
base_set set = record { kill = set.kill; everyday = false; uptime = set.uptime }

-- a tag is one of the six of the base profile
abbrev pub IsBaseTag : TagName → Type 0
IsBaseTag name = IsTrue (has name base_tag_names)

-- what a filter compares is one of the six tags, any of them, or the URI, and no other tag that clients know
abbrev pub IsBaseField : Field → Type 0
IsBaseField (field.Tag name) = IsBaseTag name
IsBaseField field.NoTag = ⊥
IsBaseField field.File = Unit {0}
IsBaseField field.Any = Unit {0}
IsBaseField field.AnyKnown = ⊥

-- so is all that an expression compares
abbrev pub IsBaseExpression : Expression → Type 0
IsBaseExpression (Compare it test text) = IsBaseField it
IsBaseExpression (Under text) = Unit {0}
IsBaseExpression (Negation e) = IsBaseExpression e
IsBaseExpression (Both e f) = IsBaseExpression e × IsBaseExpression f

-- a filter of the base profile, or one that cannot be read
abbrev pub IsBaseFilter : Criteria → Type 0
IsBaseFilter (Meeting e) = IsBaseExpression e
IsBaseFilter (Unreadable text) = Unit {0}

-- songs are selected in the order of the library
abbrev pub IsBaseSelection : Selection → Type 0
IsBaseSelection selection = IsBaseFilter selection.criteria × (selection.sort ≡ None)

-- and all of them are added at the end
abbrev pub IsBaseAddition : Selection → Option Position → Type 0
IsBaseAddition selection position = IsBaseSelection selection × (selection.window ≡ None) × (position ≡ None)

-- songs are counted all together, and a filter says which
abbrev pub IsBaseCounting : Counting → Type 0
IsBaseCounting counting =
    (criteria : Criteria) × (counting.criteria ≡ Some criteria) × IsBaseFilter criteria × (counting.group ≡ None)

-- a filter, or none
abbrev pub MayBeFilter : Option Criteria → Type 0
MayBeFilter None = Unit {0}
MayBeFilter (Some criteria) = IsBaseFilter criteria

-- one tag is listed, and it is one of the six
abbrev pub IsBaseGrouping : Grouping → Type 0
IsBaseGrouping grouping =
    (tag : KnownTag) × (name : TagName) × (grouping.tags ≡ tag ∷ []) × (base_of tag ≡ Some name) × IsBaseTag name
    × MayBeFilter grouping.criteria

-- a client is shown the six tags and cannot change them; `commands` and `notcommands` show those of the base
-- profile
abbrev pub IsBaseConnection : ConnectionCommand → Type 0
IsBaseConnection connection.Close = Unit {0}
IsBaseConnection (connection.Commands set) = set.everyday ≡ false
IsBaseConnection connection.Decoders = ⊥
IsBaseConnection connection.Kill = Unit {0}
IsBaseConnection connection.ListMounts = ⊥
IsBaseConnection (connection.NotCommands set) = set.everyday ≡ false
IsBaseConnection connection.Ping = Unit {0}
IsBaseConnection (connection.TagTypes everyday) = everyday ≡ false
IsBaseConnection connection.AllTags = ⊥
IsBaseConnection connection.NoTags = ⊥
IsBaseConnection (connection.WithoutTags named) = ⊥
IsBaseConnection (connection.WithTags named) = ⊥
IsBaseConnection connection.UrlHandlers = ⊥

-- there is no `stats`, and `status` has no time in whole seconds
abbrev pub IsBaseStatus : StatusCommand → Type 0
IsBaseStatus status.ClearError = Unit {0}
IsBaseStatus status.CurrentSong = Unit {0}
IsBaseStatus (status.Idle named) = Unit {0}
IsBaseStatus status.NoIdle = Unit {0}
IsBaseStatus (status.Stats uptime) = ⊥
IsBaseStatus (status.Status everyday) = everyday ≡ false

-- `add` is given no position, and the songs of the queue are not listed by URI, found or searched
abbrev pub IsBaseQueue : QueueCommand → Type 0
IsBaseQueue (queue.Add uri position) = position ≡ None
IsBaseQueue (queue.AddId uri position) = Unit {0}
IsBaseQueue queue.Clear = Unit {0}
IsBaseQueue (queue.Delete range) = Unit {0}
IsBaseQueue (queue.DeleteId id) = Unit {0}
IsBaseQueue (queue.Move range to) = Unit {0}
IsBaseQueue (queue.MoveId id to) = Unit {0}
IsBaseQueue queue.Playlist = ⊥
IsBaseQueue (queue.PlaylistFind criteria) = ⊥
IsBaseQueue (queue.PlaylistId id) = Unit {0}
IsBaseQueue (queue.PlaylistInfo range) = Unit {0}
IsBaseQueue (queue.PlaylistSearch criteria) = ⊥
IsBaseQueue (queue.PlChanges version range) = Unit {0}
IsBaseQueue (queue.PlChangesPosId version range) = Unit {0}
IsBaseQueue (queue.Prio priority ranges) = Unit {0}
IsBaseQueue (queue.PrioId priority ids) = Unit {0}
IsBaseQueue (queue.Shuffle range) = Unit {0}
IsBaseQueue (queue.Swap first second) = Unit {0}
IsBaseQueue (queue.SwapId first second) = Unit {0}

-- the volume is set alone, and loudness is no option
abbrev pub IsBaseOption : OptionCommand → Type 0
IsBaseOption (options.Consume mode) = Unit {0}
IsBaseOption (options.Crossfade seconds) = Unit {0}
IsBaseOption options.GetVol = Unit {0}
IsBaseOption (options.ChangeVolume change) = ⊥
IsBaseOption (options.Random on) = Unit {0}
IsBaseOption (options.Repeat on) = Unit {0}
IsBaseOption (options.SetReplayGain mode) = ⊥
IsBaseOption options.ReplayGainStatus = ⊥
IsBaseOption (options.SetVol volume) = Unit {0}
IsBaseOption (options.Single mode) = Unit {0}

-- `listall` and `lsinfo` are given folders alone, and the second shows no stored playlists
abbrev pub IsBaseDatabase : DatabaseCommand → Type 0
IsBaseDatabase (database.AlbumArt uri offset) = ⊥
IsBaseDatabase (database.Count counting) = IsBaseCounting counting
IsBaseDatabase (database.Find selection) = IsBaseSelection selection
IsBaseDatabase (database.FindAdd selection position) = IsBaseAddition selection position
IsBaseDatabase (database.List grouping) = IsBaseGrouping grouping
IsBaseDatabase (database.ListAll uri everyday) = everyday ≡ false
IsBaseDatabase (database.ListAllInfo uri) = ⊥
IsBaseDatabase (database.LsInfo uri everyday) = everyday ≡ false
IsBaseDatabase (database.ReadComments uri) = ⊥
IsBaseDatabase (database.ReadPicture uri offset) = ⊥
IsBaseDatabase (database.Rescan uri) = Unit {0}
IsBaseDatabase (database.Search selection) = IsBaseSelection selection
IsBaseDatabase (database.SearchAdd selection position) = IsBaseAddition selection position
IsBaseDatabase (database.SearchAddPl name selection) = ⊥
IsBaseDatabase (database.Update uri) = Unit {0}

-- `load` is given no position
abbrev pub IsBasePlaylist : PlaylistCommand → Type 0
IsBasePlaylist (playlists.ListPlaylist name) = Unit {0}
IsBasePlaylist (playlists.ListPlaylistInfo name) = Unit {0}
IsBasePlaylist playlists.ListPlaylists = Unit {0}
IsBasePlaylist (playlists.Load name range position) = position ≡ None
IsBasePlaylist (playlists.PlaylistAdd name uri) = Unit {0}
IsBasePlaylist (playlists.PlaylistClear name) = Unit {0}
IsBasePlaylist (playlists.PlaylistDelete name position) = Unit {0}
IsBasePlaylist (playlists.PlaylistMove name from to) = Unit {0}
IsBasePlaylist (playlists.Rename name new) = Unit {0}
IsBasePlaylist (playlists.Rm name) = Unit {0}
IsBasePlaylist (playlists.Save name) = Unit {0}

-- a command of the base profile, with arguments of the base profile. The everyday profile adds nothing to the
-- commands of the other groups but another word for no argument of `play` and `playid`
abbrev pub IsBase : Command → Type 0
IsBase (command.Status it) = IsBaseStatus it
IsBase (command.Options it) = IsBaseOption it
IsBase (command.Playback it) = Unit {0}
IsBase (command.Queue it) = IsBaseQueue it
IsBase (command.Playlists it) = IsBasePlaylist it
IsBase (command.Database it) = IsBaseDatabase it
IsBase (command.Stickers it) = Unit {0}
IsBase (command.Connection it) = IsBaseConnection it
IsBase (command.Outputs it) = Unit {0}
IsBase (command.Messages it) = Unit {0}
IsBase (command.Partitions it) = Unit {0}

-- a line asks for such a command under a name that is there in the base profile, or it is refused
abbrev pub AsksForBase : CommandSet → Request → Type 0
AsksForBase set (Run name it) = (is_there (text_of name) (base_set set) ≡ true) × IsBase it
AsksForBase set (Refused ack) = Unit {0}

-- in the base profile each line does
abbrev pub BaseAsksForNoMore : Type 0
BaseAsksForNoMore = (line : List ℕ) (set : CommandSet) → AsksForBase set (request_of line (base_set set))
