-- The commands of the connection, which need nothing of the player (MPD protocol reference, Connection
-- settings; Reflection; Mounts and neighbors; what can be decoded is this profile's).
use Rattle.std.specs.Prelude.{ℕ, Bool, true, false, ◌&&◌, List, [], ◌++◌, Option, Some, None, codes, if◌then◌else◌}
use Rattle.std.specs.Borrow.{Bor}
use Rattle.std.specs.Bool.{beq}
use Rattle.std.specs.List.{flat_map}
use Rattle.known_tags.specs.Lines.{tagtype_lines}
use Rattle.known_tags.specs.Sets.{disabled, enabled}
use Rattle.mpd_command.specs.Names.{all_names, is_forbidden, is_there}
use Rattle.mpd_text.specs.Answers.Answer.{pair_line}
use Rattle.mpd_text.specs.Songs.Tags.{base_tag_names, tag_names}
use Rattle.mpd_text.specs.declared.songs.song.TagName.{TagName}
use Rattle.transitions.specs.Answers.{Answer, disconnects, succeeds}
use Rattle.transitions.specs.CommandResults.{closes_client, ends_daemon, only}
use Rattle.transitions.specs.Transitions.{CommandResult}
use Rattle.transitions.specs.declared.asked.Asked.{Asked}
use Rattle.mpd_command.specs.declared.command_set.CommandSet.{CommandSet}
use Rattle.mpd_command.specs.declared.connection.ConnectionCommand.{ConnectionCommand}
use Rattle.mpd_command.specs.declared.connection.ConnectionCommand.TheVariants as connection

abbrev pub ping : Asked → Answer
ping asked = succeeds asked.list_place (codes "")

-- the tags that a client is shown: in the everyday profile those that it chose, and in the base profile the six
abbrev pub types_shown : Bool → List TagName → List TagName
types_shown true tags = tags
types_shown false tags = base_tag_names

-- their names, a line each, in their order
abbrev pub tag_types : Asked → Bool → Answer
tag_types asked everyday = succeeds asked.list_place (tagtype_lines (types_shown everyday asked.tags))

-- what a command that chooses tags makes of those that its client is shown
abbrev pub choice_of : ConnectionCommand → Option (List TagName → List TagName)
choice_of connection.AllTags = Some (λ tags. tag_names)
choice_of connection.NoTags = Some (λ tags. [])
choice_of (connection.WithTags named) = Some (enabled named)
choice_of (connection.WithoutTags named) = Some (disabled named)
choice_of _ = None

-- the decoder that there is, and the ending of its files
unfoldable pub wave_lines : List ℕ
wave_lines = pair_line (codes "plugin") (codes "wave") ++ pair_line (codes "suffix") (codes "wav")

-- what else their kind is called
unfoldable pub type_lines : List ℕ
type_lines = pair_line (codes "mime_type") (codes "audio/wav") ++ pair_line (codes "mime_type") (codes "audio/x-wav")

-- what can be decoded
abbrev pub decoder_lines : List ℕ
decoder_lines = wave_lines ++ type_lines

abbrev pub decoders : Asked → Answer
decoders asked = succeeds asked.list_place decoder_lines

-- the library alone is mounted, and has no name
unfoldable pub mount_lines : List ℕ
mount_lines = pair_line (codes "mount") (codes "")

abbrev pub mounts : Asked → Answer
mounts asked = succeeds asked.list_place mount_lines

-- no kind of URL can be played
abbrev pub url_handlers : Asked → Answer
url_handlers asked = succeeds asked.list_place (codes "")

-- a command's name, where there is such a command and it is forbidden or not as asked
abbrev pub command_line : CommandSet → Bool → List ℕ → List ℕ
command_line set forbidden name =
    if is_there name set && beq (is_forbidden name set) forbidden then pair_line (codes "command") name else []

-- those of some names that are forbidden, or those that are not, a line each
abbrev pub command_lines_among : CommandSet → Bool → List (Bor (List ℕ)) → List ℕ
command_lines_among set forbidden names = flat_map (λ name. command_line set forbidden name.now) names

-- the names of the commands that are forbidden, or of those that are not, of those that there are, in their
-- order
unfoldable pub command_lines : CommandSet → Bool → List ℕ
command_lines set forbidden = flat_map (command_line set forbidden) all_names

abbrev pub commands : Asked → CommandSet → Answer
commands asked set = succeeds asked.list_place (command_lines set false)

abbrev pub not_commands : Asked → CommandSet → Answer
not_commands asked set = succeeds asked.list_place (command_lines set true)

-- what each command makes of the player; those that choose tags are wishes and make nothing of it
unfoldable pub result_of : Asked → ConnectionCommand → CommandResult
result_of asked connection.AllTags = only disconnects
result_of asked connection.Close = closes_client asked
result_of asked (connection.Commands set) = only (commands asked set)
result_of asked connection.Decoders = only (decoders asked)
result_of asked connection.Kill = ends_daemon asked
result_of asked connection.ListMounts = only (mounts asked)
result_of asked connection.NoTags = only disconnects
result_of asked (connection.NotCommands set) = only (not_commands asked set)
result_of asked connection.Ping = only (ping asked)
result_of asked (connection.TagTypes everyday) = only (tag_types asked everyday)
result_of asked connection.UrlHandlers = only (url_handlers asked)
result_of asked (connection.WithTags named) = only disconnects
result_of asked (connection.WithoutTags named) = only disconnects
