-- Two moments whose answers to a command differ have a notice between them.
use Rattle.std.specs.Prelude.{◌≡◌, ℕ, Bool, List, [], ◌∷◌, map, Option}
use Rattle.idle_notes.specs.Channels.{messages_of}
use Rattle.idle_notes.specs.declared.subsystem.Subsystem.TheVariants.{Message}
use Rattle.partition_table.specs.Openings.{OpeningsData}
use Rattle.partition_table.specs.Parts.{known}
use Rattle.player_state.specs.declared.state.Library.{Library}
use Rattle.player_state.specs.declared.state.Part.{Part}
use Rattle.transitions.specs.CommandResults.{shows}
use Rattle.transitions.specs.declared.asked.Asked.{Asked}
use Rattle.transitions.specs.declared.shelf_calls.Read.{Read}
use Rattle.mpd_command.specs.declared.database.DatabaseCommand.{DatabaseCommand}
use Rattle.mpd_command.specs.declared.messages.MessageCommand.{MessageCommand}
use Rattle.mpd_command.specs.declared.messages.MessageCommand.TheVariants.{ReadMessages}
use Rattle.mpd_command.specs.declared.options.OptionCommand.{OptionCommand}
use Rattle.mpd_command.specs.declared.outputs.OutputCommand.{OutputCommand}
use Rattle.mpd_command.specs.declared.partitions.PartitionCommand.{PartitionCommand}
use Rattle.mpd_command.specs.declared.playlists.PlaylistCommand.{PlaylistCommand}
use Rattle.mpd_command.specs.declared.queue.QueueCommand.{QueueCommand}
use Rattle.mpd_command.specs.declared.sticker.StickerCommand.{StickerCommand}
use Rattle.mpd_command.specs.declared.status.StatusCommand.{StatusCommand}
use Rattle.mpd_command.specs.declared.status.StatusCommand.TheVariants.{Stats, Status}
use Rattle.partition_commands.specs.Partitions.{Seated, planned}
use Rattle.queue_commands.specs.Queue.{result_of as queue_result}
use Rattle.library_commands.specs.Database.{result_of as database_result}
use Rattle.library_commands.specs.Playlists.{result_of as playlists_result}
use Rattle.library_commands.specs.Stickers.{result_of as stickers_result}
use Rattle.status_commands.specs.Messages.{result_of as messages_result}
use Rattle.status_commands.specs.Options.{result_of as options_result}
use Rattle.status_commands.specs.Outputs.{result_of as outputs_result}
use Rattle.status_commands.specs.Status.{result_of as status_result}
use Rattle.notice_laws.specs.Lines.{ChangeWhereTold, stats_lines, status_lines, text_of}
use Rattle.notice_laws.specs.ClientSteps.{HearsOfNone, IsUntold, ClientStep, Stays, library_of}
use Rattle.notice_laws.specs.Tellers.{database_tellers, message_tellers, option_tellers, output_tellers, partition_tellers, playlist_tellers, queue_tellers, status_tellers, sticker_tellers}

-- Where none of the subsystems is raised that tell of a command, it is answered the same at both moments

abbrev pub QueueIsTold : Type 0
QueueIsTold = (p : ClientStep) (asked : Asked) (it : QueueCommand) → Stays p → IsUntold p (queue_tellers it)
    → queue_result asked p.own p.library it ≡ queue_result asked p.later (library_of p) it

abbrev pub StatusIsTold : Type 0
StatusIsTold = (p : ClientStep) (asked : Asked) (it : StatusCommand) → Stays p → IsUntold p (status_tellers it)
    → status_result asked p.own p.library it ≡ status_result asked p.later (library_of p) it

abbrev pub OptionsAreTold : Type 0
OptionsAreTold = (p : ClientStep) (asked : Asked) (it : OptionCommand) → Stays p → IsUntold p (option_tellers it)
    → options_result asked p.own it ≡ options_result asked p.later it

abbrev pub OutputsAreTold : Type 0
OutputsAreTold = (p : ClientStep) (asked : Asked) (it : OutputCommand) → Stays p → IsUntold p (output_tellers it)
    → outputs_result asked p.own it ≡ outputs_result asked p.later it

abbrev pub ChannelsAreTold : Type 0
ChannelsAreTold = (p : ClientStep) (asked : Asked) (it : MessageCommand) → Stays p → IsUntold p (message_tellers it)
    → messages_result asked p.own it ≡ messages_result asked p.later it

-- the clients and what a partition opens with are no matter here
abbrev pub PartitionsAreTold : Type 0
PartitionsAreTold =
    (p : ClientStep) (asked : Asked) (ks : List Seated) (openings : OpeningsData) (it : PartitionCommand) → Stays p
    → IsUntold p (partition_tellers it)
    → planned (map known p.before) ks openings asked p.client.index it
    ≡ planned (map known p.after) ks openings asked p.client.index it

-- What the shelf answers is given: of its own two maps the events themselves say whether they make them others
abbrev pub DatabaseIsTold : Type 0
DatabaseIsTold =
    (p : ClientStep) (asked : Asked) (read : Read) (it : DatabaseCommand) → Stays p → IsUntold p (database_tellers it)
    → database_result asked p.own p.library read it ≡ database_result asked p.later (library_of p) read it

abbrev pub PlaylistsAreTold : Type 0
PlaylistsAreTold =
    (p : ClientStep) (asked : Asked) (read : Read) (it : PlaylistCommand) → Stays p → IsUntold p (playlist_tellers it)
    → playlists_result asked p.own p.library read it ≡ playlists_result asked p.later (library_of p) read it

abbrev pub StickersAreTold : Type 0
StickersAreTold =
    (p : ClientStep) (asked : Asked) (read : Read) (it : StickerCommand) → Stays p → IsUntold p (sticker_tellers it)
    → stickers_result asked p.library read it ≡ stickers_result asked (library_of p) read it

-- A client for which messages wait has heard so, and hears of no further ones until it has read them
abbrev pub MessagesAreTold : Type 0
MessagesAreTold =
    (p : ClientStep) (asked : Asked) → Stays p → asked.client ≡ p.client.number
    → messages_of p.client.number p.own.channels ≡ [] → HearsOfNone p (Message ∷ [])
    → messages_result asked p.own ReadMessages ≡ messages_result asked p.later ReadMessages

-- what `status` answers are its lines, and so it is with `stats`
abbrev pub HasLines : Type 0
HasLines = (asked : Asked) (everyday : Bool) (uptime : Option ℕ) (part : Part) (library : Library)
    → (status_result asked part library (Status everyday) ≡ shows asked (text_of (status_lines everyday part library)))
    × (status_result asked part library (Stats uptime) ≡ shows asked (text_of (stats_lines uptime part library)))

-- each changes where a subsystem that tells of it is raised, if any tells of it
abbrev pub LinesAreTold : Type 0
LinesAreTold = (p : ClientStep) (everyday : Bool) (before after : Option ℕ) → Stays p
    → ChangeWhereTold p (status_lines everyday p.own p.library) (status_lines everyday p.later (library_of p))
    × ChangeWhereTold p (stats_lines before p.own p.library) (stats_lines after p.later (library_of p))
