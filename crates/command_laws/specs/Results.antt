-- What commands make of the daemon, all groups together.
use Rattle.std.specs.Prelude.{List}
use Rattle.player_state.specs.declared.state.Library.{Library}
use Rattle.player_state.specs.declared.state.Part.{Part}
use Rattle.partition_table.specs.Openings.{OpeningsData}
use Rattle.partition_table.specs.Parts.{Known}
use Rattle.transitions.specs.Transitions.{TransitionData, transition_by}
use Rattle.transitions.specs.declared.asked.Asked.{Asked}
use Rattle.transitions.specs.declared.shelf_calls.Read.{Read}
use Rattle.mpd_command.specs.declared.command.Command.{Command}
use Rattle.mpd_command.specs.declared.command.Command.TheVariants as command
use Rattle.partition_commands.specs.Partitions.{Seated, planned}
use Rattle.queue_commands.specs.Playback.{result_of as playback_result}
use Rattle.queue_commands.specs.Queue.{result_of as queue_result}
use Rattle.library_commands.specs.Database.{result_of as database_result}
use Rattle.library_commands.specs.Playlists.{result_of as playlists_result}
use Rattle.library_commands.specs.Stickers.{result_of as stickers_result}
use Rattle.status_commands.specs.Connection.{result_of as connection_result}
use Rattle.status_commands.specs.Messages.{result_of as messages_result}
use Rattle.status_commands.specs.Options.{result_of as options_result}
use Rattle.status_commands.specs.Outputs.{result_of as outputs_result}
use Rattle.status_commands.specs.Status.{result_of as status_result}

-- what all know: the partitions, the clients, and what a new partition begins with
pub record AllKnown : Type 0 where
  pub parts : List Known
  pub clients : List Seated
  pub openings : OpeningsData

-- what a command makes, by its group: those of partitions by what all know, the others by the partition of the
-- client that asks
abbrev pub result_of : AllKnown → Asked → Part → Library → Read → Command → TransitionData
result_of all asked part library read (command.Status it) = transition_by (status_result asked part library it)
result_of all asked part library read (command.Options it) = transition_by (options_result asked part it)
result_of all asked part library read (command.Playback it) = transition_by (playback_result asked part library it)
result_of all asked part library read (command.Queue it) = transition_by (queue_result asked part library it)
result_of all asked part library read (command.Playlists it) =
    transition_by (playlists_result asked part library read it)
result_of all asked part library read (command.Database it) = transition_by (database_result asked part library read it)
result_of all asked part library read (command.Stickers it) = transition_by (stickers_result asked library read it)
result_of all asked part library read (command.Connection it) = transition_by (connection_result asked it)
result_of all asked part library read (command.Outputs it) = transition_by (outputs_result asked part it)
result_of all asked part library read (command.Messages it) = transition_by (messages_result asked part it)
result_of all asked part library read (command.Partitions it) =
    planned all.parts all.clients all.openings asked part.index it
