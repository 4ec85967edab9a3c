-- What all commands show less hidden tags.
use Rattle.std.proofs.Common.{true, false, ◌≡◌, ℕ, refl, ap}
use Rattle.player_state.specs.declared.state.Library.{Library}
use Rattle.player_state.specs.declared.state.Part.{Part}
use Rattle.transitions.specs.Transitions.{transition_by}
use Rattle.transitions.specs.declared.asked.Asked.{Asked}
use Rattle.mpd_command.specs.declared.command.Command.TheVariants as command
use Rattle.mpd_command.specs.declared.connection.ConnectionCommand.{ConnectionCommand}
use Rattle.mpd_command.specs.declared.connection.ConnectionCommand.TheVariants as connection
use Rattle.mpd_command.specs.declared.messages.MessageCommand.{MessageCommand}
use Rattle.mpd_command.specs.declared.options.OptionCommand.{OptionCommand}
use Rattle.mpd_command.specs.declared.outputs.OutputCommand.{OutputCommand}
use Rattle.mpd_command.specs.declared.partitions.PartitionCommand.{PartitionCommand}
use Rattle.mpd_command.specs.declared.playback.PlaybackCommand.{PlaybackCommand}
use Rattle.partition_commands.specs.Partitions.{planned}
use Rattle.queue_commands.specs.Playback.{result_of as playback_result}
use Rattle.status_commands.specs.Connection.{result_of as connection_result}
use Rattle.status_commands.specs.Messages.{result_of as messages_result}
use Rattle.status_commands.specs.Options.{result_of as options_result}
use Rattle.status_commands.specs.Outputs.{result_of as outputs_result}
use Rattle.command_laws.specs.HiddenLines.{HiddenTagsAreLeftOut, unchosen}
use Rattle.command_laws.specs.Results.{AllKnown}
use Rattle.command_laws.specs.ShownSongs.{connection_shown}
use Rattle.command_laws.proofs.HiddenInLibrary.{database_less, playlists_less, status_less}
use Rattle.command_laws.proofs.HiddenInQueue.{AreShownLess, queue_less}

options-same : (asked : Asked) (part : Part) (it : OptionCommand) → options_result asked part it ≡ options_result (unchosen asked) part it
unfolding options_result
options-same asked part it = refl

playback-same : (asked : Asked) (part : Part) (library : Library) (it : PlaybackCommand) → playback_result asked part library it ≡ playback_result (unchosen asked) part library it
unfolding playback_result
playback-same asked part library it = refl

outputs-same : (asked : Asked) (part : Part) (it : OutputCommand) → outputs_result asked part it ≡ outputs_result (unchosen asked) part it
unfolding outputs_result
outputs-same asked part it = refl

messages-same : (asked : Asked) (part : Part) (it : MessageCommand) → messages_result asked part it ≡ messages_result (unchosen asked) part it
unfolding messages_result
messages-same asked part it = refl

connection-same : (asked : Asked) (it : ConnectionCommand) → AreShownLess asked asked.tags (connection_shown it) (connection_result asked it) (connection_result (unchosen asked) it)
unfolding connection_result
connection-same asked (connection.TagTypes true) = tt
connection-same asked (connection.TagTypes false) = refl
connection-same asked _ = refl

-- a command of partitions shows no songs, and asks for no tags
partitions-same : (all : AllKnown) (asked : Asked) (own : ℕ) (it : PartitionCommand)
    → planned all.parts all.clients all.openings asked own it ≡ planned all.parts all.clients all.openings (unchosen asked) own it
unfolding planned
partitions-same all asked own it = refl

pub hidden_tags_are_left_out : HiddenTagsAreLeftOut
hidden_tags_are_left_out all asked part library read (command.Status it) is = status_less asked part library it is
hidden_tags_are_left_out all asked part library read (command.Options it) is = ap transition_by (options-same asked part it)
hidden_tags_are_left_out all asked part library read (command.Playback it) is = ap transition_by (playback-same asked part library it)
hidden_tags_are_left_out all asked part library read (command.Queue it) is = queue_less asked part library it is
hidden_tags_are_left_out all asked part library read (command.Playlists it) is = playlists_less asked part library read it is
hidden_tags_are_left_out all asked part library read (command.Database it) is = database_less asked part library read it is
hidden_tags_are_left_out all asked part library read (command.Stickers it) is = refl
hidden_tags_are_left_out all asked part library read (command.Connection it) is = connection-same asked it
hidden_tags_are_left_out all asked part library read (command.Outputs it) is = ap transition_by (outputs-same asked part it)
hidden_tags_are_left_out all asked part library read (command.Messages it) is = ap transition_by (messages-same asked part it)
hidden_tags_are_left_out all asked part library read (command.Partitions it) is = partitions-same all asked part.index it
