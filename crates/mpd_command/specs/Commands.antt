-- All commands, by the tables of their groups.
use Rattle.std.specs.Prelude.{ℕ, List, Option, Result}
use Rattle.mpd_command.specs.Tables.{found, or_else, under}
use Rattle.mpd_command.specs.Connection.{rows as connection_rows}
use Rattle.mpd_command.specs.Database.{rows as database_rows}
use Rattle.mpd_command.specs.Messages.{rows as messages_rows}
use Rattle.mpd_command.specs.Options.{rows as options_rows}
use Rattle.mpd_command.specs.Outputs.{rows as outputs_rows}
use Rattle.mpd_command.specs.Partitions.{rows as partitions_rows}
use Rattle.mpd_command.specs.Playback.{rows as playback_rows}
use Rattle.mpd_command.specs.Playlists.{rows as playlists_rows}
use Rattle.mpd_command.specs.Queue.{rows as queue_rows}
use Rattle.mpd_command.specs.Status.{rows as status_rows}
use Rattle.mpd_command.specs.Stickers.{rows as stickers_rows}
use Rattle.command_arguments.specs.declared.readers.Misread.{Misread}
use Rattle.mpd_command.specs.declared.command.Command.{Command}
use Rattle.mpd_command.specs.declared.command_set.CommandSet.{CommandSet}
use Rattle.mpd_command.specs.declared.command.Command.TheVariants as command

-- the command of a name and the words after it, or its first fault, in the groups from the stickers on; nothing
-- where no table of these has the name
abbrev pub from_stickers : List ℕ → List (List ℕ) → Result (Option Command) Misread
from_stickers word words =
    or_else (under command.Stickers (found stickers_rows word words))
    (or_else (under command.Outputs (found outputs_rows word words))
    (or_else (under command.Messages (found messages_rows word words))
    (under command.Partitions (found partitions_rows word words))))

-- the same in the groups from the options on
abbrev pub from_options : CommandSet → List ℕ → List (List ℕ) → Result (Option Command) Misread
from_options set word words =
    or_else (under command.Options (found options_rows word words))
    (or_else (under command.Database (found (database_rows set) word words))
    (or_else (under command.Playlists (found (playlists_rows set) word words))
    (from_stickers word words)))

-- the same in all groups
abbrev pub command_of : CommandSet → List ℕ → List (List ℕ) → Result (Option Command) Misread
command_of set word words =
    or_else (under command.Connection (found (connection_rows set) word words))
    (or_else (under command.Status (found (status_rows set) word words))
    (or_else (under command.Playback (found (playback_rows set) word words))
    (or_else (under command.Queue (found (queue_rows set) word words))
    (from_options set word words))))
